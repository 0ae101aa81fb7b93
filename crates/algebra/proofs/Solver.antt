-- Identities of commutative rings, proved by computation: both sides are brought to the same normal form.
--   solve o L (x ∷ y ∷ []) (v 0 ⊗ v 1) (v 1 ⊗ v 0) refl : o.times x y ≡ o.times y x
use Rattle.std.proofs.Common.{◌≡◌, ℕ, zero, suc, ◌+◌, ◌*◌, Bool, true, false, cond, T, eqb, List, [], ◌∷◌, get_or, sym, refl, ap, ◌∙◌, subst, ap₂, eqb→eq}
use Prim.Native.Nat.{compare, Ordering}
use lib.Dec.{compare_is_eq}
use Rattle.algebra.specs.Rings.{Ops, Lawful, power, number}
use Rattle.algebra.specs.RingsLemmas.{plus_left, times_left, nought-plus, unit-times, plus_times, times-nought, nought-times, minus_minus, minus-nought, minus_plus, times-minus, minus-times, plus_cancel, number-add, number-times, power-add}

infixl 60 ◌⊕◌
infixl 60 ◌⊝◌
infixl 70 ◌⊗◌
infix 80 ⊖◌
infixl 90 ◌↑◌
-- `v i` is the variable of the index i, and `num n` the sum of n ones
pub data Expr : Type 0 where
  v : ℕ → Expr
  num : ℕ → Expr
  𝟎 : Expr
  𝟏 : Expr
  ◌⊕◌ : Expr → Expr → Expr
  ◌⊗◌ : Expr → Expr → Expr
  ⊖◌ : Expr → Expr
  ◌↑◌ : Expr → ℕ → Expr

abbrev pub ◌⊝◌ : Expr → Expr → Expr
a ⊝ b = a ⊕ (⊖ b)

-- what an expression stands for where the list gives the variables' values
abbrev pub means : (o : Ops) → List o.V → Expr → o.V
means o env (v i) = get_or env i o.nought
means o env (num n) = number o n
means o env 𝟎 = o.nought
means o env 𝟏 = o.unit
means o env (a ⊕ b) = o.plus (means o env a) (means o env b)
means o env (a ⊗ b) = o.times (means o env a) (means o env b)
means o env (⊖ a) = o.minus (means o env a)
means o env (a ↑ n) = power o (means o env a) n

-- a monomial is the list of its exponents, variable 0 first
abbrev pub order : List ℕ → List ℕ → Ordering
order [] [] = Ordering.eq
order [] (b ∷ k) = Ordering.lt
order (a ∷ l) [] = Ordering.gt
order (a ∷ l) (b ∷ k) = elim (compare a b) [ Ordering.lt ↦ Ordering.lt | Ordering.eq ↦ order l k | Ordering.gt ↦ Ordering.gt ]

abbrev pub joined : List ℕ → List ℕ → List ℕ
joined [] k = k
joined (a ∷ l) [] = a ∷ l
joined (a ∷ l) (b ∷ k) = (a + b) ∷ joined l k

abbrev pub alone : ℕ → List ℕ
alone zero = 1 ∷ []
alone (suc i) = 0 ∷ alone i

-- `term p n m r` is p - n times the monomial m, and r; the monomials of a normal form rise
pub data Poly : Type 0 where
  none : Poly
  term : ℕ → ℕ → List ℕ → Poly → Poly

abbrev pub pick : Ordering → Poly → Poly → Poly → Poly
pick Ordering.lt x y z = x
pick Ordering.eq x y z = y
pick Ordering.gt x y z = z

-- a term with the rest, or the rest alone where the coefficient is zero
abbrev pub with_term : ℕ → ℕ → List ℕ → Poly → Poly
with_term p n m r = let t = term p n m r in cond (eqb p n) r t

-- the sum of `term p n m r` and another, where f adds r
abbrev pub merge : ℕ → ℕ → List ℕ → Poly → (Poly → Poly) → Poly → Poly
merge p n m r f none = term p n m r
merge p n m r f (term p' n' m' q) =
    let x : Poly = term p n m (f (term p' n' m' q)) in
    let y : Poly = with_term (p + p') (n + n') m (f q) in
    let z : Poly = term p' n' m' (merge p n m r f q) in
    pick (order m m') x y z

abbrev pub add : Poly → Poly → Poly
add none q = q
add (term p n m r) q = merge p n m r (add r) q

abbrev pub scale : ℕ → ℕ → List ℕ → Poly → Poly
scale p n m none = none
scale p n m (term p' n' m' q) = term (p * p' + n * n') (p * n' + n * p') (joined m m') (scale p n m q)

abbrev pub mul : Poly → Poly → Poly
mul none q = none
mul (term p n m r) q = add (scale p n m q) (mul r q)

abbrev pub neg : Poly → Poly
neg none = none
neg (term p n m r) = term n p m (neg r)

abbrev pub raise : Poly → ℕ → Poly
raise a zero = term 1 0 [] none
raise a (suc k) = mul a (raise a k)

abbrev pub normal : Expr → Poly
normal (v i) = term 1 0 (alone i) none
normal (num n) = term n 0 [] none
normal 𝟎 = none
normal 𝟏 = term 1 0 [] none
normal (a ⊕ b) = add (normal a) (normal b)
normal (a ⊗ b) = mul (normal a) (normal b)
normal (⊖ a) = neg (normal a)
normal (a ↑ n) = raise (normal a) n

-- every coefficient is zero
abbrev pub vanishes : Poly → Bool
vanishes none = true
vanishes (term p n m r) = elim (eqb p n) [ true ↦ vanishes r | false ↦ false ]

abbrev pub equal : Expr → Expr → Bool
equal a b = vanishes (normal (a ⊝ b))

compare_eq : (a b : ℕ) → compare a b ≡ Ordering.eq → a ≡ b
compare_eq a b e = eqb→eq a b (subst (λ (r : Ordering). T (compare_is_eq r)) (sym e) tt)

order_same : (l k : List ℕ) → order l k ≡ Ordering.eq → l ≡ k
order_same [] [] e = refl
order_same [] (b ∷ k) e = cc
order_same (a ∷ l) [] e = cc
order_same (a ∷ l) (b ∷ k) e = go (order_same l k) (compare a b) refl e
  where
    go : (order l k ≡ Ordering.eq → l ≡ k) → (r : Ordering) → compare a b ≡ r → elim r as (λ s. Ordering) [ Ordering.lt ↦ Ordering.lt | Ordering.eq ↦ order l k | Ordering.gt ↦ Ordering.gt ] ≡ Ordering.eq → ◌≡◌ {A = List ℕ} (a ∷ l) (b ∷ k)
    go h Ordering.lt c d = cc
    go h Ordering.eq c d = ap₂ {C = List ℕ} (λ x y. x ∷ y) (compare_eq a b c) (h d)
    go h Ordering.gt c d = cc

-- the values of a coefficient, a monomial and a normal form
abbrev coef : (o : Ops) → ℕ → ℕ → o.V
coef o p n = o.plus (number o p) (o.minus (number o n))

abbrev mono : (o : Ops) → List o.V → List ℕ → o.V
mono o env [] = o.unit
mono o [] (e ∷ l) = o.times (power o o.nought e) (mono o [] l)
mono o (x ∷ env) (e ∷ l) = o.times (power o x e) (mono o env l)

abbrev poly : (o : Ops) → List o.V → Poly → o.V
poly o env none = o.nought
poly o env (term p n m r) = o.plus (o.times (coef o p n) (mono o env m)) (poly o env r)

module _ (o : Ops) (L : Lawful o) where
  plus_swap : (a b c d : o.V) → o.plus (o.plus a b) (o.plus c d) ≡ o.plus (o.plus a c) (o.plus b d)
  plus_swap a b c d = L.plus_assoc a b (o.plus c d) ∙ ap (o.plus a) (plus_left o L b c d) ∙ sym (L.plus_assoc a c (o.plus b d))

  times_swap : (a b c d : o.V) → o.times (o.times a b) (o.times c d) ≡ o.times (o.times a c) (o.times b d)
  times_swap a b c d = L.times_assoc a b (o.times c d) ∙ ap (o.times a) (times_left o L b c d) ∙ sym (L.times_assoc a c (o.times b d))

  coef-add : (p n p' n' : ℕ) → coef o (p + p') (n + n') ≡ o.plus (coef o p n) (coef o p' n')
  coef-add p n p' n' = cc (
    number-add o L p p',
    number-add o L n n',
    minus_plus o L (number o n) (number o n'),
    plus_swap (number o p) (number o p') (o.minus (number o n)) (o.minus (number o n')),
  )

  cross : (a b c d : o.V) → o.times (o.plus a (o.minus b)) (o.plus c (o.minus d))
      ≡ o.plus (o.plus (o.times a c) (o.times b d)) (o.minus (o.plus (o.times a d) (o.times b c)))
  cross a b c d =
      let c-d = o.plus c (o.minus d) in
      let ac = o.times a c in let ad = o.times a d in let bc = o.times b c in let bd = o.times b d in
      cc (
        plus_times o L a (o.minus b) c-d,
        L.times-plus a c (o.minus d),
        times-minus o L a d,
        minus-times o L b c-d,
        L.times-plus b c (o.minus d),
        times-minus o L b d,
        minus_plus o L bc (o.minus bd),
        minus_minus o L bd,
        L.plus_comm (o.minus bc) bd,
        plus_swap ac (o.minus ad) bd (o.minus bc),
        minus_plus o L ad bc,
      )

  coef-mul : (p n p' n' : ℕ) → coef o (p * p' + n * n') (p * n' + n * p') ≡ o.times (coef o p n) (coef o p' n')
  coef-mul p n p' n' = cc (
    cross (number o p) (number o n) (number o p') (number o n'),
    number-add o L (p * p') (n * n'),
    number-add o L (p * n') (n * p'),
    number-times o L p p',
    number-times o L n n',
    number-times o L p n',
    number-times o L n p',
  )

  coef-neg : (p n : ℕ) → coef o n p ≡ o.minus (coef o p n)
  coef-neg p n = cc (minus_plus o L (number o p) (o.minus (number o n)), minus_minus o L (number o n), L.plus_comm (number o n) (o.minus (number o p)))

  coef_same : (p n : ℕ) → p ≡ n → coef o p n ≡ o.nought
  coef_same p n e = cc (L.plus-minus (number o n))

  coef-whole : (n : ℕ) → coef o n 0 ≡ number o n
  coef-whole n = ap (o.plus (number o n)) (minus-nought o L) ∙ L.plus-nought (number o n)

  alone-mono : (env : List o.V) (i : ℕ) → mono o env (alone i) ≡ get_or env i o.nought
  alone-mono [] zero = L.times-unit (power o o.nought 1) ∙ L.times-unit o.nought
  alone-mono (x ∷ env) zero = L.times-unit (power o x 1) ∙ L.times-unit x
  alone-mono [] (suc i) = unit-times o L (mono o [] (alone i)) ∙ alone-mono [] i
  alone-mono (x ∷ env) (suc i) = unit-times o L (mono o env (alone i)) ∙ alone-mono env i

  joined-mono : (env : List o.V) (l k : List ℕ) → mono o env (joined l k) ≡ o.times (mono o env l) (mono o env k)
  joined-mono env [] k = sym (unit-times o L (mono o env k))
  joined-mono env (a ∷ l) [] = sym (L.times-unit (mono o env (a ∷ l)))
  joined-mono [] (a ∷ l) (b ∷ k) = cc (power-add o L o.nought a b, joined-mono [] l k, times_swap (power o o.nought a) (power o o.nought b) (mono o [] l) (mono o [] k))
  joined-mono (x ∷ env) (a ∷ l) (b ∷ k) = cc (power-add o L x a b, joined-mono env l k, times_swap (power o x a) (power o x b) (mono o env l) (mono o env k))

module _ (o : Ops) (L : Lawful o) (env : List o.V) where
  pick-poly : (r : Ordering) (x y z : Poly) (t : o.V) → poly o env x ≡ t → (r ≡ Ordering.eq → poly o env y ≡ t) → poly o env z ≡ t → poly o env (pick r x y z) ≡ t
  pick-poly Ordering.lt x y z t a b c = a
  pick-poly Ordering.eq x y z t a b c = b refl
  pick-poly Ordering.gt x y z t a b c = c

  with_term_poly : (p n : ℕ) (m : List ℕ) (r : Poly) → poly o env (with_term p n m r) ≡ o.plus (o.times (coef o p n) (mono o env m)) (poly o env r)
  with_term_poly p n m r = go (eqb p n) (eqb→eq p n)
    where
      go : (b : Bool) → (T b → p ≡ n) → poly o env (cond b r (term p n m r)) ≡ o.plus (o.times (coef o p n) (mono o env m)) (poly o env r)
      go true e = cc (coef_same o L p n (e tt), nought-times o L (mono o env m), nought-plus o L (poly o env r))
      go false e = refl

  merge-poly : (p n : ℕ) (m : List ℕ) (r : Poly) (f : Poly → Poly) → ((q : Poly) → poly o env (f q) ≡ o.plus (poly o env r) (poly o env q))
      → (q : Poly) → poly o env (merge p n m r f q) ≡ o.plus (poly o env (term p n m r)) (poly o env q)
  merge-poly p n m r f h none = sym (L.plus-nought (poly o env (term p n m r)))
  merge-poly p n m r f h (term p' n' m' q) =
      let c = o.times (coef o p n) (mono o env m) in
      let c' = o.times (coef o p' n') (mono o env m') in
      pick-poly (order m m') (term p n m (f (term p' n' m' q))) (with_term (p + p') (n + n') m (f q)) (term p' n' m' (merge p n m r f q)) _
      (ap (o.plus c) (h (term p' n' m' q)) ∙ sym (L.plus_assoc c (poly o env r) (poly o env (term p' n' m' q))))
      (λ e. with_term_poly (p + p') (n + n') m (f q) ∙ cc (
        coef-add o L p n p' n',
        order_same m m' e,
        plus_times o L (coef o p n) (coef o p' n') (mono o env m),
        h q,
        plus_swap o L c c' (poly o env r) (poly o env q),
      ))
      (ap (o.plus c') (merge-poly p n m r f h q) ∙ plus_left o L c' (poly o env (term p n m r)) (poly o env q))

  add-poly : (a b : Poly) → poly o env (add a b) ≡ o.plus (poly o env a) (poly o env b)
  add-poly none b = sym (nought-plus o L (poly o env b))
  add-poly (term p n m r) b = merge-poly p n m r (add r) (add-poly r) b

  scale-poly : (p n : ℕ) (m : List ℕ) (q : Poly) → poly o env (scale p n m q) ≡ o.times (o.times (coef o p n) (mono o env m)) (poly o env q)
  scale-poly p n m none = sym (times-nought o L (o.times (coef o p n) (mono o env m)))
  scale-poly p n m (term p' n' m' q) =
      let c = o.times (coef o p n) (mono o env m) in
      let c' = o.times (coef o p' n') (mono o env m') in
      cc (
        coef-mul o L p n p' n',
        joined-mono o L env m m',
        times_swap o L (coef o p n) (coef o p' n') (mono o env m) (mono o env m'),
        scale-poly p n m q,
        L.times-plus c c' (poly o env q),
      )

  mul-poly : (a b : Poly) → poly o env (mul a b) ≡ o.times (poly o env a) (poly o env b)
  mul-poly none b = sym (nought-times o L (poly o env b))
  mul-poly (term p n m r) b =
      let c = o.times (coef o p n) (mono o env m) in
      cc (add-poly (scale p n m b) (mul r b), scale-poly p n m b, mul-poly r b, plus_times o L c (poly o env r) (poly o env b))

  neg-poly : (a : Poly) → poly o env (neg a) ≡ o.minus (poly o env a)
  neg-poly none = sym (minus-nought o L)
  neg-poly (term p n m r) = cc (coef-neg o L p n, minus-times o L (coef o p n) (mono o env m), neg-poly r, minus_plus o L (o.times (coef o p n) (mono o env m)) (poly o env r))

  -- a single term
  single : (n : ℕ) (m : List ℕ) → poly o env (term n 0 m none) ≡ o.times (number o n) (mono o env m)
  single n m = cc (L.plus-nought (o.times (coef o n 0) (mono o env m)), coef-whole o L n)

  single_one : (m : List ℕ) → poly o env (term 1 0 m none) ≡ mono o env m
  single_one m = single 1 m ∙ cc (L.plus-nought o.unit, unit-times o L (mono o env m))

  raise-poly : (a : Poly) (k : ℕ) → poly o env (raise a k) ≡ power o (poly o env a) k
  raise-poly a zero = single_one []
  raise-poly a (suc k) = mul-poly a (raise a k) ∙ ap (o.times (poly o env a)) (raise-poly a k)

  normal-poly : (a : Expr) → poly o env (normal a) ≡ means o env a
  normal-poly (v i) = single_one (alone i) ∙ alone-mono o L env i
  normal-poly (num n) = single n [] ∙ L.times-unit (number o n)
  normal-poly 𝟎 = refl
  normal-poly 𝟏 = single_one []
  normal-poly (a ⊕ b) = add-poly (normal a) (normal b) ∙ cc (normal-poly a, normal-poly b)
  normal-poly (a ⊗ b) = mul-poly (normal a) (normal b) ∙ cc (normal-poly a, normal-poly b)
  normal-poly (⊖ a) = neg-poly (normal a) ∙ ap o.minus (normal-poly a)
  normal-poly (a ↑ n) = raise-poly (normal a) n ∙ ap (λ t. power o t n) (normal-poly a)

  vanishes-poly : (a : Poly) → vanishes a ≡ true → poly o env a ≡ o.nought
  vanishes-poly none e = refl
  vanishes-poly (term p n m r) e = go (vanishes-poly r) (eqb p n) (eqb→eq p n) e
    where
      go : (vanishes r ≡ true → poly o env r ≡ o.nought) → (b : Bool) → (T b → p ≡ n)
          → elim b as (λ s. Bool) [ true ↦ vanishes r | false ↦ false ] ≡ true → poly o env (term p n m r) ≡ o.nought
      go h true f d = cc (coef_same o L p n (f tt), nought-times o L (mono o env m), h d, L.plus-nought o.nought)
      go h false f d = cc

  -- an identity: `refl` is the last argument
  pub solve : (a b : Expr) → equal a b ≡ true → means o env a ≡ means o env b
  solve a b t =
      let x = means o env a in let y = means o env b in
      plus_cancel o L (o.minus y) x y
      (cc (sym (normal-poly (a ⊝ b)), vanishes-poly (normal (a ⊝ b)) t, L.plus_comm x (o.minus y), L.plus_comm y (o.minus y), L.plus-minus y))

  drop_multiple : (k a b : Expr) → means o env a ≡ means o env b → (x : o.V) → o.plus x (means o env (k ⊗ (a ⊝ b))) ≡ x
  drop_multiple k a b h x =
      let p = means o env a in let q = means o env b in
      cc (L.plus-minus q, times-nought o L (means o env k), L.plus-nought x)

  -- c ≡ d from a ≡ b, where c - d is k times a - b
  pub solve₁ : (c d : Expr) (k a b : Expr) → means o env a ≡ means o env b
      → equal c (d ⊕ k ⊗ (a ⊝ b)) ≡ true → means o env c ≡ means o env d
  solve₁ c d k a b h t = solve c (d ⊕ k ⊗ (a ⊝ b)) t ∙ drop_multiple k a b h (means o env d)

  pub solve₂ : (c d : Expr) (k a b : Expr) → means o env a ≡ means o env b → (k' a' b' : Expr) → means o env a' ≡ means o env b'
      → equal c (d ⊕ k ⊗ (a ⊝ b) ⊕ k' ⊗ (a' ⊝ b')) ≡ true → means o env c ≡ means o env d
  solve₂ c d k a b h k' a' b' h' t = solve₁ c (d ⊕ k ⊗ (a ⊝ b)) k' a' b' h' t ∙ drop_multiple k a b h (means o env d)

  pub solve₃ : (c d : Expr) (k a b : Expr) → means o env a ≡ means o env b → (k' a' b' : Expr) → means o env a' ≡ means o env b'
      → (k'' a'' b'' : Expr) → means o env a'' ≡ means o env b''
      → equal c (d ⊕ k ⊗ (a ⊝ b) ⊕ k' ⊗ (a' ⊝ b') ⊕ k'' ⊗ (a'' ⊝ b'')) ≡ true → means o env c ≡ means o env d
  solve₃ c d k a b h k' a' b' h' k'' a'' b'' h'' t = solve₂ c (d ⊕ k ⊗ (a ⊝ b)) k' a' b' h' k'' a'' b'' h'' t ∙ drop_multiple k a b h (means o env d)
