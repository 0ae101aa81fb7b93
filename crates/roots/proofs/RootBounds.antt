-- How many roots there are: at most the degree, also counted with multiplicity.
use Rattle.std.proofs.Common.{◌≡◌, ℕ, zero, suc, ◌-◌, ◌<◌, ◌≤◌, ◌≢◌, List, [], ◌∷◌, map, length, sym, refl, ap, ◌∙◌, subst, inl, inr, arith}
use Rattle.algebra.specs.Rings.{Ops, Lawful}
use Rattle.algebra.specs.Fields.{Invertible}
use Rattle.algebra.specs.Polynomials.{eval, coefficient, product}
use Rattle.algebra.proofs.Fields.{decide, no_divisors}
use Rattle.algebra.proofs.Solver.{v, 𝟎, 𝟏, ◌⊕◌, ◌⊗◌, ◌⊝◌, solve, solve₁}
use Rattle.roots.specs.Division.{linear, linear_power, Same, Divides, Multiplicity, quotient}
use Rattle.roots.specs.Lists.{In, Distinct, added}
use Rattle.roots.proofs.Products.{eval_same, product_same, product_left}
use Rattle.roots.proofs.Division.{length-quotient, quotient-top, divide_value, eval_multiple, divide_root, quotient_same, quotient-product}
use Rattle.roots.proofs.Multiplicities.{divided, not_above, divides_same, divides_zero, divides_suc, divides_root, divides_quotient, divides_back, nonroot_multiplicity, root_multiplicity}

module _ (o : Ops) (L : Lawful o) where
  -- a constant has one value
  pub constant_value : (f : List o.V) (x : o.V) → length f ≡ 1 → eval o f x ≡ coefficient o f 0
  constant_value [] x e = refl
  constant_value (c ∷ []) x e = solve o L (c ∷ x ∷ []) (v 0 ⊕ v 1 ⊗ 𝟎) (v 0) refl
  constant_value (c ∷ (b ∷ f)) x e = absurd (bad e)
    where
      bad : suc (suc (length f)) ≡ 1 → ⊥
      bad e = omega arith

  pub quotient_long : (a : o.V) (d : ℕ) (f : List o.V) → length f ≡ suc (suc d) → length (quotient o a f) ≡ suc d
  quotient_long a d f h = let e = length-quotient o L a f in omega arith

  pub divided-length : (a : o.V) (e d : ℕ) (f : List o.V) → e ≤ d → length f ≡ suc d → length (divided o a e f) ≡ suc (d - e)
  divided-length a zero d f l h = h ∙ omega arith
  divided-length a (suc e) zero f l h = absurd (bad l)
    where
      bad : suc e ≤ 0 → ⊥
      bad l = omega arith
  divided-length a (suc e) (suc d) f l h = divided-length a e d (quotient o a f) (omega arith) (quotient_long a d f h) ∙ omega arith

  -- division keeps the top coefficient
  pub divided-top : (a : o.V) (e d : ℕ) (f : List o.V) → e ≤ d → length f ≡ suc d → coefficient o (divided o a e f) (d - e) ≡ coefficient o f d
  divided-top a zero d f l h = ap (coefficient o f) (none d)
    where
      none : (d : ℕ) → d - 0 ≡ d
      none d = omega arith
  divided-top a (suc e) zero f l h = absurd (bad l)
    where
      bad : suc e ≤ 0 → ⊥
      bad l = omega arith
  divided-top a (suc e) (suc d) f l h =
      ap (coefficient o (divided o a e (quotient o a f))) (fewer d e)
      ∙ divided-top a e d (quotient o a f) (omega arith) (quotient_long a d f h) ∙ quotient-top o L a f d h
    where
      fewer : (d e : ℕ) → suc d - suc e ≡ d - e
      fewer d e = omega arith

  pub divides_bound : (a : o.V) (e d : ℕ) (f : List o.V) → length f ≡ suc d → coefficient o f d ≢ o.nought → Divides o (linear_power o a e) f → e ≤ d
  divides_bound a e d f h t D = not_above e d (λ l. t (constant l))
    where
      none : (d : ℕ) → d - d ≡ 0
      none d = omega arith

      constant : d < e → coefficient o f d ≡ o.nought
      constant l =
          let g = divided o a d f in
          sym (divided-top a d d f (omega arith) h) ∙ ap (coefficient o g) (none d)
          ∙ sym (constant_value g a (divided-length a d d f (omega arith) h ∙ omega arith)) ∙ divides_back o L a e f D d l

  pub multiplicity_bound : (a : o.V) (e d : ℕ) (f : List o.V) → length f ≡ suc d → coefficient o f d ≢ o.nought → Multiplicity o f a e → e ≤ d
  multiplicity_bound a e d f h t m = divides_bound a e d f h t m.divides

  -- every value has a multiplicity, zero where it is no root
  pub multiplicity_some : (a : o.V) (d : ℕ) (f : List o.V) → length f ≡ suc d → coefficient o f d ≢ o.nought → (e : ℕ) × Multiplicity o f a e
  multiplicity_some a zero f h t = (0, nonroot_multiplicity o L a f (λ z. t (sym (constant_value f a h) ∙ z)))
  multiplicity_some a (suc d) f h t =
      elim (decide o L (eval o f a) o.nought) [
        | inl r ↦ (let m = multiplicity_some a d (quotient o a f) (quotient_long a d f h) (λ z. t (sym (quotient-top o L a f d h) ∙ z)) in
            (suc m.0, root_multiplicity o L a m.0 f r m.1))
        | inr n ↦ (0, nonroot_multiplicity o L a f n)
      ]

module _ (o : Ops) (L : Lawful o) (inv : Invertible o) where
  -- a root of f other than a is one of the quotient
  pub quotient_root : (a y : o.V) (f : List o.V) → eval o f a ≡ o.nought → eval o f y ≡ o.nought → y ≢ a → eval o (quotient o a f) y ≡ o.nought
  quotient_root a y f r s n =
      let Q = eval o (quotient o a f) y in
      let z : o.times (o.plus y (o.minus a)) Q ≡ o.nought =
      sym (L.plus-nought (o.times (o.plus y (o.minus a)) Q)) ∙ cc (divide_value o L a f y, r, s) in
      elim (no_divisors o L inv (o.plus y (o.minus a)) Q z) [
        | inl h ↦ absurd (n (solve₁ o L (y ∷ a ∷ []) (v 0) (v 1) 𝟏 (v 0 ⊝ v 1) 𝟎 h refl))
        | inr h ↦ h
      ]

  pub roots_bound : (d : ℕ) (f : List o.V) → length f ≡ suc d → coefficient o f d ≢ o.nought
      → (xs : List o.V) → Distinct xs → ((x : o.V) → In x xs → eval o f x ≡ o.nought) → length xs ≤ d
  roots_bound d f h t [] D r = omega arith
  roots_bound zero f h t (x ∷ xs) D r = absurd (t (sym (constant_value o L f x h) ∙ r x (inl refl)))
  roots_bound (suc d) f h t (x ∷ xs) D r =
      let b = roots_bound d (quotient o x f) (quotient_long o L x d f h) (λ z. t (sym (quotient-top o L x f d h) ∙ z)) xs D.1
      (λ y i. quotient_root x y f (r x (inl refl)) (r y (inr i)) (λ e. D.0 (subst (λ (w : o.V). In w xs) e i))) in
      omega arith

  -- dividing by x - a leaves what powers of x - y divide
  pub quotient_divides : (a y : o.V) (n : ℕ) (f : List o.V) → eval o f a ≡ o.nought → y ≢ a → Divides o (linear_power o y n) f → Divides o (linear_power o y n) (quotient o a f)
  quotient_divides a y zero f r ne D = divides_zero o L y (quotient o a f)
  quotient_divides a y (suc n) f r ne D =
      let A = linear o a in
      let Y = linear o y in
      let q = quotient o a f in
      let s : eval o q y ≡ o.nought = quotient_root a y f r (divides_root o L y n f D) ne in
      let p = quotient o y q in
      let w : Same o f (product o Y (product o A p)) = λ k.
      divide_root o L a f r k ∙ product_same o L A A q (product o Y p) (λ i. refl) (divide_root o L y q s) k ∙ product_left o L A Y p k in
      let u : Same o (quotient o y f) (product o A p) = λ k.
      quotient_same o L y f (product o Y (product o A p)) w k ∙ quotient-product o L y (product o A p) k in
      let E = quotient_divides a y n (quotient o y f) (eval_same o L (quotient o y f) (product o A p) a u ∙ eval_multiple o L a p) ne (divides_quotient o L y n f D) in
      divides_suc o L y n q s (divides_same o L (linear_power o y n) p (quotient o a (quotient o y f))
      (λ k. sym (quotient_same o L a (quotient o y f) (product o A p) u k ∙ quotient-product o L a p k)) E)

  pub divided_divides : (a y : o.V) (e n : ℕ) (f : List o.V) → y ≢ a → Divides o (linear_power o a e) f → Divides o (linear_power o y n) f → Divides o (linear_power o y n) (divided o a e f)
  divided_divides a y zero n f ne D E = E
  divided_divides a y (suc e) n f ne D E =
      divided_divides a y e n (quotient o a f) ne (divides_quotient o L a e f D) (quotient_divides a y n f (divides_root o L a e f D) ne E)

  -- each pair is a value and the power of x - value that divides f
  pub powers_bound : (d : ℕ) (f : List o.V) → length f ≡ suc d → coefficient o f d ≢ o.nought
      → (rs : List (o.V × ℕ)) → Distinct (map (λ r. r.0) rs) → ((r : o.V × ℕ) → In r rs → Divides o (linear_power o r.0 r.1) f)
      → added (map (λ r. r.1) rs) ≤ d
  powers_bound d f h t [] D r = omega arith
  powers_bound d f h t (p ∷ rs) D r =
      let a = p.0 in
      let e = p.1 in
      let E = r p (inl refl) in
      let l : e ≤ d = divides_bound o L a e d f h t E in
      let b = powers_bound (d - e) (divided o a e f) (divided-length o L a e d f l h) (λ z. t (sym (divided-top o L a e d f l h) ∙ z)) rs D.1
      (λ s i. divided_divides a s.0 e s.1 f (λ z. D.0 (subst (λ (w : o.V). In w (map (λ r. r.0) rs)) z (first s rs i))) E (r s (inr i))) in
      omega arith
    where
      first : (s : o.V × ℕ) (rs : List (o.V × ℕ)) → In s rs → In s.0 (map (λ r. r.0) rs)
      first s [] i = absurd i
      first s (p ∷ rs) (inl z) = inl (ap (λ r. r.0) z)
      first s (p ∷ rs) (inr i) = inr (first s rs i)

  pub multiplicities_bound : (d : ℕ) (f : List o.V) → length f ≡ suc d → coefficient o f d ≢ o.nought
      → (rs : List (o.V × ℕ)) → Distinct (map (λ r. r.0) rs) → ((r : o.V × ℕ) → In r rs → Multiplicity o f r.0 r.1)
      → added (map (λ r. r.1) rs) ≤ d
  multiplicities_bound d f h t rs D r = powers_bound d f h t rs D (λ s i. (r s i).divides)
