-- Weighted sums of the powers of distinct elements: where as many as there are elements vanish, every weight does.
use Rattle.std.proofs.Common.{◌≡◌, ℕ, zero, suc, ◌<◌, true, false, cond, eqb, ◌≢◌, List, [], ◌∷◌, map, length, sym, refl, ap, ◌∙◌, subst, inl, inr, arith}
use lib.ListN.{length-map}
use Rattle.std.proofs.lemmas.Simd.{map-map}
use Rattle.std.proofs.lemmas.Bool.{cond_both, cond-true, cond-false, eqb-false, eq-eqb, ne_eqb}
use Rattle.algebra.specs.Rings.{Ops, Lawful, power}
use Rattle.algebra.specs.Fields.{Invertible}
use Rattle.algebra.proofs.Fields.{no_divisors}
use Rattle.algebra.proofs.Solver.{v, 𝟎, 𝟏, ◌⊕◌, ◌⊗◌, ⊖◌, ◌⊝◌, solve, solve₁, solve₂}
use Rattle.roots.specs.Lists.{In, Distinct}
use Rattle.tally.specs.Nets.{weighted_sum}
use Rattle.roots.proofs.ListLaws.{map_in}

abbrev pub first : {X Y : Type 0} → X × Y → X
first p = p.0

pub in_map : {X Y : Type 0} (g : X → Y) (x : X) (xs : List X) → In x xs → In (g x) (map g xs)
in_map g x [] i = absurd i
in_map g x (y ∷ xs) (inl e) = inl (ap g e)
in_map g x (y ∷ xs) (inr i) = inr (in_map g x xs i)

-- the elements of the codes cs with the weights that f gives them
abbrev pub weighing : (o : Ops) → (ℕ → o.V) → (ℕ → o.V) → List ℕ → List (o.V × o.V)
weighing o at f cs = map (λ c. (at c, f c)) cs

-- each weight times the distance of its element from a
abbrev shift : (o : Ops) → o.V → o.V × o.V → o.V × o.V
shift o a p = (p.0, o.times p.1 (o.plus p.0 (o.minus a)))

module _ (o : Ops) (L : Lawful o) where
  shift-sum : (a : o.V) (ys : List (o.V × o.V)) (k : ℕ)
      → weighted_sum o (map (shift o a) ys) k ≡ o.plus (weighted_sum o ys (suc k)) (o.minus (o.times a (weighted_sum o ys k)))
  shift-sum a [] k = solve o L (a ∷ []) 𝟎 (𝟎 ⊝ v 0 ⊗ 𝟎) refl
  shift-sum a (y ∷ ys) k = solve₁ o L
      (y.0 ∷ y.1 ∷ a ∷ power o y.0 k ∷ weighted_sum o ys (suc k) ∷ weighted_sum o ys k ∷ weighted_sum o (map (shift o a) ys) k ∷ [])
      (v 1 ⊗ (v 0 ⊝ v 2) ⊗ v 3 ⊕ v 6) ((v 1 ⊗ (v 0 ⊗ v 3) ⊕ v 4) ⊝ v 2 ⊗ (v 1 ⊗ v 3 ⊕ v 5))
      𝟏 (v 6) (v 4 ⊝ v 2 ⊗ v 5) (shift-sum a ys k) refl

  -- where the weights vanish, so does the sum
  pub weightless : (xs : List (o.V × o.V)) (k : ℕ) → ((p : o.V × o.V) → In p xs → p.1 ≡ o.nought) → weighted_sum o xs k ≡ o.nought
  weightless [] k h = refl
  weightless (x ∷ xs) k h = solve₂ o L (x.1 ∷ power o x.0 k ∷ weighted_sum o xs k ∷ [])
      (v 0 ⊗ v 1 ⊕ v 2) 𝟎 (v 1) (v 0) 𝟎 (h x (inl refl)) 𝟏 (v 2) 𝟎 (weightless xs k (λ p i. h p (inr i))) refl

  -- the sums of the shifted weights vanish with those of all
  shift_none : (x : o.V × o.V) (ys : List (o.V × o.V)) → ((k : ℕ) → k < suc (length ys) → weighted_sum o (x ∷ ys) k ≡ o.nought)
      → (k : ℕ) → k < length (map (shift o x.0) ys) → weighted_sum o (map (shift o x.0) ys) k ≡ o.nought
  shift_none x ys h k l =
      let m : k < length ys = omega (arith, length-map ys (shift o x.0)) in
      shift-sum x.0 ys k ∙ solve₂ o L
      (x.0 ∷ x.1 ∷ power o x.0 k ∷ weighted_sum o ys (suc k) ∷ weighted_sum o ys k ∷ [])
      (v 3 ⊝ v 0 ⊗ v 4) 𝟎
      𝟏 (v 1 ⊗ (v 0 ⊗ v 2) ⊕ v 3) 𝟎 (h (suc k) (omega arith))
      (⊖ v 0) (v 1 ⊗ v 2 ⊕ v 4) 𝟎 (h k (omega arith)) refl

  -- a weight whose others vanish
  lone : (x : o.V × o.V) (ys : List (o.V × o.V)) → weighted_sum o (x ∷ ys) 0 ≡ o.nought
      → ((p : o.V × o.V) → In p ys → p.1 ≡ o.nought) → x.1 ≡ o.nought
  lone x ys h rest = solve₂ o L (x.1 ∷ weighted_sum o ys 0 ∷ []) (v 0) 𝟎 𝟏 (v 0 ⊗ 𝟏 ⊕ v 1) 𝟎 h (⊖ 𝟏) (v 1) 𝟎 (weightless ys 0 rest) refl

module _ (o : Ops) (L : Lawful o) (inv : Invertible o) where
  unshifted : (a : o.V) (ys : List (o.V × o.V)) → (In a (map first ys) → ⊥)
      → ((p : o.V × o.V) → In p (map (shift o a) ys) → p.1 ≡ o.nought) → (p : o.V × o.V) → In p ys → p.1 ≡ o.nought
  unshifted a ys out h p j =
      elim (no_divisors o L inv p.1 (o.plus p.0 (o.minus a)) (h (shift o a p) (in_map (shift o a) p ys j))) [
        | inl g ↦ g
        | inr g ↦ absurd (out (subst (λ (t : o.V). In t (map first ys))
            (solve₁ o L (p.0 ∷ a ∷ []) (v 0) (v 1) 𝟏 (v 0 ⊝ v 1) 𝟎 g refl) (in_map first p ys j)))
      ]

  independent_at : (n : ℕ) (xs : List (o.V × o.V)) → length xs ≡ n → Distinct (map first xs)
      → ((k : ℕ) → k < length xs → weighted_sum o xs k ≡ o.nought) → (p : o.V × o.V) → In p xs → p.1 ≡ o.nought
  independent_at zero [] e D h p i = absurd i
  independent_at zero (x ∷ xs) e D h p i = absurd (omega arith)
  independent_at (suc n) [] e D h p i = absurd i
  independent_at (suc n) (x ∷ ys) e D h p i =
      let rest : (p : o.V × o.V) → In p ys → p.1 ≡ o.nought =
      unshifted x.0 ys D.0 (independent_at n (map (shift o x.0) ys) (omega (arith, length-map ys (shift o x.0)))
      (subst (λ (l : List o.V). Distinct l) (sym (map-map first (shift o x.0) ys)) D.1) (shift_none o L x ys h)) in
      elim i [ inl g ↦ ap (λ t. t.1) g ∙ lone o L x ys (h 0 (omega arith)) rest | inr j ↦ rest p j ]

  pub independent : (xs : List (o.V × o.V)) → Distinct (map first xs)
      → ((k : ℕ) → k < length xs → weighted_sum o xs k ≡ o.nought) → (p : o.V × o.V) → In p xs → p.1 ≡ o.nought
  independent xs D h p i = independent_at (length xs) xs refl D h p i

module _ (o : Ops) (L : Lawful o) (at : ℕ → o.V) where
  pub weighted_same : (f g : ℕ → o.V) (cs : List ℕ) (k : ℕ) → ((c : ℕ) → In c cs → f c ≡ g c)
      → weighted_sum o (weighing o at f cs) k ≡ weighted_sum o (weighing o at g cs) k
  weighted_same f g [] k h = refl
  weighted_same f g (c ∷ cs) k h = cc (h c (inl refl), weighted_same f g cs k (λ d i. h d (inr i)))

  pub weighted-nought : (f : ℕ → o.V) (cs : List ℕ) (k : ℕ) → ((c : ℕ) → In c cs → f c ≡ o.nought)
      → weighted_sum o (weighing o at f cs) k ≡ o.nought
  weighted-nought f cs k h = weightless o L (weighing o at f cs) k (λ p i. (let t = map_in (λ c. (at c, f c)) p cs i in ap (λ x. x.1) t.2 ∙ h t.0 t.1))

  pub weighted-plus : (f g : ℕ → o.V) (cs : List ℕ) (k : ℕ)
      → weighted_sum o (weighing o at (λ c. o.plus (f c) (g c)) cs) k ≡ o.plus (weighted_sum o (weighing o at f cs) k) (weighted_sum o (weighing o at g cs) k)
  weighted-plus f g [] k = sym (L.plus-nought o.nought)
  weighted-plus f g (c ∷ cs) k = solve₁ o L
      (f c ∷ g c ∷ power o (at c) k ∷ weighted_sum o (weighing o at f cs) k ∷ weighted_sum o (weighing o at g cs) k
      ∷ weighted_sum o (weighing o at (λ c. o.plus (f c) (g c)) cs) k ∷ [])
      ((v 0 ⊕ v 1) ⊗ v 2 ⊕ v 5) ((v 0 ⊗ v 2 ⊕ v 3) ⊕ (v 1 ⊗ v 2 ⊕ v 4)) 𝟏 (v 5) (v 3 ⊕ v 4) (weighted-plus f g cs k) refl

  pub weighted-minus : (f g : ℕ → o.V) (cs : List ℕ) (k : ℕ)
      → weighted_sum o (weighing o at (λ c. o.plus (f c) (o.minus (g c))) cs) k
      ≡ o.plus (weighted_sum o (weighing o at f cs) k) (o.minus (weighted_sum o (weighing o at g cs) k))
  weighted-minus f g [] k = solve o L [] 𝟎 (𝟎 ⊝ 𝟎) refl
  weighted-minus f g (c ∷ cs) k = solve₁ o L
      (f c ∷ g c ∷ power o (at c) k ∷ weighted_sum o (weighing o at f cs) k ∷ weighted_sum o (weighing o at g cs) k
      ∷ weighted_sum o (weighing o at (λ c. o.plus (f c) (o.minus (g c))) cs) k ∷ [])
      ((v 0 ⊝ v 1) ⊗ v 2 ⊕ v 5) ((v 0 ⊗ v 2 ⊕ v 3) ⊝ (v 1 ⊗ v 2 ⊕ v 4)) 𝟏 (v 5) (v 3 ⊝ v 4) (weighted-minus f g cs k) refl

  -- where one code alone has a weight
  pub weighted_one : (f : ℕ → o.V) (cs : List ℕ) (k : ℕ) → Distinct cs → (a : ℕ) → In a cs → ((c : ℕ) → In c cs → c ≢ a → f c ≡ o.nought)
      → weighted_sum o (weighing o at f cs) k ≡ o.times (f a) (power o (at a) k)
  weighted_one f [] k D a i h = absurd i
  weighted_one f (c ∷ cs) k D a (inl e) h =
      cc (
        e,
        L.plus-nought (o.times (f c) (power o (at c) k)),
        weighted-nought f cs k (λ d j. h d (inr j) (λ g. D.0 (subst (λ (t : ℕ). In t cs) (g ∙ e) j))),
      )
  weighted_one f (c ∷ cs) k D a (inr i) h = solve₂ o L
      (f c ∷ power o (at c) k ∷ weighted_sum o (weighing o at f cs) k ∷ f a ∷ power o (at a) k ∷ [])
      (v 0 ⊗ v 1 ⊕ v 2) (v 3 ⊗ v 4)
      (v 1) (v 0) 𝟎 (h c (inl refl) (λ g. D.0 (subst (λ (t : ℕ). In t cs) (sym g) i)))
      𝟏 (v 2) (v 3 ⊗ v 4) (weighted_one f cs k D.1 a i (λ d j. h d (inr j))) refl

  -- codes without a weight may be left out
  pub weighted-within : (ds : List ℕ) → Distinct ds → (k : ℕ) → (cs : List ℕ) → Distinct cs → ((c : ℕ) → In c cs → In c ds)
      → (f : ℕ → o.V) → ((c : ℕ) → In c ds → (In c cs → ⊥) → f c ≡ o.nought)
      → weighted_sum o (weighing o at f ds) k ≡ weighted_sum o (weighing o at f cs) k
  weighted-within ds E k [] D sub f h = weighted-nought f ds k (λ c i. h c i (λ j. j))
  weighted-within ds E k (a ∷ cs) D sub f h =
      let g : ℕ → o.V = λ c. cond (eqb c a) (f c) o.nought in
      let r : ℕ → o.V = λ c. cond (eqb c a) o.nought (f c) in
      weighted_same f (λ c. o.plus (g c) (r c)) ds k (λ c i. apart c)
      ∙ weighted-plus g r ds k
      ∙ ap (λ t. o.plus t (weighted_sum o (weighing o at r ds) k)) (weighted_one g ds k E a (sub a (inl refl)) (λ c i n. cond-false (eqb c a) (f c) o.nought (ne_eqb c a n))
      ∙ ap (λ t. o.times t (power o (at a) k)) (cond-true (eqb a a) (f a) o.nought (eq-eqb a a refl)))
      ∙ ap (o.plus (o.times (f a) (power o (at a) k)))
      (weighted-within ds E k cs D.1 (λ c i. sub c (inr i)) r
      (λ c i n. cond_both (eqb c a) o.nought (f c) (λ t. t ≡ o.nought) (λ e. refl)
      (λ e. h c i (λ j. elim j [ inl z ↦ eqb-false c a e z | inr z ↦ n z ])))
      ∙ weighted_same r f cs k (λ c i. cond-false (eqb c a) o.nought (f c) (ne_eqb c a (λ z. D.0 (subst (λ (t : ℕ). In t cs) z i)))))
    where
      apart : (c : ℕ) → f c ≡ o.plus (cond (eqb c a) (f c) o.nought) (cond (eqb c a) o.nought (f c))
      apart c = elim (eqb c a) as (λ b. f c ≡ o.plus (cond b (f c) o.nought) (cond b o.nought (f c))) [
        | true ↦ solve o L (f c ∷ []) (v 0) (v 0 ⊕ 𝟎) refl
        | false ↦ solve o L (f c ∷ []) (v 0) (𝟎 ⊕ v 0) refl
      ]
