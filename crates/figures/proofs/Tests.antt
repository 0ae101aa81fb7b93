-- Tests of lists and of finitely many numbers, and what they say where they pass.
use Rattle.std.proofs.Common.{◌≡◌, ℕ, zero, suc, ◌<◌, Bool, true, false, not, ◌&&◌, ◌||◌, eqb, List, [], ◌∷◌, ap, ◌∙◌, subst, inl, inr, arith}
use Rattle.std.proofs.lemmas.Bool.{false≢true, both_ways, not-true, eqb-true, eq-eqb, and_parts, and_from, or_cases, or_left, or_right, cases_lt}
use Rattle.roots.specs.Lists.{In, Distinct}
use Rattle.roots.proofs.Slopes.{pair_path}

abbrev pub implies : Bool → Bool → Bool
implies true b = b
implies false b = true

pub implied : (a b : Bool) → implies a b ≡ true → a ≡ true → b ≡ true
implied true b i e = i
implied false b i e = absurd (false≢true e)

-- the test passes at some number below the bound
abbrev pub any : (ℕ → Bool) → ℕ → Bool
any t zero = false
any t (suc n) = t n || any t n

pub any_some : (t : ℕ → Bool) (n : ℕ) → any t n ≡ true → (k : ℕ) × (t k ≡ true)
any_some t zero e = absurd (false≢true e)
any_some t (suc n) e = elim (or_cases (t n) (any t n) e) [ inl h ↦ (n, h) | inr h ↦ any_some t n h ]

pub some_any : (t : ℕ → Bool) (n k : ℕ) → k < n → t k ≡ true → any t n ≡ true
some_any t zero k h e = let none : ⊥ = omega arith in absurd none
some_any t (suc n) k h e = elim (cases_lt k n) [
  | inl l ↦ or_right (t n) (any t n) (some_any t n k l e)
  | inr g ↦ (let s : k ≡ n = omega arith in or_left (t n) (any t n) (subst (λ (m : ℕ). t m ≡ true) s e))
]

-- the test passes at each member
abbrev pub each : {X : Type 0} → (X → Bool) → List X → Bool
each t [] = true
each t (x ∷ xs) = t x && each t xs

pub each_in : {X : Type 0} (t : X → Bool) (xs : List X) → each t xs ≡ true → (x : X) → In x xs → t x ≡ true
each_in t [] e x i = absurd i
each_in t (y ∷ xs) e x i =
    let p = and_parts (t y) (each t xs) e in
    elim i [ inl s ↦ ap t s ∙ p.0 | inr j ↦ each_in t xs p.1 x j ]

-- a test of equality
pub record Tells {X : Type 0} (same : X → X → Bool) : Type 0 where
  pub sound : (x y : X) → same x y ≡ true → x ≡ y
  pub complete : (x y : X) → x ≡ y → same x y ≡ true

pub numbers : Tells eqb
numbers = record { sound = eqb-true; complete = eq-eqb }

abbrev pub same_pair : ℕ × ℕ → ℕ × ℕ → Bool
same_pair p q = eqb p.0 q.0 && eqb p.1 q.1

pub pairs : Tells same_pair
pairs = record {
  sound = λ p q e. (let h = and_parts (eqb p.0 q.0) (eqb p.1 q.1) e in pair_path (eqb-true p.0 q.0 h.0) (eqb-true p.1 q.1 h.1));
  complete = λ p q e. and_from (eqb p.0 q.0) (eqb p.1 q.1) (eq-eqb p.0 q.0 (ap (λ (r : ℕ × ℕ). r.0) e)) (eq-eqb p.1 q.1 (ap (λ (r : ℕ × ℕ). r.1) e));
}

abbrev pub among : {X : Type 0} → (X → X → Bool) → X → List X → Bool
among same x [] = false
among same x (y ∷ ys) = same x y || among same x ys

abbrev pub differ : {X : Type 0} → (X → X → Bool) → List X → Bool
differ same [] = true
differ same (y ∷ ys) = not (among same y ys) && differ same ys

module _ {X : Type 0} (same : X → X → Bool) (tells : Tells same) where
  pub among_in : (x : X) (ys : List X) → among same x ys ≡ true → In x ys
  among_in x [] e = absurd (false≢true e)
  among_in x (y ∷ ys) e = elim (or_cases (same x y) (among same x ys) e) [ inl h ↦ inl (tells.sound x y h) | inr h ↦ inr (among_in x ys h) ]

  pub in_among : (x : X) (ys : List X) → In x ys → among same x ys ≡ true
  in_among x [] i = absurd i
  in_among x (y ∷ ys) i = elim i [
    | inl h ↦ or_left (same x y) (among same x ys) (tells.complete x y h)
    | inr h ↦ or_right (same x y) (among same x ys) (in_among x ys h)
  ]

  pub differ_distinct : (ys : List X) → differ same ys ≡ true → Distinct ys
  differ_distinct [] e = tt
  differ_distinct (y ∷ ys) e =
      let p = and_parts (not (among same y ys)) (differ same ys) e in
      (λ i. both_ways (among same y ys) (not-true (among same y ys) p.0) (in_among y ys i), differ_distinct ys p.1)
