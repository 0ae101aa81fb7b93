-- A map of the numbers below n into themselves that takes no value twice takes every value.
use Rattle.std.specs.Prelude.{◌≡◌, ℕ, zero, suc, ◌<◌, cond, ◌≢◌, ◌⊎◌, ◌==◌}
use Rattle.std.proofs.Common.{sym, ◌∙◌, inl, inr, arith}
use Rattle.std.proofs.lemmas.Bool.{cases_Bool, eqb-true, eqb-false, cond-true, cond-false}

-- what is found: a place below n whose value is y
abbrev Found : ℕ → (ℕ → ℕ) → ℕ → Type 0
Found n f y = (i : ℕ) × (i < n) × (f i ≡ y)

-- f with the value v where it took n
abbrev moved : ℕ → (ℕ → ℕ) → ℕ → ℕ
moved n f i = cond (f i == n) (f n) (f i)

-- either f takes n at i and `moved` takes f n there, or the two agree at i
which : (n : ℕ) (f : ℕ → ℕ) (i : ℕ) → ((f i ≡ n) × (moved n f i ≡ f n)) ⊎ ((f i ≢ n) × (moved n f i ≡ f i))
which n f i =
    elim (cases_Bool (f i == n)) [
      | inl e ↦ inl (eqb-true (f i) n e, cond-true (f i == n) (f n) (f i) e)
      | inr e ↦ inr (eqb-false (f i) n e, cond-false (f i == n) (f n) (f i) e)
    ]

-- a number below n + 1 is below n, or n
last_or_below : (n y : ℕ) → y < suc n → (y < n) ⊎ (y ≡ n)
last_or_below n y h =
    elim (cases_Bool (y == n)) [ inl p ↦ inr (eqb-true y n p) | inr p ↦ (let ne : y ≢ n = eqb-false y n p in inl (omega arith)) ]

module _ (n : ℕ) (f : ℕ → ℕ) (into : (i : ℕ) → i < suc n → f i < suc n) (once : (i j : ℕ) → i < suc n → j < suc n → f i ≡ f j → i ≡ j) where
  -- where f takes n at n, it maps the numbers below n into themselves
  into_kept : f n ≡ n → (i : ℕ) → i < n → f i < n
  into_kept e i h =
      let a : f i < suc n = into i (omega arith) in
      let b : f i ≢ n = λ p. let z : i ≡ n = once i n (omega arith) (omega arith) (p ∙ sym e) in omega arith in
      omega arith

  -- and takes every value if it does so below n
  from_kept : f n ≡ n → ((y : ℕ) → y < n → Found n f y) → (y : ℕ) → y < suc n → Found (suc n) f y
  from_kept e all y h =
      elim (last_or_below n y h) [
        | inl p ↦ (let t = all y p in (t.0, (let l = t.1 in omega arith), t.2))
        | inr p ↦ (n, omega arith, e ∙ sym p)
      ]

  -- where it does not, the moved map does, and takes no value twice
  into_moved : f n ≢ n → (i : ℕ) → i < n → moved n f i < n
  into_moved e i h =
      let a : f i < suc n = into i (omega arith) in
      let b : f n < suc n = into n (omega arith) in
      elim (which n f i) [ inl t ↦ (let p = t.1 in omega arith) | inr t ↦ (let p = t.0 in let r = t.1 in omega arith) ]

  once_moved : f n ≢ n → (i j : ℕ) → i < n → j < n → moved n f i ≡ moved n f j → i ≡ j
  once_moved e i j hi hj same =
      let i' : i < suc n = omega arith in
      let j' : j < suc n = omega arith in
      let n' : n < suc n = omega arith in
      elim (which n f i) [
        | inl s ↦ elim (which n f j) [
          | inl t ↦ once i j i' j' (s.0 ∙ sym t.0)
          | inr t ↦ (let z : n ≡ j = once n j n' j' (sym s.1 ∙ same ∙ t.1) in omega arith)
        ]
        | inr s ↦ elim (which n f j) [
          | inl t ↦ (let z : i ≡ n = once i n i' n' (sym s.1 ∙ same ∙ t.1) in omega arith)
          | inr t ↦ once i j i' j' (sym s.1 ∙ same ∙ t.1)
        ]
      ]

  -- and f takes every value if the moved map does so below n
  from_moved : f n ≢ n → ((y : ℕ) → y < n → Found n (moved n f) y) → (y : ℕ) → y < suc n → Found (suc n) f y
  from_moved e all y h =
      elim (last_or_below n y h) [ inl p ↦ below (all y p) | inr p ↦ last p (all (f n) small) ]
    where
      small : f n < n
      small = let b : f n < suc n = into n (omega arith) in omega arith

      below : Found n (moved n f) y → Found (suc n) f y
      below r = elim (which n f r.0) [
        | inl t ↦ (n, omega arith, sym t.1 ∙ r.2)
        | inr t ↦ (r.0, (let l = r.1 in omega arith), sym t.1 ∙ r.2)
      ]

      last : y ≡ n → Found n (moved n f) (f n) → Found (suc n) f y
      last p r = elim (which n f r.0) [
        | inl t ↦ (r.0, (let l = r.1 in omega arith), t.0 ∙ sym p)
        | inr t ↦ (let l = r.1 in let z : r.0 ≡ n = once r.0 n (omega arith) (omega arith) (sym t.1 ∙ r.2) in absurd (omega arith))
      ]

-- every value is taken
pub onto : (n : ℕ) (f : ℕ → ℕ) → ((i : ℕ) → i < n → f i < n) → ((i j : ℕ) → i < n → j < n → f i ≡ f j → i ≡ j) → (y : ℕ) → y < n → (i : ℕ) × (i < n) × (f i ≡ y)
onto zero f into once y h = absurd (omega arith)
onto (suc n) f into once y h =
    elim (which n f n) [
      | inl t ↦ from_kept n f into once t.0 (onto n f (into_kept n f into once t.0) (λ i j hi hj. once i j (omega arith) (omega arith))) y h
      | inr t ↦ from_moved n f into once t.0 (onto n (moved n f) (into_moved n f into once t.0) (once_moved n f into once t.0)) y h
    ]
