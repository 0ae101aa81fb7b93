-- A rule of all numbers below a bound, proved by one test that is computed.
use Rattle.std.specs.Prelude.{◌≡◌, ℕ, zero, suc, ◌<◌, Bool, true, ◌&&◌}
use Rattle.std.proofs.Common.{subst, inl, inr, not-suc-le-zero, arith}
use Rattle.std.proofs.lemmas.Bool.{and_parts, cases_lt}

-- the test passes at each number below the bound
abbrev pub all : (ℕ → Bool) → ℕ → Bool
all f zero = true
all f (suc n) = f n && all f n

pub all-below : (f : ℕ → Bool) (n : ℕ) → all f n ≡ true → (k : ℕ) → k < n → f k ≡ true
all-below f zero e k h = absurd (not-suc-le-zero h)
all-below f (suc n) e k h =
    let p = and_parts (f n) (all f n) e in
    elim (cases_lt k n) [ inl lt ↦ all-below f n p.1 k lt | inr ge ↦ (let s : n ≡ k = omega arith in subst (λ m. f m ≡ true) s p.0) ]

-- the test passes at each pair of numbers below the two bounds
pub pairs_below : (f : ℕ → ℕ → Bool) (m n : ℕ) → all (λ i. all (f i) n) m ≡ true → (i j : ℕ) → i < m → j < n → f i j ≡ true
pairs_below f m n e i j hi hj = all-below (f i) n (all-below (λ k. all (f k) n) m e i hi) j hj
