-- Membership, distinct members, the sum of a list of numbers, and insertion into an ascending one.
use Rattle.std.specs.Prelude.{◌≡◌, ℕ, ◌+◌, cond, ◌⊎◌, List, [], ◌∷◌, nat_lt}

abbrev pub In : {X : Type 0} → X → List X → Type 0
In x [] = ⊥
In x (y ∷ ys) = (x ≡ y) ⊎ In x ys

abbrev pub Distinct : {X : Type 0} → List X → Type 0
Distinct [] = Unit {0}
Distinct (y ∷ ys) = (In y ys → ⊥) × Distinct ys

abbrev pub added : List ℕ → ℕ
added [] = 0
added (n ∷ ns) = n + added ns

-- c in its place among the members of an ascending list
abbrev pub put : ℕ → List ℕ → List ℕ
put c [] = c ∷ []
put c (x ∷ xs) = cond (nat_lt c x) (c ∷ put x xs) (x ∷ put c xs)
