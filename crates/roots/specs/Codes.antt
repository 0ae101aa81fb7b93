-- Polynomials given by the codes of their coefficients.
use Rattle.std.specs.Prelude.{ℕ, suc, ◌-◌, cond, List, [], ◌∷◌, map, length, ◌==◌, nat_le, nat_lt, slice_index}
use Rattle.algebra.specs.Refusals.{accepted, or_else}
use Rattle.algebra.specs.Transforms.{counted}
use Rattle.algebra.specs.declared.code.Code.{Code}
use Rattle.algebra.specs.declared.dual.Dual.{Dual}
use Rattle.algebra.specs.declared.ring.Ring.{Ghosts as RingOf}
use Rattle.algebra.specs.declared.field.Field.{Ghosts as FieldOf}

-- what the element of a code means
abbrev pub element : {S : Type 0} (R : RingOf S) (F : FieldOf S) → ℕ → R.ring.V
element R F c = R.value (F.at c)

abbrev pub polynomial : {S : Type 0} (R : RingOf S) (F : FieldOf S) → List Code → List R.ring.V
polynomial R F cs = map (λ c. element R F c.0) cs

-- what a dual number means
abbrev pub dualized : {S : Type 0} (R : RingOf S) → Dual S → R.ring.V × R.ring.V
dualized R x = (R.value x.re, R.value x.eps)

-- both parts are in canonical form
abbrev pub Held : {S : Type 0} (R : RingOf S) → Dual S → Type 0
Held R x = R.canonical x.re × R.canonical x.eps

abbrev pub duals : {S : Type 0} (R : RingOf S) → List (Dual S) → List (R.ring.V × R.ring.V)
duals R xs = map (dualized R) xs

-- the place of the first code that is none of a field of order q, or the length where there is none
abbrev pub past : ℕ → List Code → ℕ
past q [] = 0
past q (c ∷ cs) = cond (nat_le q c.0) 0 (suc (past q cs))

-- the code of the top coefficient
abbrev pub top : List Code → ℕ
top cs = slice_index (map (λ c. c.0) cs) (length cs - 1)

-- the answer to a polynomial: its number of coefficients, then its codes, then its top
abbrev pub coded : ℕ → List Code → ℕ × List ℕ
coded q cs =
    or_else (counted (length cs))
    (or_else (cond (nat_lt (past q cs) (length cs)) (9, past q cs ∷ []) accepted) (cond (top cs == 0) (10, []) accepted))
