-- A polynomial in a work space, and its division in place.
use Rattle.std.specs.Prelude.{ℕ, zero, suc, List, map}
use Rattle.algebra.specs.Rings.{Ops}
use Rattle.algebra.specs.Polynomials.{eval, coefficient}
use Rattle.algebra.specs.declared.dual.Dual.{Dual}
use Rattle.algebra.specs.declared.ring.Ring.{Ghosts as RingOf}
use Rattle.roots.specs.Division.{quotient}

-- the polynomial of the first parts
abbrev pub row : {S : Type 0} (R : RingOf S) → List (Dual S) → List R.ring.V
row R xs = map (λ x. R.value x.re) xs

-- the remainder of the division by x - a, then the coefficients of the quotient
abbrev pub partial : (o : Ops) → o.V → List o.V → ℕ → o.V
partial o a f zero = eval o f a
partial o a f (suc k) = coefficient o (quotient o a f) k
