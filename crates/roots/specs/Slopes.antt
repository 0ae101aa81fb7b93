-- The value of the derivative, and the two parts of a polynomial of dual numbers.
use Rattle.std.specs.Prelude.{List, [], ◌∷◌, map}
use Rattle.algebra.specs.Rings.{Ops}
use Rattle.algebra.specs.Polynomials.{eval}

-- the derivative of f at x
abbrev pub slope : (o : Ops) → List o.V → o.V → o.V
slope o [] x = o.nought
slope o (a ∷ f) x = o.plus (eval o f x) (o.times x (slope o f x))

abbrev pub reals : {X : Type 0} → List (X × X) → List X
reals f = map (λ x. x.0) f

abbrev pub epsilons : {X : Type 0} → List (X × X) → List X
epsilons f = map (λ x. x.1) f
