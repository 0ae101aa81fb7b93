-- The tangent of a polynomial: f + ε f', where the derivative is padded with a zero to the length of f.
use Rattle.std.specs.Prelude.{List, [], ◌∷◌, ◌++◌}
use Rattle.algebra.specs.Rings.{Ops}
use Rattle.roots.specs.Division.{derivative}

abbrev pub paired : {X : Type 0} → List X → List X → List (X × X)
paired [] g = []
paired (a ∷ f) [] = []
paired (a ∷ f) (b ∷ g) = (a, b) ∷ paired f g

abbrev pub tangent : (o : Ops) → List o.V → List (o.V × o.V)
tangent o f = paired f (derivative o f ++ (o.nought ∷ []))
