-- Polynomials over a ring: lists of coefficients, the constant first.
use Rattle.std.specs.Prelude.{ℕ, List, [], ◌∷◌, map, slice_index_or}
use Rattle.algebra.specs.Rings.{Ops, power}

-- the value at x
abbrev pub eval : (o : Ops) → List o.V → o.V → o.V
eval o [] x = o.nought
eval o (a ∷ f) x = o.plus a (o.times x (eval o f x))

-- the coefficient at k, nought past the end
abbrev pub coefficient : (o : Ops) → List o.V → ℕ → o.V
coefficient o f k = slice_index_or f k o.nought

abbrev pub sum : (o : Ops) → List o.V → List o.V → List o.V
sum o [] g = g
sum o (a ∷ f) [] = a ∷ f
sum o (a ∷ f) (b ∷ g) = o.plus a b ∷ sum o f g

abbrev pub scale : (o : Ops) → o.V → List o.V → List o.V
scale o c f = map (o.times c) f

abbrev pub product : (o : Ops) → List o.V → List o.V → List o.V
product o [] g = []
product o (a ∷ f) g = sum o (scale o a g) (o.nought ∷ product o f g)

-- f(-x): the signs of the odd places turned
abbrev pub alternate : (o : Ops) → List o.V → List o.V
alternate o [] = []
alternate o (a ∷ f) = a ∷ map o.minus (alternate o f)

-- g(x²): a zero between neighbours
abbrev pub spread : (o : Ops) → List o.V → List o.V
spread o [] = []
spread o (a ∷ []) = a ∷ []
spread o (a ∷ (b ∷ g)) = a ∷ (o.nought ∷ spread o (b ∷ g))

-- (-1)^d
abbrev pub sign : (o : Ops) → ℕ → o.V
sign o d = power o (o.minus o.unit) d
