-- Division of polynomials by x - a, multiplicity, and the derivative.
use Rattle.std.specs.Prelude.{◌≡◌, ℕ, zero, suc, ◌≤◌, List, [], ◌∷◌}
use Rattle.algebra.specs.Rings.{Ops, number}
use Rattle.algebra.specs.Polynomials.{eval, coefficient, product}

-- x - a
abbrev pub linear : (o : Ops) → o.V → List o.V
linear o a = o.minus a ∷ (o.unit ∷ [])

-- (x - a)^e
abbrev pub linear_power : (o : Ops) → o.V → ℕ → List o.V
linear_power o a zero = o.unit ∷ []
linear_power o a (suc e) = product o (linear o a) (linear_power o a e)

-- equal coefficients, whatever zeros stand on top
abbrev pub Same : (o : Ops) → List o.V → List o.V → Type 0
Same o f g = (k : ℕ) → coefficient o f k ≡ coefficient o g k

abbrev pub Divides : (o : Ops) → List o.V → List o.V → Type 0
Divides o g f = (h : List o.V) × Same o f (product o g h)

-- e is the largest number for which (x - a)^e divides f
pub record Multiplicity (o : Ops) (f : List o.V) (a : o.V) (e : ℕ) : Type 0 where
  pub divides : Divides o (linear_power o a e) f
  pub largest : (n : ℕ) → Divides o (linear_power o a n) f → n ≤ e

-- the coefficients times n, n + 1 and so on
abbrev pub weighted : (o : Ops) → ℕ → List o.V → List o.V
weighted o n [] = []
weighted o n (b ∷ f) = o.times (number o n) b ∷ weighted o (suc n) f

abbrev pub derivative : (o : Ops) → List o.V → List o.V
derivative o [] = []
derivative o (a ∷ f) = weighted o 1 f

-- f divided by x - a, without the remainder, which is f at a
abbrev pub quotient : (o : Ops) → o.V → List o.V → List o.V
quotient o a [] = []
quotient o a (c ∷ []) = []
quotient o a (c ∷ (b ∷ f)) = eval o (b ∷ f) a ∷ quotient o a (b ∷ f)
