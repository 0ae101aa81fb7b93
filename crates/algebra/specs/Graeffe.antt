-- The Graeffe transform of a polynomial, whose roots are the squares of its roots.
use Rattle.std.specs.Prelude.{◌≡◌, ℕ, zero, suc, ◌-◌, List, [], ◌∷◌, length}
use Rattle.algebra.specs.Rings.{Ops}
use Rattle.algebra.specs.Polynomials.{scale, product, alternate, spread, sign}

-- g(x²) = (-1)^d f(x) f(-x), coefficient by coefficient; d is the length less one, also where the top is zero
pub record Graeffe (o : Ops) (f g : List o.V) : Type 0 where
  pub long : length g ≡ length f
  pub squares : spread o g ≡ scale o (sign o (length f - 1)) (product o f (alternate o f))

-- the even places of a list
abbrev pub evens : {X : Type 0} → List X → List X
evens [] = []
evens (a ∷ []) = a ∷ []
evens (a ∷ (b ∷ f)) = a ∷ evens f

-- the one polynomial g with Graeffe f g
abbrev pub transform : (o : Ops) → List o.V → List o.V
transform o f = evens (scale o (sign o (length f - 1)) (product o f (alternate o f)))

-- f transformed k times
abbrev pub tower : (o : Ops) → List o.V → ℕ → List o.V
tower o f zero = f
tower o f (suc k) = transform o (tower o f k)
