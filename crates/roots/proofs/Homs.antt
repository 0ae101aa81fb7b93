-- Maps between rings that keep the operations, and what they do to polynomials.
use Rattle.std.proofs.Common.{◌≡◌, ℕ, zero, suc, ◌-◌, List, [], ◌∷◌, map, length, sym, refl, ap, ◌∙◌, ap₂}
use lib.ListN.{length-map}
use Rattle.algebra.specs.Rings.{Ops, power}
use Rattle.algebra.specs.Polynomials.{eval, sum, scale, product, alternate, sign}
use Rattle.algebra.specs.Graeffe.{evens, transform, tower}

pub record Hom (o p : Ops) (φ : o.V → p.V) : Type 0 where
  pub nought : φ o.nought ≡ p.nought
  pub unit : φ o.unit ≡ p.unit
  pub plus : (x y : o.V) → φ (o.plus x y) ≡ p.plus (φ x) (φ y)
  pub times : (x y : o.V) → φ (o.times x y) ≡ p.times (φ x) (φ y)
  pub minus : (x : o.V) → φ (o.minus x) ≡ p.minus (φ x)

map-evens : {X Y : Type 0} (φ : X → Y) (f : List X) → map φ (evens f) ≡ evens (map φ f)
map-evens φ [] = refl
map-evens φ (a ∷ []) = refl
map-evens φ (a ∷ (b ∷ f)) = ap (λ t. φ a ∷ t) (map-evens φ f)

module _ (o p : Ops) (φ : o.V → p.V) (h : Hom o p φ) where
  pub map-eval : (f : List o.V) (x : o.V) → φ (eval o f x) ≡ eval p (map φ f) (φ x)
  map-eval [] x = h.nought
  map-eval (a ∷ f) x = h.plus a (o.times x (eval o f x)) ∙ ap (p.plus (φ a)) (h.times x (eval o f x) ∙ ap (p.times (φ x)) (map-eval f x))

  map-sum : (f g : List o.V) → map φ (sum o f g) ≡ sum p (map φ f) (map φ g)
  map-sum [] g = refl
  map-sum (a ∷ f) [] = refl
  map-sum (a ∷ f) (b ∷ g) = ap₂ (λ s t. s ∷ t) (h.plus a b) (map-sum f g)

  map-scale : (c : o.V) (f : List o.V) → map φ (scale o c f) ≡ scale p (φ c) (map φ f)
  map-scale c [] = refl
  map-scale c (a ∷ f) = ap₂ (λ s t. s ∷ t) (h.times c a) (map-scale c f)

  map-product : (f g : List o.V) → map φ (product o f g) ≡ product p (map φ f) (map φ g)
  map-product [] g = refl
  map-product (a ∷ f) g =
      map-sum (scale o a g) (o.nought ∷ product o f g)
      ∙ ap₂ (sum p) (map-scale a g) (ap₂ (λ s t. s ∷ t) h.nought (map-product f g))

  map-minus : (f : List o.V) → map φ (map o.minus f) ≡ map p.minus (map φ f)
  map-minus [] = refl
  map-minus (a ∷ f) = ap₂ (λ s t. s ∷ t) (h.minus a) (map-minus f)

  map-alternate : (f : List o.V) → map φ (alternate o f) ≡ alternate p (map φ f)
  map-alternate [] = refl
  map-alternate (a ∷ f) = ap (λ t. φ a ∷ t) (map-minus (alternate o f) ∙ ap (map p.minus) (map-alternate f))

  map-power : (x : o.V) (n : ℕ) → φ (power o x n) ≡ power p (φ x) n
  map-power x zero = h.unit
  map-power x (suc n) = h.times x (power o x n) ∙ ap (p.times (φ x)) (map-power x n)

  pub map-sign : (d : ℕ) → φ (sign o d) ≡ sign p d
  map-sign d = map-power (o.minus o.unit) d ∙ ap (λ t. power p t d) (h.minus o.unit ∙ ap p.minus h.unit)

  pub map-transform : (f : List o.V) → map φ (transform o f) ≡ transform p (map φ f)
  map-transform f =
      map-evens φ (scale o (sign o (length f - 1)) (product o f (alternate o f)))
      ∙ ap evens (map-scale (sign o (length f - 1)) (product o f (alternate o f))
      ∙ ap₂ (scale p) (map-sign (length f - 1) ∙ ap (λ n. sign p (n - 1)) (sym (length-map f φ)))
      (map-product f (alternate o f) ∙ ap (product p (map φ f)) (map-alternate f)))

  pub map-tower : (f : List o.V) (k : ℕ) → map φ (tower o f k) ≡ tower p (map φ f) k
  map-tower f zero = refl
  map-tower f (suc k) = map-transform (tower o f k) ∙ ap (transform p) (map-tower f k)
