-- One Graeffe transform: what it does to values, derivatives and roots.
use Rattle.std.proofs.Common.{◌≡◌, ◌-◌, List, [], ◌∷◌, map, length, sym, refl, ap, ◌∙◌, subst, ap₂}
use lib.ListN.{length-map}
use Rattle.algebra.specs.Rings.{Ops, Lawful}
use Rattle.algebra.specs.Duals.{dual}
use Rattle.algebra.specs.Polynomials.{eval, product, alternate, sign}
use Rattle.algebra.specs.Graeffe.{transform}
use Rattle.algebra.specs.DualsLemmas.{dual_lawful}
use Rattle.algebra.proofs.Polynomials.{eval-spread, eval-scale, eval-product, eval-alternate}
use Rattle.algebra.proofs.GraeffeLaws.{transform_law}
use Rattle.algebra.proofs.Solver.{v, 𝟎, 𝟏, ◌⊕◌, ◌⊗◌, ⊖◌, solve, solve₁, solve₂}
use Rattle.roots.proofs.Homs.{Hom, map-eval, map-sign, map-transform}
use Rattle.roots.specs.Slopes.{slope, reals, epsilons}
use Rattle.roots.proofs.Slopes.{pair_path, eval-dual, real_hom, embed_hom}
use Rattle.roots.proofs.Extensions.{extension, even_odd, extension_lawful, extend_hom, eval_root, eval_other}

-- the sign of a transform
abbrev pub turn : (o : Ops) {X : Type 0} → List X → o.V
turn o f = sign o (length f - 1)

pub reals_embed : {X : Type 0} (z : X) (f : List X) → reals (map (λ x. (x, z)) f) ≡ f
reals_embed z [] = refl
reals_embed z (a ∷ f) = ap (λ t. a ∷ t) (reals_embed z f)

module _ (o : Ops) (L : Lawful o) where
  -- g(x²) = ± f(x) f(-x)
  pub transform_square : (f : List o.V) (x : o.V)
      → eval o (transform o f) (o.times x x) ≡ o.times (turn o f) (o.times (eval o f x) (eval o f (o.minus x)))
  transform_square f x =
      sym (eval-spread o L (transform o f) x) ∙ ap (λ p. eval o p x) (transform_law o L f).squares
      ∙ eval-scale o L (turn o f) (product o f (alternate o f)) x
      ∙ ap (o.times (turn o f)) (eval-product o L f (alternate o f) x ∙ ap (o.times (eval o f x)) (eval-alternate o L f x))

module _ (o : Ops) (L : Lawful o) where
  turn-map : (p : Ops) (φ : o.V → p.V) → Hom o p φ → (f : List o.V) → turn p (map φ f) ≡ φ (turn o f)
  turn-map p φ h f = ap (λ n. sign p (n - 1)) (length-map f φ) ∙ sym (map-sign o p φ h (length f - 1))

  -- g(y) = ± (even(y)² - y odd(y)²), also where y is no square
  pub transform-value : (f : List o.V) (y : o.V)
      → eval o (transform o f) y ≡ o.times (turn o f) (o.plus (o.times (even_odd o y f).0 (even_odd o y f).0) (o.minus (o.times y (o.times (even_odd o y f).1 (even_odd o y f).1))))
  transform-value f y =
      ap (λ t. t.0) (map-eval o p φ h (transform o f) y
      ∙ ap₂ (eval p) (map-transform o p φ h f)
      (pair_path (solve o L (y ∷ []) (v 0) (𝟎 ⊗ 𝟎 ⊕ v 0 ⊗ (𝟏 ⊗ 𝟏)) refl) (solve o L [] 𝟎 (𝟎 ⊗ 𝟏 ⊕ 𝟏 ⊗ 𝟎) refl))
      ∙ transform_square p (extension_lawful o L y) (map φ f) (o.nought, o.unit)
      ∙ ap₂ p.times (turn-map p φ h f) (ap₂ p.times (eval_root o L y f) (eval_other o L y f)))
      ∙ solve o L (y ∷ turn o f ∷ A ∷ B ∷ [])
      (v 1 ⊗ (v 2 ⊗ v 2 ⊕ v 0 ⊗ (v 3 ⊗ ⊖ v 3)) ⊕ v 0 ⊗ (𝟎 ⊗ (v 2 ⊗ ⊖ v 3 ⊕ v 3 ⊗ v 2)))
      (v 1 ⊗ (v 2 ⊗ v 2 ⊕ ⊖ (v 0 ⊗ (v 3 ⊗ v 3)))) refl
    where
      p : Ops
      p = extension o y

      φ : o.V → o.V × o.V
      φ = λ x. (x, o.nought)

      h : Hom o (extension o y) (λ x. (x, o.nought))
      h = extend_hom o L y

      A : o.V
      A = (even_odd o y f).0

      B : o.V
      B = (even_odd o y f).1

module _ (o : Ops) (L : Lawful o) where
  -- the ε part of the identity at a + b ε
  tangent_square : (F : List (o.V × o.V)) (a b : o.V)
      → o.plus (eval o (epsilons (transform (dual o) F)) (o.times a a)) (o.times (o.plus (o.times a b) (o.times b a)) (slope o (transform o (reals F)) (o.times a a)))
      ≡ o.times (turn o F) (o.plus
      (o.times (eval o (reals F) a) (o.plus (eval o (epsilons F) (o.minus a)) (o.times (o.minus b) (slope o (reals F) (o.minus a)))))
      (o.times (o.plus (eval o (epsilons F) a) (o.times b (slope o (reals F) a))) (eval o (reals F) (o.minus a))))
  tangent_square F a b =
      ap (λ g. o.plus (eval o (epsilons G) (o.times a a)) (o.times (o.plus (o.times a b) (o.times b a)) (slope o g (o.times a a)))) (sym (map-transform (dual o) o (λ x. x.0) (real_hom o L) F))
      ∙ ap (λ t. t.1) (sym (eval-dual o L G (o.times a a) (o.plus (o.times a b) (o.times b a)))
      ∙ transform_square (dual o) (dual_lawful o L) F (a, b)
      ∙ ap₂ (dual o).times (sym (map-sign o (dual o) (λ x. (x, o.nought)) (embed_hom o L) (length F - 1)))
      (ap₂ (dual o).times (eval-dual o L F a b) (eval-dual o L F (o.minus a) (o.minus b))))
      ∙ solve o L (turn o F ∷ eval o (reals F) a ∷ slope_side b a ∷ eval o (reals F) (o.minus a) ∷ slope_side (o.minus b) (o.minus a) ∷ [])
      (v 0 ⊗ (v 1 ⊗ v 4 ⊕ v 2 ⊗ v 3) ⊕ 𝟎 ⊗ (v 1 ⊗ v 3)) (v 0 ⊗ (v 1 ⊗ v 4 ⊕ v 2 ⊗ v 3)) refl
    where
      G : List (o.V × o.V)
      G = transform (dual o) F

      slope_side : o.V → o.V → o.V
      slope_side b a = o.plus (eval o (epsilons F) a) (o.times b (slope o (reals F) a))

  -- the tangent's next level: t'(a²) = ± (f(a) t(-a) + t(a) f(-a))
  pub tangent_step : (F : List (o.V × o.V)) (a : o.V)
      → eval o (epsilons (transform (dual o) F)) (o.times a a)
      ≡ o.times (turn o F) (o.plus (o.times (eval o (reals F) a) (eval o (epsilons F) (o.minus a))) (o.times (eval o (epsilons F) a) (eval o (reals F) (o.minus a))))
  tangent_step F a =
      solve₁ o L
      (eval o (epsilons (transform (dual o) F)) (o.times a a) ∷ a ∷ slope o (transform o (reals F)) (o.times a a) ∷ turn o F ∷ eval o (reals F) a
      ∷ eval o (epsilons F) (o.minus a) ∷ slope o (reals F) (o.minus a) ∷ eval o (epsilons F) a ∷ slope o (reals F) a ∷ eval o (reals F) (o.minus a) ∷ [])
      (v 0) (v 3 ⊗ (v 4 ⊗ v 5 ⊕ v 7 ⊗ v 9))
      𝟏 (v 0 ⊕ (v 1 ⊗ 𝟎 ⊕ 𝟎 ⊗ v 1) ⊗ v 2) (v 3 ⊗ (v 4 ⊗ (v 5 ⊕ ⊖ 𝟎 ⊗ v 6) ⊕ (v 7 ⊕ 𝟎 ⊗ v 8) ⊗ v 9)) (tangent_square F a o.nought) refl

  -- 2 a g'(a²) = ± (f'(a) f(-a) - f(a) f'(-a))
  pub slope_step : (f : List o.V) (a : o.V)
      → o.times (o.plus a a) (slope o (transform o f) (o.times a a))
      ≡ o.times (turn o f) (o.plus (o.times (slope o f a) (eval o f (o.minus a))) (o.minus (o.times (eval o f a) (slope o f (o.minus a)))))
  slope_step f a =
      let P : List o.V → o.V → Type 0 = λ r s. o.times (o.plus a a) (slope o (transform o r) (o.times a a))
      ≡ o.times s (o.plus (o.times (slope o r a) (eval o r (o.minus a))) (o.minus (o.times (eval o r a) (slope o r (o.minus a))))) in
      subst (λ r. P r (turn o f)) (reals_embed o.nought f)
      (subst (λ n. P (reals F) (sign o (n - 1))) (length-map f (λ x. (x, o.nought)))
      (solve₂ o L
      (eval o (epsilons (transform (dual o) F)) (o.times a a) ∷ a ∷ slope o (transform o (reals F)) (o.times a a) ∷ turn o F ∷ eval o (reals F) a
      ∷ eval o (epsilons F) (o.minus a) ∷ slope o (reals F) (o.minus a) ∷ eval o (epsilons F) a ∷ slope o (reals F) a ∷ eval o (reals F) (o.minus a) ∷ [])
      ((v 1 ⊕ v 1) ⊗ v 2) (v 3 ⊗ (v 8 ⊗ v 9 ⊕ ⊖ (v 4 ⊗ v 6)))
      𝟏 (v 0 ⊕ (v 1 ⊗ 𝟏 ⊕ 𝟏 ⊗ v 1) ⊗ v 2) (v 3 ⊗ (v 4 ⊗ (v 5 ⊕ ⊖ 𝟏 ⊗ v 6) ⊕ (v 7 ⊕ 𝟏 ⊗ v 8) ⊗ v 9)) (tangent_square F a o.unit)
      (⊖ 𝟏) (v 0) (v 3 ⊗ (v 4 ⊗ v 5 ⊕ v 7 ⊗ v 9)) (tangent_step F a) refl))
    where
      F : List (o.V × o.V)
      F = map (λ x. (x, o.nought)) f
