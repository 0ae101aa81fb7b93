-- Polynomials of dual numbers at a dual number.
use Rattle.std.proofs.Common.{◌≡◌, List, [], ◌∷◌, refl, ap, ◌∙◌}
use Rattle.algebra.specs.Rings.{Ops, Lawful}
use Rattle.algebra.specs.Duals.{dual}
use Rattle.algebra.specs.Polynomials.{eval}
use Rattle.algebra.proofs.Solver.{v, 𝟎, ◌⊕◌, ◌⊗◌, ⊖◌, solve}
use Rattle.roots.specs.Slopes.{slope, reals, epsilons}
use Rattle.roots.proofs.Homs.{Hom}

pub pair_path : {A B : Type 0} {a c : A} {b d : B} → a ≡ c → b ≡ d → ◌≡◌ {A = A × B} (a, b) (c, d)
pair_path p q = λ i. (p i, q i)

module _ (o : Ops) (L : Lawful o) where
  -- the value at a + b ε
  pub eval-dual : (f : List (o.V × o.V)) (a b : o.V)
      → eval (dual o) f (a, b) ≡ (eval o (reals f) a, o.plus (eval o (epsilons f) a) (o.times b (slope o (reals f) a)))
  eval-dual [] a b = pair_path refl (solve o L (b ∷ []) 𝟎 (𝟎 ⊕ v 0 ⊗ 𝟎) refl)
  eval-dual (x ∷ f) a b =
      ap (λ t. (dual o).plus x ((dual o).times (a, b) t)) (eval-dual f a b)
      ∙ pair_path refl (solve o L (x.1 ∷ a ∷ b ∷ eval o (epsilons f) a ∷ slope o (reals f) a ∷ eval o (reals f) a ∷ [])
      (v 0 ⊕ (v 1 ⊗ (v 3 ⊕ v 2 ⊗ v 4) ⊕ v 2 ⊗ v 5)) (v 0 ⊕ v 1 ⊗ v 3 ⊕ v 2 ⊗ (v 5 ⊕ v 1 ⊗ v 4)) refl)

  -- the first part keeps the operations, and so does u ↦ u + 0 ε
  pub real_hom : Hom (dual o) o (λ x. x.0)
  real_hom = record { nought = refl; unit = refl; plus = λ x y. refl; times = λ x y. refl; minus = λ x. refl }

  pub embed_hom : Hom o (dual o) (λ x. (x, o.nought))
  embed_hom = record {
    nought = refl;
    unit = refl;
    plus = λ x y. pair_path refl (solve o L [] 𝟎 (𝟎 ⊕ 𝟎) refl);
    times = λ x y. pair_path refl (solve o L (x ∷ y ∷ []) 𝟎 (v 0 ⊗ 𝟎 ⊕ 𝟎 ⊗ v 1) refl);
    minus = λ x. pair_path refl (solve o L [] 𝟎 (⊖ 𝟎) refl);
  }
