-- The coefficients of the tangent, and its two parts.
use Rattle.std.proofs.Common.{◌≡◌, ℕ, zero, suc, ◌+◌, ◌<◌, List, [], ◌∷◌, ◌++◌, length, get_or, sym, refl, ap, ◌∙◌, add-zero, arith, length-append}
use Rattle.algebra.specs.Rings.{Ops, Lawful, number}
use Rattle.algebra.specs.Polynomials.{eval, coefficient}
use Rattle.algebra.specs.RingsLemmas.{times-nought, nought-plus}
use Rattle.roots.specs.Division.{weighted, derivative}
use Rattle.roots.specs.Tangents.{paired, tangent}
use Rattle.roots.specs.Slopes.{slope, reals, epsilons}
use Rattle.roots.proofs.Slopes.{pair_path}
use Rattle.roots.proofs.Division.{eval-derivative}

length-paired : {X : Type 0} (f g : List X) → length g ≡ length f → length (paired f g) ≡ length f
length-paired [] g e = refl
length-paired (a ∷ f) [] e = e
length-paired (a ∷ f) (b ∷ g) e = ap suc (length-paired f g (omega arith))

reals-paired : {X : Type 0} (f g : List X) → length g ≡ length f → reals (paired f g) ≡ f
reals-paired [] g e = refl
reals-paired (a ∷ f) [] e = let none : ⊥ = omega arith in absurd none
reals-paired (a ∷ f) (b ∷ g) e = ap (λ t. a ∷ t) (reals-paired f g (omega arith))

epsilons-paired : {X : Type 0} (f g : List X) → length g ≡ length f → epsilons (paired f g) ≡ g
epsilons-paired [] [] e = refl
epsilons-paired [] (b ∷ g) e = let none : ⊥ = omega arith in absurd none
epsilons-paired (a ∷ f) [] e = let none : ⊥ = omega arith in absurd none
epsilons-paired (a ∷ f) (b ∷ g) e = ap (λ t. b ∷ t) (epsilons-paired f g (omega arith))

paired-place : {X : Type 0} (f g : List X) (k : ℕ) (c d : X) → length g ≡ length f → get_or (paired f g) k (c, d) ≡ (get_or f k c, get_or g k d)
paired-place [] [] k c d e = refl
paired-place [] (b ∷ g) k c d e = let none : ⊥ = omega arith in absurd none
paired-place (a ∷ f) [] k c d e = let none : ⊥ = omega arith in absurd none
paired-place (a ∷ f) (b ∷ g) zero c d e = refl
paired-place (a ∷ f) (b ∷ g) (suc k) c d e = paired-place f g k c d (omega arith)

module _ (o : Ops) (L : Lawful o) where
  length-weighted : (n : ℕ) (f : List o.V) → length (weighted o n f) ≡ length f
  length-weighted n [] = refl
  length-weighted n (b ∷ f) = ap suc (length-weighted (suc n) f)

  padded : List o.V → List o.V
  padded f = derivative o f ++ (o.nought ∷ [])

  length_padded : (a : o.V) (f : List o.V) → length (derivative o (a ∷ f) ++ (o.nought ∷ [])) ≡ length (a ∷ f)
  length_padded a f = length-append (weighted o 1 f) (o.nought ∷ []) ∙ omega (arith, length-weighted 1 f)

  weighted-place : (n : ℕ) (f : List o.V) (k : ℕ) → get_or (weighted o n f ++ (o.nought ∷ [])) k o.nought ≡ o.times (number o (n + k)) (coefficient o f k)
  weighted-place n [] zero = sym (times-nought o L (number o (n + 0)))
  weighted-place n [] (suc k) = sym (times-nought o L (number o (n + suc k)))
  weighted-place n (b ∷ f) zero = rw add-zero refl
  weighted-place n (b ∷ f) (suc k) = weighted-place (suc n) f k ∙ ap (λ i. o.times (number o i) (coefficient o f k)) (later n k)
    where
      later : (n k : ℕ) → suc n + k ≡ n + suc k
      later n k = omega arith

  pub length-tangent : (f : List o.V) → length (tangent o f) ≡ length f
  length-tangent [] = refl
  length-tangent (a ∷ f) = length-paired (a ∷ f) (derivative o (a ∷ f) ++ (o.nought ∷ [])) (length_padded a f)

  pub tangent-place : (f : List o.V) (k : ℕ) → k < length f
      → get_or (tangent o f) k (o.nought, o.nought) ≡ (coefficient o f k, o.times (number o (suc k)) (coefficient o f (suc k)))
  tangent-place [] k h = let none : ⊥ = omega arith in absurd none
  tangent-place (a ∷ f) k h =
      paired-place (a ∷ f) (derivative o (a ∷ f) ++ (o.nought ∷ [])) k o.nought o.nought (length_padded a f)
      ∙ pair_path refl (weighted-place 1 f k ∙ ap (λ i. o.times (number o i) (coefficient o f k)) (next k))
    where
      next : (k : ℕ) → 1 + k ≡ suc k
      next k = omega arith

  pub tangent-reals : (f : List o.V) → reals (tangent o f) ≡ f
  tangent-reals [] = refl
  tangent-reals (a ∷ f) = reals-paired (a ∷ f) (derivative o (a ∷ f) ++ (o.nought ∷ [])) (length_padded a f)

  eval_padded : (f : List o.V) (x : o.V) → eval o (f ++ (o.nought ∷ [])) x ≡ eval o f x
  eval_padded [] x = nought-plus o L (o.times x o.nought) ∙ times-nought o L x
  eval_padded (a ∷ f) x = ap (λ t. o.plus a (o.times x t)) (eval_padded f x)

  pub tangent_start : (f : List o.V) (x : o.V) → eval o (epsilons (tangent o f)) x ≡ slope o (reals (tangent o f)) x
  tangent_start [] x = refl
  tangent_start (a ∷ f) x =
      ap (λ t. eval o t x) (epsilons-paired (a ∷ f) (derivative o (a ∷ f) ++ (o.nought ∷ [])) (length_padded a f))
      ∙ eval_padded (derivative o (a ∷ f)) x ∙ eval-derivative o L (a ∷ f) x ∙ ap (λ t. slope o t x) (sym (tangent-reals (a ∷ f)))
