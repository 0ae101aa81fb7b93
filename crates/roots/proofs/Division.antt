-- Synthetic division by x - a, and the slope.
use Rattle.std.proofs.Common.{◌≡◌, ℕ, zero, suc, ◌-◌, List, [], ◌∷◌, length, sym, refl, ap, ◌∙◌, arith}
use Rattle.algebra.specs.Rings.{Ops, Lawful, number}
use Rattle.algebra.specs.Polynomials.{eval, coefficient, sum, product}
use Rattle.algebra.specs.RingsLemmas.{nought-plus, times-nought}
use Rattle.algebra.proofs.Polynomials.{coefficient-sum, eval-sum, eval-product}
use Rattle.algebra.proofs.Solver.{v, 𝟎, 𝟏, ◌⊕◌, ◌⊗◌, ⊖◌, ◌⊝◌, solve, solve₁}
use Rattle.roots.specs.Division.{linear, Same, weighted, derivative, quotient}
use Rattle.roots.specs.Slopes.{slope}
use Rattle.roots.proofs.Products.{rest, coefficient-rest, rest_same, eval_same, linear-zero, linear-suc, eval-linear}

module _ (o : Ops) (L : Lawful o) where
  -- the derivative

  eval-weighted : (n : ℕ) (f : List o.V) (x : o.V) → eval o (weighted o n f) x ≡ o.plus (o.times (number o n) (eval o f x)) (o.times x (slope o f x))
  eval-weighted n [] x = solve o L (number o n ∷ x ∷ []) 𝟎 (v 0 ⊗ 𝟎 ⊕ v 1 ⊗ 𝟎) refl
  eval-weighted n (b ∷ f) x =
      ap (λ t. o.plus (o.times (number o n) b) (o.times x t)) (eval-weighted (suc n) f x)
      ∙ solve o L (number o n ∷ x ∷ b ∷ eval o f x ∷ slope o f x ∷ []) (v 0 ⊗ v 2 ⊕ v 1 ⊗ ((𝟏 ⊕ v 0) ⊗ v 3 ⊕ v 1 ⊗ v 4)) (v 0 ⊗ (v 2 ⊕ v 1 ⊗ v 3) ⊕ v 1 ⊗ (v 3 ⊕ v 1 ⊗ v 4)) refl

  pub eval-derivative : (f : List o.V) (x : o.V) → eval o (derivative o f) x ≡ slope o f x
  eval-derivative [] x = refl
  eval-derivative (a ∷ f) x =
      eval-weighted 1 f x ∙ solve o L (x ∷ eval o f x ∷ slope o f x ∷ []) ((𝟏 ⊕ 𝟎) ⊗ v 1 ⊕ v 0 ⊗ v 2) (v 1 ⊕ v 0 ⊗ v 2) refl

  -- the coefficients of the quotient

  pub quotient-zero : (a : o.V) (f : List o.V) → coefficient o (quotient o a f) 0 ≡ eval o (rest f) a
  quotient-zero a [] = refl
  quotient-zero a (c ∷ []) = refl
  quotient-zero a (c ∷ (b ∷ f)) = refl

  pub quotient-suc : (a : o.V) (f : List o.V) (k : ℕ) → coefficient o (quotient o a f) (suc k) ≡ coefficient o (quotient o a (rest f)) k
  quotient-suc a [] k = refl
  quotient-suc a (c ∷ []) k = refl
  quotient-suc a (c ∷ (b ∷ f)) k = refl

  -- each from the one above it, and the remainder from the last
  pub quotient-value : (a : o.V) (f : List o.V) → eval o f a ≡ o.plus (coefficient o f 0) (o.times a (coefficient o (quotient o a f) 0))
  quotient-value a [] = solve o L (a ∷ []) 𝟎 (𝟎 ⊕ v 0 ⊗ 𝟎) refl
  quotient-value a (c ∷ []) = refl
  quotient-value a (c ∷ (b ∷ f)) = refl

  pub quotient_next : (a : o.V) (f : List o.V) (k : ℕ)
      → coefficient o (quotient o a f) k ≡ o.plus (coefficient o f (suc k)) (o.times a (coefficient o (quotient o a f) (suc k)))
  quotient_next a [] k = solve o L (a ∷ []) 𝟎 (𝟎 ⊕ v 0 ⊗ 𝟎) refl
  quotient_next a (c ∷ []) k = solve o L (a ∷ []) 𝟎 (𝟎 ⊕ v 0 ⊗ 𝟎) refl
  quotient_next a (c ∷ (b ∷ f)) zero = quotient-value a (b ∷ f)
  quotient_next a (c ∷ (b ∷ f)) (suc k) = quotient_next a (b ∷ f) k

  pub length-quotient : (a : o.V) (f : List o.V) → length (quotient o a f) ≡ length f - 1
  length-quotient a [] = refl
  length-quotient a (c ∷ []) = refl
  length-quotient a (c ∷ (b ∷ f)) = let e = length-quotient a (b ∷ f) in omega arith

  pub quotient-top : (a : o.V) (f : List o.V) (d : ℕ) → length f ≡ suc (suc d) → coefficient o (quotient o a f) d ≡ coefficient o f (suc d)
  quotient-top a [] d e = absurd (bad e)
    where
      bad : 0 ≡ suc (suc d) → ⊥
      bad e = omega arith
  quotient-top a (c ∷ []) d e = refl
  quotient-top a (c ∷ (b ∷ [])) zero e = solve o L (b ∷ a ∷ []) (v 0 ⊕ v 1 ⊗ 𝟎) (v 0) refl
  quotient-top a (c ∷ (b ∷ [])) (suc d) e = refl
  quotient-top a (c ∷ (b ∷ (h ∷ f))) zero e = absurd (bad e)
    where
      bad : suc (suc (suc (length f))) ≡ 2 → ⊥
      bad e = omega arith
  quotient-top a (c ∷ (b ∷ (h ∷ f))) (suc d) e = quotient-top a (b ∷ (h ∷ f)) d (omega arith)

  -- the law of division

  pub divide_law : (a : o.V) (f : List o.V) → Same o f (sum o (product o (linear o a) (quotient o a f)) (eval o f a ∷ []))
  divide_law a f zero =
      let q = quotient o a f in
      solve₁ o L (a ∷ coefficient o f 0 ∷ coefficient o q 0 ∷ eval o f a ∷ []) (v 1) (⊖ v 0 ⊗ v 2 ⊕ v 3) (⊖ 𝟏) (v 3) (v 1 ⊕ v 0 ⊗ v 2) (quotient-value a f) refl
      ∙ cc (linear-zero o L a q, coefficient-sum o L (product o (linear o a) q) (eval o f a ∷ []) 0)
  divide_law a f (suc k) =
      let q = quotient o a f in
      solve₁ o L (a ∷ coefficient o f (suc k) ∷ coefficient o q (suc k) ∷ coefficient o q k ∷ []) (v 1) (⊖ v 0 ⊗ v 2 ⊕ v 3 ⊕ 𝟎) (⊖ 𝟏) (v 3) (v 1 ⊕ v 0 ⊗ v 2) (quotient_next a f k) refl
      ∙ cc (linear-suc o L a q k, coefficient-sum o L (product o (linear o a) q) (eval o f a ∷ []) (suc k))

  pub divide_value : (a : o.V) (f : List o.V) (x : o.V)
      → eval o f x ≡ o.plus (o.times (o.plus x (o.minus a)) (eval o (quotient o a f) x)) (eval o f a)
  divide_value a f x =
      let q = quotient o a f in
      eval_same o L f (sum o (product o (linear o a) q) (eval o f a ∷ [])) x (divide_law a f)
      ∙ eval-sum o L (product o (linear o a) q) (eval o f a ∷ []) x
      ∙ cc (eval-product o L (linear o a) q x, eval-linear o L a x, times-nought o L x, L.plus-nought (eval o f a))

  pub slope-quotient : (a : o.V) (f : List o.V) → eval o (quotient o a f) a ≡ slope o f a
  slope-quotient a [] = refl
  slope-quotient a (c ∷ []) = solve o L (a ∷ []) 𝟎 (𝟎 ⊕ v 0 ⊗ 𝟎) refl
  slope-quotient a (c ∷ (b ∷ f)) = ap (λ t. o.plus (eval o (b ∷ f) a) (o.times a t)) (slope-quotient a (b ∷ f))

  -- a multiple of x - a vanishes at a
  pub eval_multiple : (a : o.V) (g : List o.V) → eval o (product o (linear o a) g) a ≡ o.nought
  eval_multiple a g =
      eval-product o L (linear o a) g a ∙ ap (λ t. o.times t (eval o g a)) (eval-linear o L a a)
      ∙ solve o L (a ∷ eval o g a ∷ []) ((v 0 ⊝ v 0) ⊗ v 1) 𝟎 refl

  pub divide_root : (a : o.V) (f : List o.V) → eval o f a ≡ o.nought → Same o f (product o (linear o a) (quotient o a f))
  divide_root a f e k =
      let p = product o (linear o a) (quotient o a f) in
      divide_law a f k ∙ coefficient-sum o L p (eval o f a ∷ []) k ∙ ap (o.plus (coefficient o p k)) (none k) ∙ L.plus-nought (coefficient o p k)
    where
      none : (k : ℕ) → coefficient o (eval o f a ∷ []) k ≡ o.nought
      none zero = e
      none (suc k) = refl

  -- the quotient does not see the constant
  pub quotient-rest : (a : o.V) (f g : List o.V) → Same o (rest f) (rest g) → Same o (quotient o a f) (quotient o a g)
  quotient-rest a f g s zero = quotient-zero a f ∙ eval_same o L (rest f) (rest g) a s ∙ sym (quotient-zero a g)
  quotient-rest a f g s (suc k) =
      quotient-suc a f k ∙ quotient-rest a (rest f) (rest g) (rest_same o L (rest f) (rest g) s) k ∙ sym (quotient-suc a g k)

  pub quotient_same : (a : o.V) (f g : List o.V) → Same o f g → Same o (quotient o a f) (quotient o a g)
  quotient_same a f g s = quotient-rest a f g (rest_same o L f g s)

  -- (x - a) g without its constant is the constant of g and (x - a) times the rest of g
  linear-rest : (a : o.V) (g : List o.V) → Same o (rest (product o (linear o a) g)) (sum o (coefficient o g 0 ∷ []) (product o (linear o a) (rest g)))
  linear-rest a g zero =
      let p = product o (linear o a) (rest g) in
      cc (
        coefficient-rest o L (product o (linear o a) g) 0,
        linear-suc o L a g 0,
        coefficient-sum o L (coefficient o g 0 ∷ []) p 0,
        linear-zero o L a (rest g),
        coefficient-rest o L g 0,
        L.plus_comm (o.times (o.minus a) (coefficient o g 1)) (coefficient o g 0),
      )
  linear-rest a g (suc k) =
      let p = product o (linear o a) (rest g) in
      cc (
        coefficient-rest o L (product o (linear o a) g) (suc k),
        linear-suc o L a g (suc k),
        coefficient-sum o L (coefficient o g 0 ∷ []) p (suc k),
        linear-suc o L a (rest g) k,
        coefficient-rest o L g k,
        coefficient-rest o L g (suc k),
        nought-plus o L (coefficient o p (suc k)),
      )

  -- adding a constant does not change what stands above it
  rest_constant : (c : o.V) (f : List o.V) → Same o (rest (sum o (c ∷ []) f)) (rest f)
  rest_constant c f k =
      coefficient-rest o L (sum o (c ∷ []) f) k ∙ coefficient-sum o L (c ∷ []) f (suc k) ∙ nought-plus o L (coefficient o f (suc k)) ∙ sym (coefficient-rest o L f k)

  pub quotient-product : (a : o.V) (g : List o.V) → Same o (quotient o a (product o (linear o a) g)) g
  quotient-product a g zero =
      let p = product o (linear o a) (rest g) in
      let c = coefficient o g 0 in
      quotient-zero a (product o (linear o a) g)
      ∙ eval_same o L (rest (product o (linear o a) g)) (sum o (c ∷ []) p) a (linear-rest a g)
      ∙ eval-sum o L (c ∷ []) p a
      ∙ cc (eval_multiple a (rest g), times-nought o L a, L.plus-nought c)
  quotient-product a g (suc k) =
      let m = product o (linear o a) g in
      let p = product o (linear o a) (rest g) in
      let c = coefficient o g 0 in
      quotient-suc a m k
      ∙ quotient_same a (rest m) (sum o (c ∷ []) p) (linear-rest a g) k
      ∙ quotient-rest a (sum o (c ∷ []) p) p (rest_constant c p) k
      ∙ quotient-product a (rest g) k
      ∙ coefficient-rest o L g k

  -- x - a can be cancelled
  pub linear_cancel : (a : o.V) (g h : List o.V) → Same o (product o (linear o a) g) (product o (linear o a) h) → Same o g h
  linear_cancel a g h s k =
      sym (quotient-product a g k) ∙ quotient_same a (product o (linear o a) g) (product o (linear o a) h) s k ∙ quotient-product a h k
