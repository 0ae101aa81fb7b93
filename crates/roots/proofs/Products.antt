-- Laws of sums and products of polynomials up to `Same`, the zeros on top apart.
use Rattle.std.proofs.Common.{◌≡◌, ℕ, zero, suc, ◌-◌, ◌<◌, List, [], ◌∷◌, sym, refl, ap, ◌∙◌, arith}
use Rattle.algebra.specs.Rings.{Ops, Lawful}
use Rattle.algebra.specs.Polynomials.{eval, coefficient, sum, scale, product}
use Rattle.algebra.specs.RingsLemmas.{nought-plus, unit-times, nought-times, times-nought}
use Rattle.algebra.proofs.Sums.{total_same, total-reverse}
use Rattle.algebra.proofs.Polynomials.{coefficient-sum, coefficient-scale, coefficient-product}
use Rattle.algebra.proofs.Solver.{v, 𝟎, 𝟏, ◌⊕◌, ◌⊗◌, ⊖◌, ◌⊝◌, solve, solve₁}
use Rattle.roots.specs.Division.{linear, Same}

-- a list without its first
abbrev pub rest : {X : Type 0} → List X → List X
rest [] = []
rest (a ∷ f) = f

module _ (o : Ops) (L : Lawful o) where
  pub same_refl : (f : List o.V) → Same o f f
  same_refl f k = refl

  pub same_sym : (f g : List o.V) → Same o f g → Same o g f
  same_sym f g s k = sym (s k)

  pub same_trans : (f g h : List o.V) → Same o f g → Same o g h → Same o f h
  same_trans f g h s t k = s k ∙ t k

  pub coefficient-rest : (f : List o.V) (k : ℕ) → coefficient o (rest f) k ≡ coefficient o f (suc k)
  coefficient-rest [] k = refl
  coefficient-rest (a ∷ f) k = refl

  pub rest_same : (f g : List o.V) → Same o f g → Same o (rest f) (rest g)
  rest_same f g s k = coefficient-rest f k ∙ s (suc k) ∙ sym (coefficient-rest g k)

  pub eval-rest : (f : List o.V) (x : o.V) → eval o f x ≡ o.plus (coefficient o f 0) (o.times x (eval o (rest f) x))
  eval-rest [] x = solve o L (x ∷ []) 𝟎 (𝟎 ⊕ v 0 ⊗ 𝟎) refl
  eval-rest (a ∷ f) x = refl

  pub eval-nought : (f : List o.V) (x : o.V) → Same o f [] → eval o f x ≡ o.nought
  eval-nought [] x s = refl
  eval-nought (a ∷ f) x s = cc (s 0, eval-nought f x (λ k. s (suc k)), times-nought o L x, L.plus-nought o.nought)

  pub eval_same : (f g : List o.V) (x : o.V) → Same o f g → eval o f x ≡ eval o g x
  eval_same [] g x s = sym (eval-nought g x (λ k. sym (s k)))
  eval_same (a ∷ f) [] x s = eval-nought (a ∷ f) x s
  eval_same (a ∷ f) (b ∷ g) x s = cc (s 0, eval_same f g x (λ k. s (suc k)))

  pub sum_same : (f f' g g' : List o.V) → Same o f f' → Same o g g' → Same o (sum o f g) (sum o f' g')
  sum_same f f' g g' s t k = cc (coefficient-sum o L f g k, coefficient-sum o L f' g' k, s k, t k)

  pub sum_comm : (f g : List o.V) → Same o (sum o f g) (sum o g f)
  sum_comm f g k = cc (coefficient-sum o L f g k, coefficient-sum o L g f k, L.plus_comm (coefficient o f k) (coefficient o g k))

  -- the coefficients of a product, by the first factor's first
  pub product-zero : (a : o.V) (f g : List o.V) → coefficient o (product o (a ∷ f) g) 0 ≡ o.times a (coefficient o g 0)
  product-zero a f g = coefficient-sum o L (scale o a g) (o.nought ∷ product o f g) 0 ∙ L.plus-nought (coefficient o (scale o a g) 0) ∙ coefficient-scale o L a g 0

  pub product-suc : (a : o.V) (f g : List o.V) (k : ℕ)
      → coefficient o (product o (a ∷ f) g) (suc k) ≡ o.plus (o.times a (coefficient o g (suc k))) (coefficient o (product o f g) k)
  product-suc a f g k = cc (coefficient-sum o L (scale o a g) (o.nought ∷ product o f g) (suc k), coefficient-scale o L a g (suc k))

  pub product_same : (f f' g g' : List o.V) → Same o f f' → Same o g g' → Same o (product o f g) (product o f' g')
  product_same f f' g g' s t k =
      coefficient-product o L f g k
      ∙ total_same o L (λ i. o.times (coefficient o f i) (coefficient o g (k - i))) (λ i. o.times (coefficient o f' i) (coefficient o g' (k - i))) (suc k) (λ i _. cc (s i, t (k - i)))
      ∙ sym (coefficient-product o L f' g' k)

  pub product_comm : (f g : List o.V) → Same o (product o f g) (product o g f)
  product_comm f g k =
      let F : ℕ → o.V = λ i. o.times (coefficient o f i) (coefficient o g (k - i)) in
      coefficient-product o L f g k ∙ total-reverse o L F (suc k)
      ∙ total_same o L (λ i. F (suc k - 1 - i)) (λ i. o.times (coefficient o g i) (coefficient o f (k - i))) (suc k)
      (λ i l. cc (L.times_comm (coefficient o f (suc k - 1 - i)) (coefficient o g (k - (suc k - 1 - i))), ap (λ n. coefficient o f n) (fewer k i), ap (λ n. coefficient o g n) (back k i l)))
      ∙ sym (coefficient-product o L g f k)
    where
      fewer : (k i : ℕ) → suc k - 1 - i ≡ k - i
      fewer k i = omega arith

      back : (k i : ℕ) → i < suc k → k - (suc k - 1 - i) ≡ i
      back k i l = omega arith

  pub product_none : (f : List o.V) → Same o (product o f []) []
  product_none f k = product_comm f [] k

  pub product-sum : (f f' g : List o.V) → Same o (product o (sum o f f') g) (sum o (product o f g) (product o f' g))
  product-sum [] f' g k = refl
  product-sum (a ∷ f) [] g k = sym (coefficient-sum o L (product o (a ∷ f) g) [] k ∙ L.plus-nought (coefficient o (product o (a ∷ f) g) k))
  product-sum (a ∷ f) (b ∷ f') g zero =
      solve₁ o L (a ∷ b ∷ coefficient o g 0 ∷ coefficient o (product o (o.plus a b ∷ sum o f f') g) 0 ∷ []) (v 3) (v 0 ⊗ v 2 ⊕ v 1 ⊗ v 2) 𝟏 (v 3) ((v 0 ⊕ v 1) ⊗ v 2) (product-zero (o.plus a b) (sum o f f') g) refl
      ∙ cc (product-zero a f g, product-zero b f' g, coefficient-sum o L (product o (a ∷ f) g) (product o (b ∷ f') g) 0)
  product-sum (a ∷ f) (b ∷ f') g (suc k) =
      let G = coefficient o g (suc k) in
      let P = coefficient o (product o f g) k in
      let Q = coefficient o (product o f' g) k in
      cc (
        product-suc (o.plus a b) (sum o f f') g k,
        product-sum f f' g k,
        coefficient-sum o L (product o f g) (product o f' g) k,
        solve o L (a ∷ b ∷ G ∷ P ∷ Q ∷ []) ((v 0 ⊕ v 1) ⊗ v 2 ⊕ (v 3 ⊕ v 4)) ((v 0 ⊗ v 2 ⊕ v 3) ⊕ (v 1 ⊗ v 2 ⊕ v 4)) refl,
        product-suc a f g k,
        product-suc b f' g k,
        coefficient-sum o L (product o (a ∷ f) g) (product o (b ∷ f') g) (suc k),
      )

  pub product-scale : (c : o.V) (f g : List o.V) → Same o (product o (scale o c f) g) (scale o c (product o f g))
  product-scale c [] g k = refl
  product-scale c (a ∷ f) g zero =
      cc (product-zero (o.times c a) (scale o c f) g, product-zero a f g, coefficient-scale o L c (product o (a ∷ f) g) 0, L.times_assoc c a (coefficient o g 0))
  product-scale c (a ∷ f) g (suc k) =
      let G = coefficient o g (suc k) in
      let P = coefficient o (product o f g) k in
      cc (
        product-suc (o.times c a) (scale o c f) g k,
        product-scale c f g k,
        coefficient-scale o L c (product o f g) k,
        solve o L (c ∷ a ∷ G ∷ P ∷ []) (v 0 ⊗ v 1 ⊗ v 2 ⊕ v 0 ⊗ v 3) (v 0 ⊗ (v 1 ⊗ v 2 ⊕ v 3)) refl,
        product-suc a f g k,
        coefficient-scale o L c (product o (a ∷ f) g) (suc k),
      )

  pub product-shift : (f g : List o.V) → Same o (product o (o.nought ∷ f) g) (o.nought ∷ product o f g)
  product-shift f g zero = product-zero o.nought f g ∙ nought-times o L (coefficient o g 0)
  product-shift f g (suc k) =
      product-suc o.nought f g k ∙ cc (nought-times o L (coefficient o g (suc k)), nought-plus o L (coefficient o (product o f g) k))

  pub product_assoc : (f g h : List o.V) → Same o (product o (product o f g) h) (product o f (product o g h))
  product_assoc [] g h k = refl
  product_assoc (a ∷ f) g h k =
      product-sum (scale o a g) (o.nought ∷ product o f g) h k
      ∙ sum_same (product o (scale o a g) h) (scale o a (product o g h)) (product o (o.nought ∷ product o f g) h) (o.nought ∷ product o f (product o g h))
      (product-scale a g h) (shifted (product_assoc f g h)) k
    where
      shifted : Same o (product o (product o f g) h) (product o f (product o g h)) → Same o (product o (o.nought ∷ product o f g) h) (o.nought ∷ product o f (product o g h))
      shifted s zero = product-shift (product o f g) h zero
      shifted s (suc k) = product-shift (product o f g) h (suc k) ∙ s k

  pub unit-product : (g : List o.V) → Same o (product o (o.unit ∷ []) g) g
  unit-product g zero = product-zero o.unit [] g ∙ unit-times o L (coefficient o g 0)
  unit-product g (suc k) = product-suc o.unit [] g k ∙ L.plus-nought (o.times o.unit (coefficient o g (suc k))) ∙ unit-times o L (coefficient o g (suc k))

  -- f (g h) = g (f h)
  pub product_left : (f g h : List o.V) → Same o (product o f (product o g h)) (product o g (product o f h))
  product_left f g h k =
      sym (product_assoc f g h k) ∙ product_same (product o f g) (product o g f) h h (product_comm f g) (λ i. refl) k ∙ product_assoc g f h k

  -- the product with x - a
  pub linear-zero : (a : o.V) (g : List o.V) → coefficient o (product o (linear o a) g) 0 ≡ o.times (o.minus a) (coefficient o g 0)
  linear-zero a g = product-zero (o.minus a) (o.unit ∷ []) g

  pub linear-suc : (a : o.V) (g : List o.V) (k : ℕ)
      → coefficient o (product o (linear o a) g) (suc k) ≡ o.plus (o.times (o.minus a) (coefficient o g (suc k))) (coefficient o g k)
  linear-suc a g k = product-suc (o.minus a) (o.unit ∷ []) g k ∙ ap (o.plus (o.times (o.minus a) (coefficient o g (suc k)))) (unit-product g k)

  pub eval-linear : (a x : o.V) → eval o (linear o a) x ≡ o.plus x (o.minus a)
  eval-linear a x = solve o L (a ∷ x ∷ []) (⊖ v 0 ⊕ v 1 ⊗ (𝟏 ⊕ v 1 ⊗ 𝟎)) (v 1 ⊝ v 0) refl
