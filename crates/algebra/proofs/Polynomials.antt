-- Laws of polynomials: their values, coefficients and lengths.
use Rattle.std.proofs.Common.{◌≡◌, ℕ, zero, suc, ◌+◌, ◌-◌, ◌≤◌, List, [], ◌∷◌, map, length, sym, refl, ap, ◌∙◌, add-suc, suc-add, arith}
use lib.ListN.{length-map}
use Rattle.std.proofs.lemmas.List.{ext_get_or}
use Rattle.algebra.specs.Rings.{Ops, Lawful}
use Rattle.algebra.specs.Polynomials.{eval, coefficient, sum, scale, product, alternate, spread, sign}
use Rattle.algebra.specs.RingsLemmas.{plus_left, times_left, nought-plus, unit-times, plus_times, times-nought, nought-times, minus_plus, minus-nought, times-minus, minus-times}
use Rattle.algebra.proofs.Sums.{total, total_front, total-nought, total_same}

module _ (o : Ops) (L : Lawful o) where
  -- values

  pub eval-sum : (f g : List o.V) (x : o.V) → eval o (sum o f g) x ≡ o.plus (eval o f x) (eval o g x)
  eval-sum [] g x = sym (nought-plus o L (eval o g x))
  eval-sum (a ∷ f) [] x = sym (L.plus-nought (eval o (a ∷ f) x))
  eval-sum (a ∷ f) (b ∷ g) x =
      let F = o.times x (eval o f x) in
      let G = o.times x (eval o g x) in
      ap (λ t. o.plus (o.plus a b) (o.times x t)) (eval-sum f g x)
      ∙ cc (L.times-plus x (eval o f x) (eval o g x), L.plus_assoc a b (o.plus F G), plus_left o L b F G, L.plus_assoc a F (o.plus b G))

  pub eval-scale : (c : o.V) (f : List o.V) (x : o.V) → eval o (scale o c f) x ≡ o.times c (eval o f x)
  eval-scale c [] x = sym (times-nought o L c)
  eval-scale c (a ∷ f) x =
      ap (λ t. o.plus (o.times c a) (o.times x t)) (eval-scale c f x)
      ∙ cc (times_left o L x c (eval o f x), L.times-plus c a (o.times x (eval o f x)))

  pub eval-minus : (f : List o.V) (x : o.V) → eval o (map o.minus f) x ≡ o.minus (eval o f x)
  eval-minus [] x = sym (minus-nought o L)
  eval-minus (a ∷ f) x =
      ap (λ t. o.plus (o.minus a) (o.times x t)) (eval-minus f x)
      ∙ cc (times-minus o L x (eval o f x), minus_plus o L a (o.times x (eval o f x)))

  pub eval-product : (f g : List o.V) (x : o.V) → eval o (product o f g) x ≡ o.times (eval o f x) (eval o g x)
  eval-product [] g x = sym (nought-times o L (eval o g x))
  eval-product (a ∷ f) g x =
      eval-sum (scale o a g) (o.nought ∷ product o f g) x
      ∙ cc (
        eval-scale a g x,
        nought-plus o L (o.times x (eval o (product o f g) x)),
        eval-product f g x,
        L.times_assoc x (eval o f x) (eval o g x),
        plus_times o L a (o.times x (eval o f x)) (eval o g x),
      )

  pub eval-alternate : (f : List o.V) (x : o.V) → eval o (alternate o f) x ≡ eval o f (o.minus x)
  eval-alternate [] x = refl
  eval-alternate (a ∷ f) x =
      ap (o.plus a) (ap (o.times x) (eval-minus (alternate o f) x ∙ ap o.minus (eval-alternate f x))
      ∙ times-minus o L x (eval o f (o.minus x)) ∙ sym (minus-times o L x (eval o f (o.minus x))))

  pub eval-spread : (g : List o.V) (x : o.V) → eval o (spread o g) x ≡ eval o g (o.times x x)
  eval-spread [] x = refl
  eval-spread (a ∷ []) x = ap (o.plus a) (times-nought o L x ∙ sym (times-nought o L (o.times x x)))
  eval-spread (a ∷ (b ∷ g)) x =
      ap (o.plus a) (ap (o.times x) (nought-plus o L (o.times x (eval o (spread o (b ∷ g)) x)) ∙ ap (o.times x) (eval-spread (b ∷ g) x))
      ∙ sym (L.times_assoc x x (eval o (b ∷ g) (o.times x x))))

  -- coefficients

  pub coefficient-sum : (f g : List o.V) (k : ℕ) → coefficient o (sum o f g) k ≡ o.plus (coefficient o f k) (coefficient o g k)
  coefficient-sum [] g k = sym (nought-plus o L (coefficient o g k))
  coefficient-sum (a ∷ f) [] k = sym (L.plus-nought (coefficient o (a ∷ f) k))
  coefficient-sum (a ∷ f) (b ∷ g) zero = refl
  coefficient-sum (a ∷ f) (b ∷ g) (suc k) = coefficient-sum f g k

  pub coefficient-scale : (c : o.V) (f : List o.V) (k : ℕ) → coefficient o (scale o c f) k ≡ o.times c (coefficient o f k)
  coefficient-scale c [] k = sym (times-nought o L c)
  coefficient-scale c (a ∷ f) zero = refl
  coefficient-scale c (a ∷ f) (suc k) = coefficient-scale c f k

  coefficient-minus : (f : List o.V) (k : ℕ) → coefficient o (map o.minus f) k ≡ o.minus (coefficient o f k)
  coefficient-minus [] k = sym (minus-nought o L)
  coefficient-minus (a ∷ f) zero = refl
  coefficient-minus (a ∷ f) (suc k) = coefficient-minus f k

  pub sign-suc : (d : ℕ) → sign o (suc d) ≡ o.minus (sign o d)
  sign-suc d = minus-times o L o.unit (sign o d) ∙ ap o.minus (unit-times o L (sign o d))

  pub coefficient-alternate : (f : List o.V) (k : ℕ) → coefficient o (alternate o f) k ≡ o.times (sign o k) (coefficient o f k)
  coefficient-alternate [] k = sym (times-nought o L (sign o k))
  coefficient-alternate (a ∷ f) zero = sym (unit-times o L a)
  coefficient-alternate (a ∷ f) (suc k) =
      coefficient-minus (alternate o f) k ∙ ap o.minus (coefficient-alternate f k)
      ∙ sym (minus-times o L (sign o k) (coefficient o f k)) ∙ ap (λ t. o.times t (coefficient o f k)) (sym (sign-suc k))

  pub coefficient-product : (f g : List o.V) (n : ℕ)
      → coefficient o (product o f g) n ≡ total o (λ i. o.times (coefficient o f i) (coefficient o g (n - i))) (suc n)
  coefficient-product [] g n = sym (total-nought o L (λ i. o.times o.nought (coefficient o g (n - i))) (suc n) (λ i _. nought-times o L (coefficient o g (n - i))))
  coefficient-product (a ∷ f) g zero =
      coefficient-sum (scale o a g) (o.nought ∷ product o f g) zero ∙ L.plus-nought (coefficient o (scale o a g) zero)
      ∙ coefficient-scale a g zero ∙ sym (nought-plus o L (o.times a (coefficient o g zero)))
  coefficient-product (a ∷ f) g (suc n) =
      coefficient-sum (scale o a g) (o.nought ∷ product o f g) (suc n)
      ∙ cc (
        coefficient-scale a g (suc n),
        coefficient-product f g n,
        total_same o L (λ i. o.times (coefficient o f i) (coefficient o g (n - i))) (λ i. o.times (coefficient o f i) (coefficient o g (suc n - suc i))) (suc n) (λ i _. ap (λ k. o.times (coefficient o f i) (coefficient o g k)) (fewer n i)),
        total_front o L (λ i. o.times (coefficient o (a ∷ f) i) (coefficient o g (suc n - i))) (suc n),
        ap (λ k. coefficient o g k) (none n),
      )
    where
      fewer : (n i : ℕ) → n - i ≡ suc n - suc i
      fewer n i = omega arith

      none : (n : ℕ) → suc n - 0 ≡ suc n
      none n = omega arith

  pub coefficient-spread_even : (g : List o.V) (k : ℕ) → coefficient o (spread o g) (k + k) ≡ coefficient o g k
  coefficient-spread_even [] k = refl
  coefficient-spread_even (a ∷ []) zero = refl
  coefficient-spread_even (a ∷ []) (suc k) = rw add-suc refl
  coefficient-spread_even (a ∷ (b ∷ g)) zero = refl
  coefficient-spread_even (a ∷ (b ∷ g)) (suc k) = simp (suc-add, add-suc) (coefficient-spread_even (b ∷ g) k)

  pub coefficient-spread_odd : (g : List o.V) (k : ℕ) → coefficient o (spread o g) (suc (k + k)) ≡ o.nought
  coefficient-spread_odd [] k = refl
  coefficient-spread_odd (a ∷ []) k = refl
  coefficient-spread_odd (a ∷ (b ∷ g)) zero = refl
  coefficient-spread_odd (a ∷ (b ∷ g)) (suc k) = simp (suc-add, add-suc) (coefficient-spread_odd (b ∷ g) k)

  -- lengths

  pub length-spread : (a : o.V) (g : List o.V) → length (spread o (a ∷ g)) ≡ suc (length g + length g)
  length-spread a [] = refl
  length-spread a (b ∷ g) = ap (λ n. suc (suc n)) (length-spread b g) ∙ omega arith

  pub length-alternate : (f : List o.V) → length (alternate o f) ≡ length f
  length-alternate [] = refl
  length-alternate (a ∷ f) = ap suc (length-map (alternate o f) o.minus ∙ length-alternate f)

  length-sum : (f g : List o.V) → length g ≤ length f → length (sum o f g) ≡ length f
  length-sum [] [] h = refl
  length-sum [] (b ∷ g) h = absurd (bad h)
    where
      bad : suc (length g) ≤ 0 → ⊥
      bad h = omega arith
  length-sum (a ∷ f) [] h = refl
  length-sum (a ∷ f) (b ∷ g) h = ap suc (length-sum f g (omega arith))

  length-sum_right : (f g : List o.V) → length f ≤ length g → length (sum o f g) ≡ length g
  length-sum_right [] g h = refl
  length-sum_right (a ∷ f) [] h = absurd (bad h)
    where
      bad : suc (length f) ≤ 0 → ⊥
      bad h = omega arith
  length-sum_right (a ∷ f) (b ∷ g) h = ap suc (length-sum_right f g (omega arith))

  pub length-product : (a b : o.V) (f g : List o.V) → length (product o (a ∷ f) (b ∷ g)) ≡ suc (length f + length g)
  length-product a b [] g =
      length-sum (scale o a (b ∷ g)) (o.nought ∷ []) (omega arith) ∙ ap suc (length-map g (o.times a)) ∙ omega arith
  length-product a b (c ∷ f) g =
      let rec = length-product c b f g in
      length-sum_right (scale o a (b ∷ g)) (o.nought ∷ product o (c ∷ f) (b ∷ g)) (omega (arith, length-map g (o.times a))) ∙ omega arith

  pub same_polynomial : (f g : List o.V) → length f ≡ length g → ((k : ℕ) → coefficient o f k ≡ coefficient o g k) → f ≡ g
  same_polynomial f g e h = ext_get_or o.nought f g e (λ k _. h k)
