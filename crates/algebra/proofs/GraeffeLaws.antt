-- The coefficients of f(x) f(-x), and that those of the transform make it.
use Rattle.std.proofs.Common.{◌≡◌, ℕ, zero, suc, ◌+◌, ◌-◌, ◌/◌, ◌%◌, ◌<◌, ◌≤◌, ◌⊎◌, List, [], ◌∷◌, map, length, sym, refl, ap, ◌∙◌, inl, inr, ⊎_elim, add-zero, add-suc, suc-add, arith}
use lib.ListN.{length-map}
use Rattle.std.proofs.lemmas.List.{get_or_past}
use Rattle.std.proofs.lemmas.Bool.{cases_lt}
use Rattle.algebra.specs.Rings.{Ops, Lawful}
use Rattle.algebra.specs.Polynomials.{coefficient, scale, product, alternate, spread, sign}
use Rattle.algebra.specs.Graeffe.{Graeffe, evens, transform}
use Rattle.algebra.specs.RingsLemmas.{times_left, unit-times, times-nought, minus_minus, minus_plus, minus-nought, times-minus, minus-times, power-add}
use Rattle.algebra.proofs.Sums.{total, total_front, total-nought, total_same, total_split, total-reverse}
use Rattle.algebra.proofs.Polynomials.{sign-suc, coefficient-scale, coefficient-product, coefficient-alternate, coefficient-spread_even, coefficient-spread_odd, length-spread, length-product, length-alternate, same_polynomial}

-- a number is twice another, or one more
pub halves : (n : ℕ) → ((k : ℕ) × (n ≡ k + k)) ⊎ ((k : ℕ) × (n ≡ suc (k + k)))
halves zero = inl (0, refl)
halves (suc n) = ⊎_elim (λ h. inr (h.0, ap suc h.1)) (λ h. inl (suc h.0, omega (arith, h.1))) (halves n)

-- the term of the places i and n - i
abbrev pub pair : (o : Ops) → List o.V → ℕ → ℕ → o.V
pair o f n i = o.times (coefficient o f i) (coefficient o f (n - i))

-- with the sign of i
abbrev pub signed : (o : Ops) → List o.V → ℕ → ℕ → o.V
signed o f n i = o.times (sign o i) (pair o f n i)

pub length-evens : {X : Type 0} (f : List X) (n : ℕ) → length f ≡ suc (n + n) → length (evens f) ≡ suc n
length-evens [] n e = let none : ⊥ = omega arith in absurd none
length-evens (a ∷ []) n e = omega arith
length-evens (a ∷ (b ∷ f)) zero e = let none : ⊥ = omega arith in absurd none
length-evens (a ∷ (b ∷ f)) (suc n) e = ap suc (length-evens f n (omega arith))

module _ (o : Ops) (L : Lawful o) where
  pub sign_square : (d : ℕ) → o.times (sign o d) (sign o d) ≡ o.unit
  sign_square zero = unit-times o L o.unit
  sign_square (suc d) =
      cc (sign-suc o L d, minus-times o L (sign o d) (o.minus (sign o d)), times-minus o L (sign o d) (sign o d), sign_square d, minus_minus o L o.unit)

  sign_twice : (k : ℕ) → sign o (k + k) ≡ o.unit
  sign_twice k = power-add o L (o.minus o.unit) k k ∙ sign_square k

  partner : (a b : ℕ) → sign o a ≡ o.times (o.times (sign o a) (sign o b)) (sign o b)
  partner a b = sym (L.times_assoc (sign o a) (sign o b) (sign o b) ∙ ap (o.times (sign o a)) (sign_square b) ∙ L.times-unit (sign o a))

  -- equal signs where the places add up to an even number, opposite ones where to an odd one
  pub sign_even : (a b k : ℕ) → a + b ≡ k + k → sign o a ≡ sign o b
  sign_even a b k e =
      let both : o.times (sign o a) (sign o b) ≡ o.unit = sym (power-add o L (o.minus o.unit) a b) ∙ ap (sign o) e ∙ sign_twice k in
      partner a b ∙ ap (λ t. o.times t (sign o b)) both ∙ unit-times o L (sign o b)

  pub sign_odd : (a b k : ℕ) → a + b ≡ suc (k + k) → sign o a ≡ o.minus (sign o b)
  sign_odd a b k e =
      let both : o.times (sign o a) (sign o b) ≡ o.minus o.unit =
      sym (power-add o L (o.minus o.unit) a b) ∙ ap (sign o) e ∙ sign-suc o L (k + k) ∙ ap o.minus (sign_twice k) in
      partner a b ∙ ap (λ t. o.times t (sign o b)) both ∙ minus-times o L o.unit (sign o b) ∙ ap o.minus (unit-times o L (sign o b))

  total-minus : (u : ℕ → o.V) (n : ℕ) → total o (λ i. o.minus (u i)) n ≡ o.minus (total o u n)
  total-minus u zero = sym (minus-nought o L)
  total-minus u (suc n) = ap (λ t. o.plus t (o.minus (u n))) (total-minus u n) ∙ sym (minus_plus o L (total o u n) (u n))

  module _ (f : List o.V) where
    term : ℕ → ℕ → o.V
    term n i = o.times (coefficient o f i) (coefficient o (alternate o f) (n - i))

    term_is : (n i : ℕ) → term n i ≡ o.times (sign o (n - i)) (pair o f n i)
    unfolding term
    term_is n i = ap (o.times (coefficient o f i)) (coefficient-alternate o L f (n - i)) ∙ times_left o L (coefficient o f i) (sign o (n - i)) (coefficient o f (n - i))

    pair_turn : (n i : ℕ) → i ≤ n → pair o f n (n - i) ≡ pair o f n i
    pair_turn n i h =
        let back : n - (n - i) ≡ i = omega arith in
        ap (λ j. o.times (coefficient o f (n - i)) (coefficient o f j)) back ∙ L.times_comm (coefficient o f (n - i)) (coefficient o f i)

    product_terms : (n : ℕ) → coefficient o (product o f (alternate o f)) n ≡ total o (term n) (suc n)
    unfolding term
    product_terms n = coefficient-product o L f (alternate o f) n

    signed-turn : (k i : ℕ) → i ≤ k + k → signed o f (k + k) (k + k - i) ≡ signed o f (k + k) i
    signed-turn k i h =
        let e : k + k - i + i ≡ k + k = omega arith in
        cc (sign_even (k + k - i) i k e, pair_turn (k + k) i h)

    -- an even place: the terms below the middle twice, and the middle one
    pub even_place : (k : ℕ) → coefficient o (product o f (alternate o f)) (k + k)
        ≡ o.plus (total o (signed o f (k + k)) k) (o.plus (signed o f (k + k) k) (total o (signed o f (k + k)) k))
    even_place k =
        let u : ℕ → o.V = signed o f (k + k) in
        product_terms (k + k)
        ∙ total_same o L (term (k + k)) u (suc (k + k)) (λ i h.
        let e : k + k - i + i ≡ k + k = omega arith in
        term_is (k + k) i ∙ ap (λ s. o.times s (pair o f (k + k) i)) (sign_even (k + k - i) i k e))
        ∙ ap (total o u) (sym (add-suc k k))
        ∙ total_split o L u k (suc k)
        ∙ ap (o.plus (total o u k)) (total_front o L (λ i. u (k + i)) k
        ∙ cc (
          ap u (add-zero k),
          total-reverse o L (λ i. u (k + suc i)) k,
          total_same o L (λ i. u (k + suc (k - 1 - i))) u k (λ i h.
              let e : k + suc (k - 1 - i) ≡ k + k - i = omega arith in ap u e ∙ signed-turn k i (omega arith)),
        ))

    -- an odd place vanishes
    pub odd_place : (k : ℕ) → coefficient o (product o f (alternate o f)) (suc (k + k)) ≡ o.nought
    odd_place k =
        let n : ℕ = suc (k + k) in
        let w : ℕ → o.V = term n in
        let W : o.V = total o w (suc k) in
        product_terms n
        ∙ ap (total o w) (ap suc (sym (suc-add k k)) ∙ sym (add-suc (suc k) k))
        ∙ total_split o L w (suc k) (suc k)
        ∙ ap (o.plus W) (total-reverse o L (λ i. w (suc k + i)) (suc k)
        ∙ total_same o L (λ i. w (suc k + (suc k - 1 - i))) (λ i. o.minus (w i)) (suc k) (λ i h.
        let e : suc k + (suc k - 1 - i) ≡ n - i = omega arith in
        let back : n - (n - i) ≡ i = omega arith in
        let odd : i + (n - i) ≡ suc (k + k) = omega arith in
        ap w e ∙ term_is n (n - i)
        ∙ cc (ap (sign o) back, pair_turn n i (omega arith), sign_odd i (n - i) k odd, minus-times o L (sign o (n - i)) (pair o f n i), term_is n i))
        ∙ total-minus w (suc k))
        ∙ L.plus-minus W

    -- a turn of the loop that keeps the alternating sum of the pairs as odd - even
    pub middle_step : (n i : ℕ) (odd even next x y : o.V)
        → o.plus odd (o.minus even) ≡ o.minus (o.times (sign o i) (total o (signed o f n) i))
        → x ≡ coefficient o f i → y ≡ coefficient o f (n - i) → next ≡ o.plus even (o.times x y)
        → o.plus next (o.minus odd) ≡ o.minus (o.times (sign o (suc i)) (total o (signed o f n) (suc i)))
    middle_step n i odd even next x y inv ex ey en =
        let s = sign o i in
        let T = total o (signed o f n) i in
        let t = pair o f n i in
        let back : o.plus (o.minus odd) even ≡ o.times s T =
        cc (minus_plus o L odd (o.minus even), minus_minus o L even, ap o.minus inv, minus_minus o L (o.times s T)) in
        let left : o.plus next (o.minus odd) ≡ o.plus (o.times s T) t =
        cc (L.plus_comm even t, L.plus_assoc t even (o.minus odd), L.plus_comm even (o.minus odd), L.plus_comm t (o.times s T)) in
        left ∙ sym (cc (
          sign-suc o L i,
          minus-times o L s (o.plus T (o.times s t)),
          minus_minus o L (o.times s (o.plus T (o.times s t))),
          L.times-plus s T (o.times s t),
          L.times_assoc s s t,
          sign_square i,
          unit-times o L t,
        ))

    -- where the partners of all places before i are past the end, nothing is summed yet
    pub middle_start : (n i : ℕ) → ((j : ℕ) → j < i → length f ≤ n - j)
        → o.plus o.nought (o.minus o.nought) ≡ o.minus (o.times (sign o i) (total o (signed o f n) i))
    middle_start n i past =
        let none : total o (signed o f n) i ≡ o.nought = total-nought o L (signed o f n) i (λ j h.
        ap (λ t. o.times (sign o j) (o.times (coefficient o f j) t)) (get_or_past f (n - j) o.nought (past j h))
        ∙ ap (o.times (sign o j)) (times-nought o L (coefficient o f j)) ∙ times-nought o L (sign o j)) in
        L.plus-minus o.nought ∙ sym (ap (λ t. o.minus (o.times (sign o i) t)) none ∙ ap o.minus (times-nought o L (sign o i)) ∙ minus-nought o L)

    pub middle_end : (k : ℕ) (half r : o.V)
        → half ≡ o.minus (o.times (sign o k) (total o (signed o f (k + k)) k))
        → r ≡ o.plus (o.times (coefficient o f k) (coefficient o f k)) (o.minus (o.plus half half))
        → r ≡ o.times (sign o k) (coefficient o (product o f (alternate o f)) (k + k))
    middle_end k half r eh er =
        let x = coefficient o f k in
        let s = sign o k in
        let S = total o (signed o f (k + k)) k in
        let t = pair o f (k + k) k in
        let T = o.times s S in
        let here : k + k - k ≡ k = omega arith in
        let mid : o.times x x ≡ t = cc (ap (coefficient o f) here) in
        let twice : o.minus (o.plus half half) ≡ o.plus T T = cc (minus_plus o L half half, ap o.minus eh, minus_minus o L T) in
        let left : r ≡ o.plus T (o.plus t T) = cc (L.plus_comm t (o.plus T T), L.plus_assoc T T t, L.plus_comm T t) in
        left ∙ sym (ap (o.times s) (even_place k)
        ∙ cc (L.times-plus s S (o.plus (o.times s t) S), L.times-plus s (o.times s t) S, L.times_assoc s s t, sign_square k, unit-times o L t))

  coefficient-evens : (f : List o.V) (k : ℕ) → coefficient o (evens f) k ≡ coefficient o f (k + k)
  coefficient-evens [] k = refl
  coefficient-evens (a ∷ []) zero = refl
  coefficient-evens (a ∷ []) (suc k) = rw add-suc refl
  coefficient-evens (a ∷ (b ∷ f)) zero = refl
  coefficient-evens (a ∷ (b ∷ f)) (suc k) = simp (suc-add, add-suc) (coefficient-evens f k)

  pub coefficient-transform : (f : List o.V) (k : ℕ)
      → coefficient o (transform o f) k ≡ o.times (sign o (length f - 1)) (coefficient o (product o f (alternate o f)) (k + k))
  coefficient-transform f k =
      coefficient-evens (scale o (sign o (length f - 1)) (product o f (alternate o f))) k
      ∙ coefficient-scale o L (sign o (length f - 1)) (product o f (alternate o f)) (k + k)

  -- the coefficient of the transform, from that of the product by the sign of k, as d - k is even or odd
  pub transform_even : (f : List o.V) (k : ℕ) (r : o.V) → k < length f → (length f - 1 - k) % 2 ≡ 0
      → r ≡ o.times (sign o k) (coefficient o (product o f (alternate o f)) (k + k)) → r ≡ coefficient o (transform o f) k
  transform_even f k r h e er =
      let d = length f - 1 in
      let twice : d + k ≡ (k + (d - k) / 2) + (k + (d - k) / 2) = omega arith in
      er ∙ ap (λ t. o.times t (coefficient o (product o f (alternate o f)) (k + k))) (sym (sign_even d k (k + (d - k) / 2) twice)) ∙ sym (coefficient-transform f k)

  pub transform_odd : (f : List o.V) (k : ℕ) (r s : o.V) → k < length f → 0 < (length f - 1 - k) % 2
      → r ≡ o.times (sign o k) (coefficient o (product o f (alternate o f)) (k + k)) → s ≡ o.minus r → s ≡ coefficient o (transform o f) k
  transform_odd f k r s h e er es =
      let d = length f - 1 in
      let C = coefficient o (product o f (alternate o f)) (k + k) in
      let twice : d + k ≡ suc ((k + (d - k) / 2) + (k + (d - k) / 2)) = omega arith in
      cc (sign_odd d k (k + (d - k) / 2) twice, minus-times o L (sign o k) C, coefficient-transform f k)

  long_product : (a : o.V) (f : List o.V) → length (product o (a ∷ f) (alternate o (a ∷ f))) ≡ suc (length f + length f)
  long_product a f =
      length-product o L a a f (map o.minus (alternate o f)) ∙ ap (λ n. suc (length f + n)) (length-map (alternate o f) o.minus ∙ length-alternate o L f)

  pub length-transform : (f : List o.V) → length (transform o f) ≡ length f
  length-transform [] = refl
  length-transform (a ∷ f) =
      let P = product o (a ∷ f) (alternate o (a ∷ f)) in
      length-evens (scale o (sign o (length (a ∷ f) - 1)) P) (length f) (length-map P (o.times (sign o (length (a ∷ f) - 1))) ∙ long_product a f)

  -- coefficients that are those of (-1)^d f(x) f(-x) at the even places make the transform
  graeffe_from : (f g : List o.V) → 0 < length f → length g ≡ length f
      → ((k : ℕ) → k < length f → coefficient o g k ≡ o.times (sign o (length f - 1)) (coefficient o (product o f (alternate o f)) (k + k)))
      → Graeffe o f g
  graeffe_from [] g pos e h = absurd (none pos)
    where
      none : 0 < 0 → ⊥
      none p = omega arith
  graeffe_from (a ∷ f) [] pos e h = absurd (none e)
    where
      none : 0 ≡ suc (length f) → ⊥
      none p = omega arith
  graeffe_from (a ∷ f) (b ∷ g) pos e h = record { long = e; squares = same_polynomial o L (spread o (b ∷ g)) (scale o s P) long places }
    where
      s : o.V
      s = sign o (length (a ∷ f) - 1)

      P : List o.V
      P = product o (a ∷ f) (alternate o (a ∷ f))

      long_P : length P ≡ suc (length f + length f)
      long_P = long_product a f

      long : length (spread o (b ∷ g)) ≡ length (scale o s P)
      long = length-spread o L b g ∙ omega (arith, length-map P (o.times s), long_P, e)

      even : (k : ℕ) → coefficient o (spread o (b ∷ g)) (k + k) ≡ coefficient o (scale o s P) (k + k)
      even k =
          coefficient-spread_even o L (b ∷ g) k
          ∙ ⊎_elim (λ l. h k l)
          (λ l. get_or_past (b ∷ g) k o.nought (omega (arith, e))
          ∙ sym (ap (o.times s) (get_or_past P (k + k) o.nought (omega (arith, long_P))) ∙ times-nought o L s))
          (cases_lt k (length (a ∷ f)))
          ∙ sym (coefficient-scale o L s P (k + k))

      odd : (k : ℕ) → coefficient o (spread o (b ∷ g)) (suc (k + k)) ≡ coefficient o (scale o s P) (suc (k + k))
      odd k = coefficient-spread_odd o L (b ∷ g) k
          ∙ sym (coefficient-scale o L s P (suc (k + k)) ∙ ap (o.times s) (odd_place (a ∷ f) k) ∙ times-nought o L s)

      places : (n : ℕ) → coefficient o (spread o (b ∷ g)) n ≡ coefficient o (scale o s P) n
      places n = ⊎_elim (λ p. rw p.1 (even p.0)) (λ p. rw p.1 (odd p.0)) (halves n)

  pub transform_law : (f : List o.V) → Graeffe o f (transform o f)
  transform_law [] = record { long = refl; squares = refl }
  transform_law (a ∷ f) = graeffe_from (a ∷ f) (transform o (a ∷ f)) (omega arith) (length-transform (a ∷ f)) (λ k _. coefficient-transform (a ∷ f) k)

  evens-spread : (g : List o.V) → evens (spread o g) ≡ g
  evens-spread [] = refl
  evens-spread (a ∷ []) = refl
  evens-spread (a ∷ (b ∷ g)) = ap (λ t. a ∷ t) (evens-spread (b ∷ g))

  -- there is no other transform
  pub transform_only : (f g : List o.V) → Graeffe o f g → g ≡ transform o f
  transform_only f g h = sym (evens-spread g) ∙ ap evens h.squares
