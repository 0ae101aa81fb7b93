-- Division in place, from the top.
use Rattle.std.proofs.Common.{◌≡◌, ℕ, zero, suc, ◌+◌, ◌-◌, ◌<◌, ◌≤◌, ◌≢◌, List, [], ◌∷◌, length, get_or, take, drop, set, sym, refl, ap, ◌∙◌, ap₂, ⊎_elim, eq-or-lt_of_le, rules, arith, length-drop, get_or-set_other, get_or-set_same}
use lib.ListN.{length-map}
use Rattle.std.proofs.lemmas.List.{get_or-drop, get_or-map, get_or_past, places}
use borrow.Rule.Slice.PartMut.{put_mid}
use Rattle.algebra.specs.Rings.{Ops, Lawful}
use Rattle.algebra.specs.Polynomials.{eval, coefficient}
use Rattle.algebra.specs.declared.dual.Dual.{Dual}
use Rattle.algebra.specs.declared.ring.Ring.{Ghosts as RingOf}
use Rattle.roots.specs.Division.{quotient}
use Rattle.roots.specs.Slopes.{reals}
use Rattle.roots.specs.Codes.{duals}
use Rattle.roots.specs.Rows.{row, partial}
use Rattle.roots.proofs.Division.{quotient-value, quotient_next, length-quotient}
use Rattle.roots.proofs.Multiplicities.{divided}
use Rattle.roots.proofs.RootBounds.{constant_value, divided-length, divided-top}
use Rattle.roots.proofs.Slices.{values_are}

module _ (o : Ops) (L : Lawful o) where
  pub partial_next : (a : o.V) (f : List o.V) (j : ℕ) → partial o a f j ≡ o.plus (coefficient o f j) (o.times a (partial o a f (suc j)))
  partial_next a f zero = quotient-value o L a f
  partial_next a f (suc j) = quotient_next o L a f j

  -- behind the top
  pub partial-end : (a : o.V) (f : List o.V) → partial o a f (length f) ≡ o.nought
  partial-end a [] = refl
  partial-end a (c ∷ f) = get_or_past (quotient o a (c ∷ f)) (length f) o.nought (omega (arith, length-quotient o L a (c ∷ f)))

  -- a polynomial that every division leaves without remainder would be zero
  pub divided_stops : (a : o.V) (d : ℕ) (f : List o.V) → length f ≡ suc d → coefficient o f d ≢ o.nought
      → ((i : ℕ) → i < suc d → eval o (divided o a i f) a ≡ o.nought) → ⊥
  divided_stops a d f long top all =
      let le : d ≤ d = omega arith in
      let none : d - d ≡ 0 = omega arith in
      top (sym (divided-top o L a d d f le long) ∙ ap (coefficient o (divided o a d f)) none
      ∙ sym (constant_value o L (divided o a d f) a (divided-length o L a d d f le long ∙ ap suc none)) ∙ all d (omega arith))

module _ {S : Type 0} (R : RingOf S) (L : Lawful R.ring) where
  pub row-coefficient : (xs : List (Dual S)) (j : ℕ) (d : Dual S) → j < length xs → R.value (get_or xs j d).re ≡ coefficient R.ring (row R xs) j
  row-coefficient xs j d h = sym (get_or-map (λ x. R.value x.re) xs j d R.ring.nought h)

  -- a turn of the division: the place i is written, and those above it are done
  module _ (f : List R.ring.V) (a : R.ring.V) (xs : List (Dual S)) (i : ℕ) (x : Dual S) (inside : i < length xs)
      (low : (j : ℕ) (d : Dual S) → j < suc i → R.value (get_or xs j d).re ≡ coefficient R.ring f j)
      (high : (j : ℕ) (d : Dual S) → suc i ≤ j → j < length xs → R.value (get_or xs j d).re ≡ partial R.ring a f j)
      (here above : R.ring.V) (is : R.value x.re ≡ R.ring.plus here (R.ring.times a above))
      (e : Dual S) (is-here : here ≡ R.value (get_or xs i e).re) (is-above : above ≡ partial R.ring a f (suc i)) where
    pub divided_here : R.value x.re ≡ partial R.ring a f i
    divided_here = is ∙ ap₂ (λ s t. R.ring.plus s (R.ring.times a t)) (is-here ∙ low i e (omega arith)) is-above ∙ sym (partial_next R.ring L a f i)

    pub divided_low : (j : ℕ) (d : Dual S) → j < i → R.value (get_or (set xs i x) j d).re ≡ coefficient R.ring f j
    divided_low j d h =
        let ne : j ≢ i = omega arith in
        ap (λ z. R.value z.re) (get_or-set_other xs i j x d ne) ∙ low j d (omega arith)

    pub divided_high : (j : ℕ) (d : Dual S) → i ≤ j → j < length xs → R.value (get_or (set xs i x) j d).re ≡ partial R.ring a f j
    divided_high j d le h = ⊎_elim
        (λ (same : i ≡ j).
        ap (λ k. R.value (get_or (set xs i x) k d).re) (sym same)
        ∙ ap (λ z. R.value z.re) (get_or-set_same xs i x d inside) ∙ divided_here ∙ ap (partial R.ring a f) same)
        (λ more.
        let ne : j ≢ i = omega arith in
        ap (λ z. R.value z.re) (get_or-set_other xs i j x d ne) ∙ high j d (omega arith) h)
        (eq-or-lt_of_le le)

  -- what the division of a row leaves is its value, and then the quotient
  module _ (xs ys : List (Dual S)) (a : R.ring.V) (f : List R.ring.V) (row-is : row R xs ≡ f) (some : 0 < length ys) (same : length ys ≡ length xs)
      (is : (j : ℕ) (d : Dual S) → j < length ys → R.value (get_or ys j d).re ≡ partial R.ring a (row R xs) j) where
    pub row_remainder : (d : Dual S) → R.value (get_or ys 0 d).re ≡ eval R.ring f a
    row_remainder d = is 0 d some ∙ ap (λ p. eval R.ring p a) row-is

    pub row_quotient : row R (drop 1 ys) ≡ quotient R.ring a f
    row_quotient = values_are (λ x. R.value x.re) (drop 1 ys) (quotient R.ring a f) R.ring.nought
        (length-quotient R.ring L a f ∙ omega (arith, ap length row-is, length-map xs (λ x. R.value x.re), length-drop 1 ys))
        (λ k d h. let next : 1 + k ≡ suc k = omega arith in ap (λ z. R.value z.re) (get_or-drop 1 ys k d ∙ ap (λ j. get_or ys j d) next) ∙ is (suc k) d (omega (arith, length-drop 1 ys)) ∙ ap (λ p. partial R.ring a p (suc k)) row-is)

  -- the remainder, where the row is a part of a work space
  pub part_remainder : (xs ys : List (Dual S)) (i k : ℕ) (a : R.ring.V) (f : List R.ring.V) → row R (take k (drop i xs)) ≡ f → i < length xs → 0 < length ys → length ys ≡ length (take k (drop i xs))
      → ((j : ℕ) (d : Dual S) → j < length ys → R.value (get_or ys j d).re ≡ partial R.ring a (row R (take k (drop i xs))) j)
      → (d : Dual S) → R.value (get_or (put_mid i k xs ys) i d).re ≡ eval R.ring f a
  part_remainder xs ys i k a f e inside some same is d =
      let first : get_or (put_mid i k xs ys) i d ≡ get_or ys 0 d = search (rules, places) in
      ap (λ x. R.value x.re) first ∙ row_remainder (take k (drop i xs)) ys a f e some same is d

  -- the first parts of dual numbers
  pub row-reals : (xs : List (Dual S)) → row R xs ≡ reals (duals R xs)
  row-reals [] = refl
  row-reals (x ∷ xs) = ap (λ t. R.value x.re ∷ t) (row-reals xs)
