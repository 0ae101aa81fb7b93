-- A loop that adds to each sum.
use Rattle.std.proofs.Common.{◌≡◌, ℕ, ◌+◌, ◌<◌, ◌≤◌, ◌≢◌, List, map, length, get_or, set, sym, ap, ◌∙◌, add-one, arith, get_or-set_other, get_or-set_same, below_more}
use lib.ListN.{length-map}
use Rattle.std.proofs.lemmas.List.{map-set}
use Rattle.algebra.specs.Rings.{Ops, Lawful, power}

pub power_step : (o : Ops) (L : Lawful o) (n a : o.V) (k : ℕ) → o.times (o.times n (power o a k)) a ≡ o.times n (power o a (k + 1))
power_step o L n a k =
    L.times_assoc n (power o a k) a ∙ ap (o.times n) (L.times_comm (power o a k) a) ∙ ap (λ i. o.times n (power o a i)) (sym (add-one k))

module _ {S V : Type 0} (value : S → V) (z : V) (f : ℕ → V → V) (xs ys : List S) (i : ℕ) (new : S) (inside : i < length ys)
    (before : (k : ℕ) → k < i → get_or (map value ys) k z ≡ f k (get_or (map value xs) k z))
    (after : (k : ℕ) → i ≤ k → get_or (map value ys) k z ≡ get_or (map value xs) k z)
    (here : value new ≡ f i (get_or (map value ys) i z)) where
  pub changed_more : (k : ℕ) → k < i + 1 → get_or (map value (set ys i new)) k z ≡ f k (get_or (map value xs) k z)
  changed_more k h =
      ap (λ l. get_or l k z) (map-set value ys i new)
      ∙ below_more (λ j. get_or (set (map value ys) i (value new)) j z ≡ f j (get_or (map value xs) j z)) i
      (λ j lt. let ne : j ≢ i = omega arith in get_or-set_other (map value ys) i j (value new) z ne ∙ before j lt)
      (get_or-set_same (map value ys) i (value new) z (omega (arith, length-map ys value)) ∙ here ∙ ap (f i) (after i (omega arith)))
      k h

  pub changed_after : (k : ℕ) → i + 1 ≤ k → get_or (map value (set ys i new)) k z ≡ get_or (map value xs) k z
  changed_after k h =
      let ne : k ≢ i = omega arith in
      ap (λ l. get_or l k z) (map-set value ys i new) ∙ get_or-set_other (map value ys) i k (value new) z ne ∙ after k (omega arith)
