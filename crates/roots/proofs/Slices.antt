-- The values that a slice holds.
use Rattle.std.proofs.Common.{◌≡◌, ℕ, ◌<◌, List, [], ◌∷◌, map, length, get_or, sym, ◌∙◌, arith}
use lib.ListN.{length-map}
use Rattle.std.proofs.lemmas.List.{get_or-map, ext_get_or}

module _ {S V : Type 0} (value : S → V) where
  -- the value of an element
  pub value_at : (xs : List S) (k : ℕ) (v e : V) → k < length xs → ((d : S) → value (get_or xs k d) ≡ v) → get_or (map value xs) k e ≡ v
  value_at [] k v e h is = let none : ⊥ = omega arith in absurd none
  value_at (x ∷ xs) k v e h is = get_or-map value (x ∷ xs) k x e h ∙ is x

  -- the values are these, if each is
  pub values_are : (xs : List S) (vs : List V) (e : V) → length vs ≡ length xs → ((k : ℕ) (d : S) → k < length xs → value (get_or xs k d) ≡ get_or vs k e) → map value xs ≡ vs
  values_are xs vs e long is =
      ext_get_or e _ vs (length-map xs value ∙ sym long)
      (λ k h. value_at xs k (get_or vs k e) e (omega (arith, length-map xs value)) (λ d. is k d (omega (arith, length-map xs value))))
