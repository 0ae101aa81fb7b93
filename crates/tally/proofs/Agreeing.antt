-- The fronts of two rows, compared pair by pair.
use Rattle.std.proofs.Common.{◌≡◌, ℕ, zero, suc, ◌<◌, ◌≤◌, Bool, true, ◌↔◌, List, [], ◌∷◌, map, length, get_or, take, refl, arith}
use Rattle.std.proofs.lemmas.Bool.{and_parts, and_from}
use Rattle.std.specs.List.{list_all, zip}

module _ {S V : Type 0} (value : S → V) (z : V) (alike : V → V → Bool) (same : (x y : V) → alike x y ≡ true → x ≡ y) (back : (x y : V) → x ≡ y → alike x y ≡ true) where
  abbrev pub all_alike : ℕ → List S → List S → Bool
  all_alike n xs ys = list_all (λ (p : S × S). alike (value p.0) (value p.1)) (zip (take n xs) (take n ys))

  agree : (n : ℕ) (xs ys : List S) → n ≤ length xs → n ≤ length ys → all_alike n xs ys ≡ true → (k : ℕ) → k < n → get_or (map value xs) k z ≡ get_or (map value ys) k z
  agree zero xs ys hx hy e k h = absurd (omega arith)
  agree (suc n) [] ys hx hy e k h = absurd (omega arith)
  agree (suc n) (x ∷ xs) [] hx hy e k h = absurd (omega arith)
  agree (suc n) (x ∷ xs) (y ∷ ys) hx hy e zero h = same (value x) (value y) (and_parts (alike (value x) (value y)) (all_alike n xs ys) e).0
  agree (suc n) (x ∷ xs) (y ∷ ys) hx hy e (suc k) h =
      agree n xs ys (omega arith) (omega arith) (and_parts (alike (value x) (value y)) (all_alike n xs ys) e).1 k (omega arith)

  alike_all : (n : ℕ) (xs ys : List S) → n ≤ length xs → n ≤ length ys → ((k : ℕ) → k < n → get_or (map value xs) k z ≡ get_or (map value ys) k z) → all_alike n xs ys ≡ true
  alike_all zero xs ys hx hy h = refl
  alike_all (suc n) [] ys hx hy h = absurd (omega arith)
  alike_all (suc n) (x ∷ xs) [] hx hy h = absurd (omega arith)
  alike_all (suc n) (x ∷ xs) (y ∷ ys) hx hy h = and_from (alike (value x) (value y)) (all_alike n xs ys)
      (back (value x) (value y) (h 0 (omega arith))) (alike_all n xs ys (omega arith) (omega arith) (λ k l. h (suc k) (omega arith)))

  -- where `alike` tells the same values, all pairs are alike just where all values agree
  pub agree_all : (n : ℕ) (xs ys : List S) → n ≤ length xs → n ≤ length ys → (all_alike n xs ys ≡ true) ↔ ((k : ℕ) → k < n → get_or (map value xs) k z ≡ get_or (map value ys) k z)
  agree_all n xs ys hx hy = (agree n xs ys hx hy, alike_all n xs ys hx hy)
