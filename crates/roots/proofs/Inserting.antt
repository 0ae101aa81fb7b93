-- A code put in its place among ascending ones.
use Rattle.std.proofs.Common.{◌≡◌, ℕ, zero, suc, ◌-◌, ◌<◌, ◌≤◌, ltb, List, [], ◌∷◌, ◌++◌, length, get_or, take, drop, refl, sym, ap, ◌∙◌, ap₂, inl, inr, arith, length-drop, length-append}
use Rattle.std.proofs.lemmas.List.{append-nil, take_at, take-append-le, drop_at, drop-append-le, drop_all, take_rest}
use Rattle.std.proofs.lemmas.Bool.{cond_both, ltb-true, ltb-false}
use borrow.Rule.Slice.PartMut.{put_mid}
use Rattle.roots.specs.Lists.{In, put}
use Rattle.roots.specs.Roots.{Ascending}

in_get : (xs : List ℕ) (i : ℕ) → i < length xs → In (get_or xs i 0) xs
in_get [] i h = absurd (omega arith)
in_get (x ∷ xs) zero h = inl refl
in_get (x ∷ xs) (suc i) h = inr (in_get xs i (omega arith))

pub ascending_get : (xs : List ℕ) → Ascending xs → (i j : ℕ) → i ≤ j → j < length xs → get_or xs i 0 ≤ get_or xs j 0
ascending_get [] A i j le h = absurd (omega arith)
ascending_get (x ∷ xs) A zero zero le h = omega arith
ascending_get (x ∷ xs) A zero (suc j) le h = let lt : x < get_or xs j 0 = A.0 (get_or xs j 0) (in_get xs j (omega arith)) in omega arith
ascending_get (x ∷ xs) A (suc i) zero le h = absurd (omega arith)
ascending_get (x ∷ xs) A (suc i) (suc j) le h = ascending_get xs A.1 i j (omega arith) (omega arith)

put_first : (c : ℕ) (xs : List ℕ) → (0 < length xs → c ≤ get_or xs 0 0) → Ascending xs → put c xs ≡ c ∷ xs
put_first c [] h A = refl
put_first c (x ∷ xs) h A =
    let le : c ≤ x = h (omega arith) in
    let next : 0 < length xs → x ≤ get_or xs 0 0 = λ pos. let lt : x < get_or xs 0 0 = A.0 (get_or xs 0 0) (in_get xs 0 pos) in omega arith in
    cond_both (ltb c x) (c ∷ put x xs) (x ∷ put c xs) (λ l. l ≡ c ∷ (x ∷ xs))
    (λ _. ap (λ l. c ∷ l) (put_first x xs next A.1))
    (λ e. (let low : x ≤ c = ltb-false c x e in let same : x ≡ c = omega arith in
    ap (λ l. x ∷ l) (put_first c xs (λ pos. (let lt : x ≤ get_or xs 0 0 = next pos in omega arith)) A.1) ∙ ap₂ (λ a b. a ∷ (b ∷ xs)) same (sym same)))

-- behind the lower ones
pub put_at : (c : ℕ) (xs : List ℕ) (i : ℕ) → i ≤ length xs → ((k : ℕ) → k < i → get_or xs k 0 < c) → ((k : ℕ) → i ≤ k → k < length xs → c ≤ get_or xs k 0)
    → Ascending xs → put c xs ≡ take i xs ++ (c ∷ drop i xs)
put_at c xs zero le low high A = put_first c xs (λ pos. high 0 (omega arith) pos) A
put_at c [] (suc i) le low high A = absurd (omega arith)
put_at c (x ∷ xs) (suc i) le low high A =
    cond_both (ltb c x) (c ∷ put x xs) (x ∷ put c xs) (λ l. l ≡ x ∷ (take i xs ++ (c ∷ drop i xs)))
    (λ e. (let lt : c < x = ltb-true c x e in let gt : x < c = low 0 (omega arith) in absurd (omega arith)))
    (λ _. ap (λ l. x ∷ l) (put_at c xs i (omega arith) (λ k h. low (suc k) (omega arith)) (λ k g h. high (suc k) (omega arith) (omega arith)) A.1))

-- the last of a list moved to the place i
module _ {X : Type 0} (l xs ys : List X) (x : X) (i : ℕ) (split : l ≡ xs ++ (x ∷ [])) (inside : i ≤ length xs) where
  part : List X
  part = take (length l - i) (drop i l)

  part-is : part ≡ drop i xs ++ (x ∷ [])
  unfolding part
  part-is = take_rest l i ∙ ap (drop i) split ∙ drop-append-le i xs (x ∷ []) inside

  pub last_moved : ys ≡ drop (length (take (length l - i) (drop i l)) - 1) (take (length l - i) (drop i l)) ++ take (length (take (length l - i) (drop i l)) - 1) (take (length l - i) (drop i l))
      → put_mid i (length l - i) l ys ≡ take i xs ++ (x ∷ drop i xs)
  unfolding part
  last_moved e =
      let q : List X = drop i xs ++ (x ∷ []) in
      let n : length (drop i xs) ≡ length q - 1 = omega (arith, length-append (drop i xs) (x ∷ [])) in
      let moved : ys ≡ x ∷ drop i xs =
      e ∙ ap (λ p. drop (length p - 1) p ++ take (length p - 1) p) part-is
      ∙ ap₂ (λ a b. a ++ b) (drop_at (drop i xs) (x ∷ []) (length q - 1) n) (take_at (drop i xs) (x ∷ []) (length q - 1) n) in
      ap₂ (λ a b. a ++ b) (ap (take i) split ∙ take-append-le i xs (x ∷ []) inside)
      (ap₂ (λ a b. a ++ b) moved (drop_all (length l - i) (drop i l) (omega (arith, length-drop i l))) ∙ append-nil (x ∷ drop i xs))
