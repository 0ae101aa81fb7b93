-- The levels of the tower in one work space.
use Rattle.std.proofs.Common.{◌≡◌, ℕ, ◌+◌, ◌-◌, ◌*◌, ◌<◌, ◌≤◌, List, ◌++◌, length, take, drop, sym, ap, ◌∙◌, mul-le-mul_right, add-mul, one-mul, arith, length-append, length-take, length-drop}
use Rattle.std.proofs.lemmas.List.{append-nil, take-append-drop, drop_at, drop_all, drop-take, drop-drop, take_rest}
use Rattle.std.proofs.lemmas.Slice.{take-put_mid_below}
use borrow.Rule.Slice.PartMut.{put_mid, post_of}

-- the place behind a level
pub level_end : (j n : ℕ) → (j + 1) * n ≡ j * n + n
level_end j n = add-mul j 1 n ∙ ap (λ m. j * n + m) (one-mul n)

-- a lower level ends where a higher one begins, or before
pub level_room : (j k n : ℕ) → j < k → j * n + n ≤ k * n
level_room j k n h =
    let le : j + 1 ≤ k = omega arith in
    omega (arith, level_end j n, mul-le-mul_right n le)

-- the levels from the level k on are written
module _ {S : Type 0} (xs ys : List S) (k n : ℕ) (inside : k * n ≤ length xs) (same : length ys ≡ length (take (length xs - k * n) (drop (k * n) xs))) where
  abbrev pub written : List S
  written = put_mid (k * n) (length xs - k * n) xs ys

  upper : drop (k * n) written ≡ ys
  upper =
      let a : ℕ = k * n in
      drop_at (take a xs) (ys ++ post_of a (length xs - a) xs) a (omega (arith, length-take a xs))
      ∙ ap (λ l. ys ++ l) (drop_all (length xs - a) (drop a xs) (omega (arith, length-drop a xs))) ∙ append-nil ys

  pub level_below : (j : ℕ) → j < k → take n (drop (j * n) written) ≡ take n (drop (j * n) xs)
  level_below j h =
      sym (drop-take (j * n) n written) ∙ ap (drop (j * n)) (take-put_mid_below (k * n) (length xs - k * n) xs ys (j * n + n) (level_room j k n h) inside) ∙ drop-take (j * n) n xs

  pub level_same : take n ys ≡ take n (take (length xs - k * n) (drop (k * n) xs)) → take n (drop (k * n) written) ≡ take n (drop (k * n) xs)
  level_same e = ap (take n) upper ∙ e ∙ ap (take n) (take_rest xs (k * n))

  pub level_next : take n (drop ((k + 1) * n) written) ≡ take n (drop n ys)
  level_next = ap (λ i. take n (drop i written)) (level_end k n) ∙ ap (take n) (sym (drop-drop n (k * n) written)) ∙ ap (λ l. take n (drop n l)) upper

-- a work space whose first level is written is as long as before
pub length-started : {S : Type 0} (ys xs : List S) (n : ℕ) → length ys ≡ length (take n xs) → length (ys ++ drop n xs) ≡ length xs
length-started ys xs n e =
    length-append ys (drop n xs) ∙ ap (λ m. m + length (drop n xs)) e ∙ sym (length-append (take n xs) (drop n xs)) ∙ ap length (take-append-drop n xs)

-- each level up to the top ends within a work space that is long enough
pub level_fits : (j h n long : ℕ) → j ≤ h → (h + 1) * n ≤ long → j * n + n ≤ long
level_fits j h n long le room = let lt : j < h + 1 = omega arith in omega (arith, level_room j (h + 1) n lt)
