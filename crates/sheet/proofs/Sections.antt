-- What follows where each item of a section was good: its answer, and that the bytes are those of the section.
use Rattle.std.proofs.Common.{◌≡◌, ℕ, zero, suc, ◌+◌, ◌-◌, ◌*◌, ◌/◌, ◌<◌, ◌≤◌, List, [], ◌∷◌, ◌++◌, length, get_or, true, take, drop, sym, refl, ap, ◌∙◌, subst, add-one, arith}
use Rattle.std.specs.List.{flat_map}
use Rattle.std.proofs.lemmas.List.{append_assoc, flat_map_more, length-append, length-drop, length-take-le, drop-drop, take-append-drop, get_or-drop, get_or-take, get_or_append_left}
use Rattle.algebra.specs.Refusals.{accepted}
use Rattle.sheet.specs.Sheets.{item, first, within, number_at, told_codes, word, Good, frame_items, frame_bytes, sums_items, sums_bytes, name_items, name_bytes}
use Rattle.sheet.specs.Sections.{FrameTold, SumsTold, NameTold}
use Rattle.sheet.proofs.Items.{passed, item_good, within_true, within_low, within_high, first-all}
use Rattle.sheet.proofs.Exits.{good_item}

abbrev pub sum_item : (q : ℕ) → List ℕ → ℕ → ℕ × List ℕ
sum_item q bs k = item (length bs) 2 (24 + 4 * k) 4 14 (within 0 (q - 1) (number_at bs (24 + 4 * k)))

abbrev pub letter_item : (p : ℕ) → List ℕ → ℕ → ℕ × List ℕ
letter_item p bs k = item (length bs) 3 (p + 4 + k) 1 14 (within 32 126 (get_or bs (p + 4 + k) 0))

pub told_long : (bs : List ℕ) (n : ℕ) → length (told_codes bs n) ≡ n
unfolding told_codes
told_long bs zero = refl
told_long bs (suc n) = length-append (told_codes bs n) (number_at bs (24 + 4 * n) ∷ []) ∙ ap (λ m. m + 1) (told_long bs n) ∙ add-one n

module _ (q w s t : ℕ) (bs : List ℕ) (told : FrameTold q bs w s t) where
  pub frame_accepted : frame_items q bs ≡ accepted
  unfolding frame_items
  frame_accepted =
      passed _ _ (good_item bs 0 4 4 4 1 13 told.count) ∙ (passed _ _ (good_item bs 4 q q q 1 14 told.order)
      ∙ (passed _ _ (good_item bs 8 1 32 w 1 14 told.width) ∙ (passed _ _ (good_item bs 12 0 32 s 1 14 told.spare)
      ∙ good_item bs 16 0 ((q - 1) / 4) t 1 14 told.turnover)))

  pub frame_cut : bs ≡ frame_bytes q w s t ++ drop 20 bs
  unfolding frame_bytes
  frame_cut =
      let e : bs ≡ word 4 ++ (word q ++ (word w ++ (word s ++ (word t ++ drop 20 bs)))) =
      told.count.cut ∙ ap (λ x. word 4 ++ x) (told.order.cut ∙ ap (λ x. word q ++ x) (told.width.cut ∙ ap (λ x. word w ++ x) (told.spare.cut ∙ ap (λ x. word s ++ x) told.turnover.cut))) in
      simp append_assoc e

module _ (q n : ℕ) (bs : List ℕ) (code : ℕ → ℕ) (told : SumsTold q n bs code) where
  pub sums_accepted : sums_items q n bs ≡ accepted
  unfolding sums_items
  sums_accepted =
      passed _ _ (good_item bs 20 n n n 2 13 told.count) ∙ first-all (sum_item q bs) n (λ k l. good_item bs (24 + 4 * k) 0 (q - 1) (code k) 2 14 (told.codes k l))

  codes_cut : (k : ℕ) → k ≤ n → drop 24 bs ≡ flat_map word (told_codes bs k) ++ drop (24 + 4 * k) bs
  unfolding told_codes
  codes_cut zero h = refl
  codes_cut (suc k) h =
      let xs = told_codes bs k in
      let x = number_at bs (24 + 4 * k) in
      let g = told.codes k (omega arith) in
      let far : 24 + 4 * k + 4 ≡ 24 + 4 * suc k = omega arith in
      codes_cut k (omega arith) ∙ ap (λ l. flat_map word xs ++ l) (g.cut ∙ ap (λ m. word m ++ drop (24 + 4 * k + 4) bs) g.is ∙ ap (λ m. word x ++ drop m bs) far)
      ∙ sym (append_assoc (flat_map word xs) (word x) (drop (24 + 4 * suc k) bs)) ∙ ap (λ l. l ++ drop (24 + 4 * suc k) bs) (flat_map_more word [] xs x)

  pub sums_cut : drop 20 bs ≡ sums_bytes (told_codes bs n) ++ drop (24 + 4 * n) bs
  unfolding sums_bytes
  sums_cut =
      told.count.cut ∙ ap (λ k. word k ++ drop 24 bs) (sym (told_long bs n)) ∙ ap (λ l. word (length (told_codes bs n)) ++ l) (codes_cut n (omega arith))
      ∙ sym (append_assoc (word (length (told_codes bs n))) (flat_map word (told_codes bs n)) (drop (24 + 4 * n) bs))

module _ (p r : ℕ) (bs name : List ℕ) (told : NameTold p bs name r) where
  letter_accepted : (k : ℕ) → k < length name → letter_item p bs k ≡ accepted
  letter_accepted k l =
      let here : get_or name k 0 ≡ get_or bs (p + 4 + k) 0 = sym (sym (get_or-drop (p + 4) bs k 0) ∙ ap (λ x. get_or x k 0) told.cut ∙ get_or_append_left name (drop r bs) 0 k l) in
      let good = told.named.letters k l in
      let whole : p + 4 + k + 1 ≤ length bs = omega (arith, length-drop (p + 4) bs, ap length told.cut, length-append name (drop r bs), told.count.whole) in
      item_good (length bs) 3 (p + 4 + k) 1 14 _ whole (within_true 32 126 _ (subst (λ x. 32 ≤ x) here good.0) (subst (λ x. x ≤ 126) here good.1))

  pub name_accepted : name_items p bs ≡ accepted
  unfolding name_items
  name_accepted =
      passed _ _ (good_item bs p 0 40 (length name) 3 13 told.count)
      ∙ subst (λ m. first (letter_item p bs) m ≡ accepted) told.count.is (first-all (letter_item p bs) (length name) letter_accepted)

  pub name_cut : drop p bs ≡ name_bytes name ++ drop r bs
  unfolding name_bytes
  name_cut = told.count.cut ∙ ap (λ x. word (length name) ++ x) told.cut ∙ sym (append_assoc (word (length name)) name (drop r bs))

-- a name of good letters after a good count
pub name_told : (p n r : ℕ) (bs name : List ℕ) → Good bs p 0 40 n → r ≡ p + 4 + n → r ≤ length bs → name ≡ take n (drop (p + 4) bs)
    → ((k : ℕ) → k < n → within 32 126 (get_or bs (p + 4 + k) 0) ≡ true) → NameTold p bs name r
name_told p n r bs name count next whole is letters =
    let long : length name ≡ n = ap length is ∙ length-take-le n (drop (p + 4) bs) (omega (arith, length-drop (p + 4) bs)) in
    let at : (k : ℕ) → k < n → get_or bs (p + 4 + k) 0 ≡ get_or name k 0 = λ k l.
    sym (get_or-drop (p + 4) bs k 0) ∙ sym (get_or-take n (drop (p + 4) bs) k 0 l) ∙ ap (λ x. get_or x k 0) (sym is) in
    record {
      count = rw long count;
      named = record {
        most = omega (arith, count.high);
        letters = λ k h.
            let l : k < n = omega arith in
            let good = letters k l in
            let b = get_or bs (p + 4 + k) 0 in
            (subst (λ x. 32 ≤ x) (at k l) (within_low 32 126 b good), subst (λ x. x ≤ 126) (at k l) (within_high 32 126 b good));
      };
      cut = sym (ap (λ x. name ++ drop x bs) next ∙ ap (λ x. name ++ x) (sym (drop-drop n (p + 4) bs)) ∙ ap (λ x. x ++ drop n (drop (p + 4) bs)) is ∙ take-append-drop n (drop (p + 4) bs));
    }
