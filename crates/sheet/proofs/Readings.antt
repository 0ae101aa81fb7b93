-- What reading answers, from what its sections told.
use Rattle.std.proofs.Common.{◌≡◌, ℕ, ◌+◌, ◌-◌, ◌*◌, ◌/◌, ◌<◌, ◌≤◌, List, ◌++◌, get_or, drop, IsErrAnd, Result, sym, ap, ◌∙◌, subst, arith}
use Rattle.std.proofs.lemmas.Result.{err_from_is_err_and}
use Rattle.std.proofs.lemmas.List.{append_assoc}
use Rattle.algebra.specs.Refusals.{accepted}
use Rattle.tally.specs.Contents.{Contents, count}
use Rattle.sheet.specs.declared.fault.NumberFault.{NumberFault}
use Rattle.sheet.specs.declared.fault.SheetFault.{SheetFault}
use Rattle.sheet.specs.Faults.{item_answer, fault_answer, sheet_reply}
use Rattle.sheet.specs.Sheets.{told_codes, told_count, frame_bytes, sums_bytes, sheet_bytes, frame_items, sums_items, name_items, reading}
use Rattle.sheet.specs.Sections.{FrameTold, SumsTold, NameTold}
use Rattle.sheet.specs.Reads.{Taken}
use Rattle.sheet.proofs.Items.{stops}
use Rattle.sheet.proofs.Exits.{after}
use Rattle.sheet.proofs.Sections.{told_long, frame_accepted, frame_cut, sums_accepted, sums_cut, name_accepted, name_cut}
use Rattle.sheet.proofs.Back.{told_at}

pub sheet_exits : {P : Type 0} (e : SheetFault) (x : ℕ × List ℕ) (r : Result P SheetFault) → IsErrAnd r (λ y. y ≡ e) → fault_answer e ≡ x → sheet_reply r ≡ x
sheet_exits e x r h is = let p = err_from_is_err_and r h in rw p.1 (ap fault_answer p.2 ∙ is)

module _ (q : ℕ) (bs : List ℕ) where
  pub reading_frame : (e : NumberFault) → item_answer 1 e ≡ frame_items q bs → item_answer 1 e ≡ reading q bs
  unfolding reading
  reading_frame e h = stops 1 e _ _ h

  module _ (w s t n : ℕ) (head : FrameTold q bs w s t) (total : n ≡ 2 * w + s) where
    told_n : n ≡ told_count bs
    told_n = omega (arith, head.width.is, head.spare.is)

    pub reading_sums : (e : NumberFault) → item_answer 2 e ≡ sums_items q n bs → item_answer 2 e ≡ reading q bs
    unfolding reading
    reading_sums e h = after _ _ (frame_accepted q w s t bs head) (stops 2 e _ _ (subst (λ m. item_answer 2 e ≡ sums_items q m bs) told_n h))

    module _ (code : ℕ → ℕ) (sums : SumsTold q n bs code) where
      -- what the name is answered, the sheet is answered
      reading_rest : (x : ℕ × List ℕ) → x ≡ name_items (24 + 4 * n) bs → x ≡ reading q bs
      unfolding reading
      reading_rest x h =
          after _ _ (frame_accepted q w s t bs head) (after _ _ (subst (λ m. sums_items q m bs ≡ accepted) told_n (sums_accepted q n bs code sums))
          (subst (λ m. x ≡ name_items (24 + 4 * m) bs) told_n h))

      pub reading_name : (e : NumberFault) → item_answer 3 e ≡ name_items (24 + 4 * n) bs → item_answer 3 e ≡ reading q bs
      reading_name e h = reading_rest (item_answer 3 e) h

      module _ (name : List ℕ) (r : ℕ) (names : NameTold (24 + 4 * n) bs name r) where
        pub reading-all : accepted ≡ reading q bs
        reading-all = reading_rest accepted (sym (name_accepted (24 + 4 * n) r bs name names))

        pub whole : bs ≡ sheet_bytes q w s t (told_codes bs n) name ++ drop r bs
        unfolding sheet_bytes
        whole =
            let e = frame_cut q w s t bs head ∙ ap (λ y. frame_bytes q w s t ++ y) (sums_cut q n bs code sums ∙ ap (λ y. sums_bytes (told_codes bs n) ++ y) (name_cut (24 + 4 * n) r bs name names)) in
            simp append_assoc e

        pub taken_all : {V : Type 0} (at : ℕ → V) (c : Contents V) → 1 ≤ q → c.width ≡ w → c.spare ≡ s → c.turnover ≡ t → ((k : ℕ) → k < 96 → c.sum k ≡ at (code k))
            → Taken q at bs name (drop r bs) c
        taken_all at c some ew es et sum =
            let all = whole in
            let count-is : 2 * c.width + c.spare ≡ n = omega (arith, total) in
            let same = ap (told_codes bs) count-is in
            let small : (k : ℕ) → k < count c → get_or (told_codes bs (count c)) k 0 < q = λ k h.
            let g = sums.codes k (omega arith) in
            let below : code k < q = omega (arith, g.high) in
            subst (λ v. v < q) (g.is ∙ sym (told_at bs (count c) k h)) below in
            record {
              whole = cc;
              sound = record {
                framed = record { some = omega (arith, head.width.low); width = omega (arith, head.width.high); spare = omega (arith, head.spare.high) };
                turnover = subst (λ v. v ≤ (q - 1) / 4) (sym et) head.turnover.high;
                coded = record { long = told_long bs (count c); small = small };
                named = names.named;
              };
              coded = record {
                coded = record { long = told_long bs (count c); small = small };
                means = λ k h.
                    let l : k < n = omega arith in
                    ap at (told_at bs (count c) k h ∙ sym (sums.codes k l).is) ∙ sym (sum k (omega (arith, head.width.high, head.spare.high)));
              };
            }
