use Rattle.std.proofs.Common.{◌≡◌, ap, ◌∙◌, arith}
use Rattle.sheet.specs.Faults.{item_answer}
use Rattle.sheet.specs.Sheets.{frame_items}
use Rattle.sheet.proofs.Items.{stops, refused, exactly}
use Rattle.sheet.proofs.Exits.{exits, after_good}
use Rattle.sheet.proofs.reader.Reader.frame.Goals as goal

pub returns-in_err-_four-clause-answers : goal.returns-in_err-_four-clause-answers
unfolding frame_items
returns-in_err-_four-clause-answers c =
    let here = refused 1 4 13 _ _ _ _ _ (λ t. ap (item_answer 1) t) (rw (c.requires.start, c.new.ensures.start, c.new.ensures.end) at c.in_err-_four.ensures.refused) in
    exits (λ e. e.0) _ 1 _ _ c.from_residual.result c.from_residual.ensures.1 (stops 1 _ _ _ here)

pub returns-in_err-_order-clause-answers : goal.returns-in_err-_order-clause-answers
unfolding frame_items
returns-in_err-_order-clause-answers c =
    let g0 = rw (c.requires.start, c.new.ensures.start, c.new.ensures.end) at c.in_ok-_four.ensures.good in
    let p4 : c.number.new.self.place ≡ 4 = omega (arith, c.in_ok-_four.ensures.steps) in
    let s4 = c.number.ensures.same in
    let here = refused 1 4 14 _ _ _ _ _ (λ t. ap (item_answer 1) t) (rw (s4, p4, c.new-2.ensures.start, c.new-2.ensures.end) at c.in_err-_order.ensures.refused) in
    exits (λ e. e.0) _ 1 _ _ c.from_residual-in_err-_order.result c.from_residual-in_err-_order.ensures.1 (after_good 1 13 _ _ g0 (stops 1 _ _ _ here))

pub returns-in_err-width-clause-answers : goal.returns-in_err-width-clause-answers
unfolding frame_items
returns-in_err-width-clause-answers c =
    let g0 = rw (c.requires.start, c.new.ensures.start, c.new.ensures.end) at c.in_ok-_four.ensures.good in
    let p4 : c.number.new.self.place ≡ 4 = omega (arith, c.in_ok-_four.ensures.steps) in
    let s4 = c.number.ensures.same in
    let g4 = rw (s4, p4, c.new-2.ensures.start, c.new-2.ensures.end) at c.in_ok-_order.ensures.good in
    let p8 : c.number-2.new.self.place ≡ 8 = omega (arith, c.in_ok-_order.ensures.steps) in
    let s8 = c.number-2.ensures.same ∙ s4 in
    let here = refused 1 4 14 _ _ _ _ _ (λ t. ap (item_answer 1) t) (rw (s8, p8, c.new-3.ensures.start, c.new-3.ensures.end) at c.in_err-width.ensures.refused) in
    exits (λ e. e.0) _ 1 _ _ c.from_residual-in_err-width.result c.from_residual-in_err-width.ensures.1 (after_good 1 13 _ _ g0 (after_good 1 14 _ _ g4 (stops 1 _ _ _ here)))

pub returns-in_err-spare-clause-answers : goal.returns-in_err-spare-clause-answers
unfolding frame_items
returns-in_err-spare-clause-answers c =
    let g0 = rw (c.requires.start, c.new.ensures.start, c.new.ensures.end) at c.in_ok-_four.ensures.good in
    let p4 : c.number.new.self.place ≡ 4 = omega (arith, c.in_ok-_four.ensures.steps) in
    let s4 = c.number.ensures.same in
    let g4 = rw (s4, p4, c.new-2.ensures.start, c.new-2.ensures.end) at c.in_ok-_order.ensures.good in
    let p8 : c.number-2.new.self.place ≡ 8 = omega (arith, c.in_ok-_order.ensures.steps) in
    let s8 = c.number-2.ensures.same ∙ s4 in
    let g8 = rw (s8, p8, c.new-3.ensures.start, c.new-3.ensures.end) at c.in_ok-width.ensures.good in
    let p12 : c.number-3.new.self.place ≡ 12 = omega (arith, c.in_ok-width.ensures.steps) in
    let s12 = c.number-3.ensures.same ∙ s8 in
    let here = refused 1 4 14 _ _ _ _ _ (λ t. ap (item_answer 1) t) (rw (s12, p12, c.new-4.ensures.start, c.new-4.ensures.end) at c.in_err-spare.ensures.refused) in
    exits (λ e. e.0) _ 1 _ _ c.from_residual-in_err-spare.result c.from_residual-in_err-spare.ensures.1 (after_good 1 13 _ _ g0 (after_good 1 14 _ _ g4 (after_good 1 14 _ _ g8 (stops 1 _ _ _ here))))

pub returns-in_err-turnover-clause-answers : goal.returns-in_err-turnover-clause-answers
unfolding frame_items
returns-in_err-turnover-clause-answers c =
    let g0 = rw (c.requires.start, c.new.ensures.start, c.new.ensures.end) at c.in_ok-_four.ensures.good in
    let p4 : c.number.new.self.place ≡ 4 = omega (arith, c.in_ok-_four.ensures.steps) in
    let s4 = c.number.ensures.same in
    let g4 = rw (s4, p4, c.new-2.ensures.start, c.new-2.ensures.end) at c.in_ok-_order.ensures.good in
    let p8 : c.number-2.new.self.place ≡ 8 = omega (arith, c.in_ok-_order.ensures.steps) in
    let s8 = c.number-2.ensures.same ∙ s4 in
    let g8 = rw (s8, p8, c.new-3.ensures.start, c.new-3.ensures.end) at c.in_ok-width.ensures.good in
    let p12 : c.number-3.new.self.place ≡ 12 = omega (arith, c.in_ok-width.ensures.steps) in
    let s12 = c.number-3.ensures.same ∙ s8 in
    let g12 = rw (s12, p12, c.new-4.ensures.start, c.new-4.ensures.end) at c.in_ok-spare.ensures.good in
    let p16 : c.number-4.new.self.place ≡ 16 = omega (arith, c.in_ok-spare.ensures.steps) in
    let s16 = c.number-4.ensures.same ∙ s12 in
    let here = refused 1 4 14 _ _ _ _ _ (λ t. ap (item_answer 1) t) (rw (s16, p16, c.new-5.ensures.start, c.new-5.ensures.end) at c.in_err-turnover.ensures.refused) in
    exits (λ e. e.0) _ 1 _ _ c.from_residual-in_err-turnover.result c.from_residual-in_err-turnover.ensures.1 (after_good 1 13 _ _ g0 (after_good 1 14 _ _ g4 (after_good 1 14 _ _ g8 (after_good 1 14 _ _ g12 here))))

pub returns-clause-answers : goal.returns-clause-answers
returns-clause-answers c =
    let g0 = rw (c.requires.start, c.new.ensures.start, c.new.ensures.end) at c.in_ok-_four.ensures.good in
    let p4 : c.number.new.self.place ≡ 4 = omega (arith, c.in_ok-_four.ensures.steps) in
    let s4 = c.number.ensures.same in
    let g4 = rw (s4, p4, c.new-2.ensures.start, c.new-2.ensures.end) at c.in_ok-_order.ensures.good in
    let p8 : c.number-2.new.self.place ≡ 8 = omega (arith, c.in_ok-_order.ensures.steps) in
    let s8 = c.number-2.ensures.same ∙ s4 in
    let g8 = rw (s8, p8, c.new-3.ensures.start, c.new-3.ensures.end) at c.in_ok-width.ensures.good in
    let p12 : c.number-3.new.self.place ≡ 12 = omega (arith, c.in_ok-width.ensures.steps) in
    let s12 = c.number-3.ensures.same ∙ s8 in
    let g12 = rw (s12, p12, c.new-4.ensures.start, c.new-4.ensures.end) at c.in_ok-spare.ensures.good in
    let p16 : c.number-4.new.self.place ≡ 16 = omega (arith, c.in_ok-spare.ensures.steps) in
    let s16 = c.number-4.ensures.same ∙ s12 in
    let g16 = rw (s16, p16, c.new-5.ensures.start, c.new-5.ensures.end) at c.in_ok-turnover.ensures.good in
    let p20 : c.number-5.new.self.place ≡ 20 = omega (arith, c.in_ok-turnover.ensures.steps) in (
      p20,
      record {
        count = exactly _ 0 4 _ g0;
        order = exactly _ 4 _ _ g4;
        width = g8;
        spare = g12;
        turnover = g16;
      },
    )
