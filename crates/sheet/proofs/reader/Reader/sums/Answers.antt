use Rattle.std.proofs.Common.{◌+◌, ◌-◌, ◌*◌, length, ap, arith}
use Rattle.sheet.specs.Faults.{item_answer}
use Rattle.sheet.specs.Sheets.{sums_items}
use Rattle.sheet.proofs.Items.{stops, first_stops, first-all, refused}
use Rattle.sheet.proofs.Exits.{exits, good_item, after_good}
use Rattle.sheet.proofs.Sections.{sum_item}
use Rattle.sheet.proofs.reader.Reader.sums.Goals as goal

pub returns-in_err-_count-clause-answers : goal.returns-in_err-_count-clause-answers
unfolding sums_items
returns-in_err-_count-clause-answers c =
    let here = refused 2 4 13 _ _ _ _ _ (λ t. ap (item_answer 2) t) (rw (c.requires.start, c.new.ensures.start, c.new.ensures.end) at c.in_err-_count.ensures.refused) in
    exits (λ e. e.0) _ 2 _ _ c.from_residual.result c.from_residual.ensures.1 (stops 2 _ _ _ here)

pub returns-in_err-number-clause-answers : goal.returns-in_err-number-clause-answers
unfolding sums_items
returns-in_err-number-clause-answers c =
    let bs = c.args.self.now.bytes.now in
    let q = c.args.order in
    let n = length c.args.codes.now in
    let k = c.loop-code.code-index in
    let count = rw (c.requires.start, c.new.ensures.start, c.new.ensures.end) at c.in_ok-_count.ensures.good in
    let so_far = first-all (sum_item q bs) k (λ j l. good_item bs (24 + 4 * j) 0 (q - 1) _ 2 14 (c.loop-code.invariant.codes j l)) in
    let here = refused 2 4 14 _ _ _ _ _ (λ t. ap (item_answer 2) t)
    (rw (c.loop-code.invariant.same, c.loop-code.invariant.place, c.new-in-loop-code.ensures.start, c.new-in-loop-code.ensures.end) at c.in_err-number.ensures.refused) in
    exits (λ e. e.0) _ 2 _ _ c.from_residual-in_err-number.result c.from_residual-in_err-number.ensures.1
    (after_good 2 13 _ _ count (first_stops 2 _ (sum_item q bs) k n so_far here (omega arith)))
