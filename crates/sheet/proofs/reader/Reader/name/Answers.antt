use Rattle.std.proofs.Common.{◌≡◌, ℕ, ◌+◌, ◌-◌, ◌<◌, ◌≤◌, length, ap, arith}
use Rattle.algebra.specs.Refusals.{accepted}
use Rattle.sheet.specs.Faults.{item_answer}
use Rattle.sheet.specs.Sheets.{name_items, number_at}
use Rattle.sheet.proofs.Items.{stops, first_stops, first-all, item_good, refused}
use Rattle.sheet.proofs.Exits.{exits, after_good}
use Rattle.sheet.proofs.Sections.{letter_item, name_told}
use Rattle.sheet.proofs.reader.Reader.name.Goals as goal

pub returns-in_err-count-clause-answers : goal.returns-in_err-count-clause-answers
unfolding name_items
returns-in_err-count-clause-answers c =
    let here = refused 3 4 13 _ _ _ _ _ (λ t. ap (item_answer 3) t) (rw (c.new.ensures.start, c.new.ensures.end) at c.in_err-count.ensures.refused) in
    exits (λ e. e.0) _ 3 _ _ c.from_residual.result c.from_residual.ensures.1 (stops 3 _ _ _ here)

pub returns-in_err-letter-clause-answers : goal.returns-in_err-letter-clause-answers
unfolding name_items
returns-in_err-letter-clause-answers c =
    let bs = c.args.self.now.bytes.now in
    let p = c.args.self.now.place in
    let k = c.loop-k._k in
    let good = rw (c.new.ensures.start, c.new.ensures.end) at c.in_ok-count.ensures.good in
    let start : c.number.new.self.place ≡ p + 4 = omega (arith, c.in_ok-count.ensures.steps) in
    let place : c.loop-k.self.place ≡ p + 4 + k = omega arith in
    let inside : c.loop-k.self.place ≤ length bs = rw c.loop-k.invariant.same at c.loop-k.self.inside in
    let so_far : (j : ℕ) → j < k → letter_item p bs j ≡ accepted = λ j l.
    item_good (length bs) 3 (p + 4 + j) 1 14 _ (omega arith) (rw start at (c.loop-k.invariant.letters j l)) in
    let here = refused 3 1 14 _ _ _ _ _ (λ t. ap (item_answer 3) t) (rw (c.loop-k.invariant.same, place) at c.in_err-letter.ensures.refused) in
    exits (λ e. e.0) _ 3 _ _ c.from_residual-in_err-letter.result c.from_residual-in_err-letter.ensures.1
    (after_good 3 13 _ _ good (first_stops 3 _ (letter_item p bs) k (number_at bs p) (first-all (letter_item p bs) k so_far) here (omega (arith, c.in_ok-count.ensures.good.is))))

pub returns-clause-answers : goal.returns-clause-answers
returns-clause-answers c =
    let bs = c.args.self.now.bytes.now in
    let p = c.args.self.now.place in
    let n = c.in_ok-count.count in
    let good = rw (c.new.ensures.start, c.new.ensures.end) at c.in_ok-count.ensures.good in
    let start : c.number.new.self.place ≡ p + 4 = omega (arith, c.in_ok-count.ensures.steps) in
    let inside : c.loop-k.self.place ≤ length bs = rw c.loop-k.invariant.same at c.loop-k.self.inside in
    let long : c.loop-k.self.place - c.number.new.self.place ≡ n = omega arith in
    name_told p n _ bs _ good (omega arith) inside (rw (long, start, c.loop-k.invariant.same)) (λ k l. rw start at (c.loop-k.invariant.letters k (omega arith)))
