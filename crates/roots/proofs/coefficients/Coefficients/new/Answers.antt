use Rattle.std.proofs.Common.{leb, [], ◌∷◌, sym, ap, ◌∙◌, rules, tests}
use Rattle.std.proofs.lemmas.Iterator.{YieldsList-from_slice}
use Rattle.std.proofs.lemmas.Iterator.Search.{position_from_yields_List}
use Rattle.roots.proofs.Checking.{past_found, past_none, top_is, coded-long, coded-place, coded-top, coded_good}
use Rattle.roots.proofs.coefficients.Coefficients.new.Goals as goal

pub returns-then-codes-gt-MOST-clause-answers : goal.returns-then-codes-gt-MOST-clause-answers
returns-then-codes-gt-MOST-clause-answers g c = coded-long g.F.Field.order c.args.codes.now c.if-codes-gt-MOST.true

pub returns-in-Some-position-clause-answers : goal.returns-in-Some-position-clause-answers
returns-in-Some-position-clause-answers g c =
    let q = g.F.Field.order in
    let cs = c.args.codes.now in
    let searched = position_from_yields_List (λ x. leb c.size-order.result x.0) _ _ c.position.result c.position.ensures.ran (YieldsList-from_slice cs cc) (λ x b k h. search (rules, tests)) in
    let found = past_found q c.size-order.result cs c.size-order.ensures.answer c.position.result searched c.in-Some-position.place c.in-Some-position.is in
    ap (λ i. (9, i ∷ [])) found.0 ∙ coded-place q cs c.in-Some.ensures.item.3.0 c.if-codes-gt-MOST.false found.1

pub returns-then-top-eq0-clause-answers : goal.returns-then-top-eq0-clause-answers
returns-then-top-eq0-clause-answers g c =
    let q = g.F.Field.order in
    let cs = c.args.codes.now in
    let searched = position_from_yields_List (λ x. leb c.size-order.result x.0) _ _ c.position.result c.position.ensures.ran (YieldsList-from_slice cs cc) (λ x b k h. search (rules, tests)) in
    let good = past_none q c.size-order.result cs c.size-order.ensures.answer c.position.result searched c.in_default-position.is in
    let item = c.in-Some.ensures.item in
    coded-top q cs item.3.0 c.if-codes-gt-MOST.false good (sym (top_is cs c.in-Some.top.now item.3.0 item.1) ∙ c.if-top-eq0.true)

pub invariant_of-result : goal.invariant_of-result
invariant_of-result g c =
    let q = g.F.Field.order in
    let cs = c.args.codes.now in
    let searched = position_from_yields_List (λ x. leb c.size-order.result x.0) _ _ c.position.result c.position.ensures.ran (YieldsList-from_slice cs cc) (λ x b k h. search (rules, tests)) in
    let good = past_none q c.size-order.result cs c.size-order.ensures.answer c.position.result searched c.in_default-position.is in
    let item = c.in-Some.ensures.item in
    record { good = coded_good q cs item.3.0 c.if-codes-gt-MOST.false good (λ e. c.if-top-eq0.false (top_is cs c.in-Some.top.now item.3.0 item.1 ∙ e)) }
