use Rattle.std.proofs.Common.{vec_items, refl}
use Rattle.text.proofs.Rows.{zip_more}
use Rattle.text.proofs.read.each.Goals as goal

pub loop-word-preserved : goal.loop-word-preserved
loop-word-preserved g c =
    rw c.in_ok-push.ensures.items
    (zip_more _ c.args.words.now c.loop-word.word-index (vec_items c.loop-word.all) _ c.in-Some.x c.loop-word-test.true (record { shown = _; shows = refl; says = record { met = c.in-Some.ensures } }) c.loop-word.invariant)
