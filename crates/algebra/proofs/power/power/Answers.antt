use Rattle.std.proofs.Common.{sym, subst, arith}
use Rattle.algebra.proofs.Raised.{raised_end, raised_even, raised_odd}
use Rattle.algebra.proofs.power.power.Goals as goal
use Rattle.algebra.proofs.power.power.Goals.{then-left-eq1, else-left-eq1}

pub loop-left-preserved : goal.loop-left-preserved
loop-left-preserved g c =
    let R = g.R.Ring in
    let o = R.ring in
    let L = g.met.R.Ring.lawful in
    let a = R.value c.loop-left.answer in
    let s = R.value c.loop-left.square in
    let n = c.loop-left.left in
    elim c.if-left-eq1.branch [
      | then-left-eq1 w ↦ (
        cc (w.mul-answer.ensures.means, raised_odd o L a s n w.if-left-eq1.true),
        subst R.canonical (sym w.answer-is) w.mul-answer.ensures.held,
      )
      | else-left-eq1 w ↦ (cc (raised_even o L s n w.if-left-eq1.false), subst R.canonical (sym w.answer-is) c.loop-left.invariant.1)
    ]

pub returns-clause-means : goal.returns-clause-means
returns-clause-means g c =
    let R = g.R.Ring in
    cc (raised_end R.ring g.met.R.Ring.lawful (R.value c.loop-left.answer) (R.value c.loop-left.square) c.loop-left.left (omega arith))
