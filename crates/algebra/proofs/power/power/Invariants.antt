use Rattle.std.proofs.Common.{◌≡◌}
use Rattle.algebra.specs.Rings.{raised}
use Rattle.algebra.proofs.power.power.Given as goal

-- the answer times the square to what is left is the power
abbrev pub invariant-loop-left : goal.invariant-loop-left
invariant-loop-left g l = let R = g.R.Ring in let o = R.ring in
    (o.times (R.value l.answer) (raised o (R.value l.square) l.left) ≡ raised o (R.value l.initial.square) l.initial.left) × R.canonical l.answer

abbrev pub decreases-loop-left : goal.decreases-loop-left
decreases-loop-left g l = l.left
