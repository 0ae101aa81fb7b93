use Rattle.std.proofs.Common.{◌≡◌, ℕ, ◌<◌, length, get_or}
use Rattle.tally.specs.Access.{code_at}
use Rattle.tally.specs.Bodies.{element}
use Rattle.tally.proofs.sums.Sums.restore.Given as goal

abbrev pub invariant-loop-k : goal.invariant-loop-k
invariant-loop-k g l = let R = g.F.Ring in
    (length l.sum-items ≡ 96) × ((i : ℕ) (d : _) → i < l.k → (R.value (get_or l.sum-items i d) ≡ element R g.F.Field (code_at l.codes i)) × R.canonical (get_or l.sum-items i d))
