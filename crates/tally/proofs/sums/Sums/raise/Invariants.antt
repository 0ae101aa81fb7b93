use Rattle.std.proofs.Common.{◌≡◌, ℕ, ◌<◌, ◌≤◌, map, get_or}
use Rattle.algebra.specs.Rings.{power}
use Rattle.tally.proofs.sums.Sums.raise.Given as goal

abbrev pub invariant-loop-sum : goal.invariant-loop-sum
invariant-loop-sum g l = let R = g.F.Ring in let o = R.ring in record {
  term : R.value l.term ≡ o.times (R.value l.initial.term) (power o (R.value l.a) l.sum-index);
  done : (k : ℕ) → k < l.sum-index → get_or (map R.value l.sum-items) k o.nought ≡ o.plus (get_or (map R.value l.initial.sum-items) k o.nought) (o.times (R.value l.initial.term) (power o (R.value l.a) k));
  left : (k : ℕ) → l.sum-index ≤ k → get_or (map R.value l.sum-items) k o.nought ≡ get_or (map R.value l.initial.sum-items) k o.nought;
}
