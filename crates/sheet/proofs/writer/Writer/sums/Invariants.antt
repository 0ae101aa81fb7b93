use Rattle.std.proofs.Common.{◌≡◌, ◌+◌, ◌*◌, length}
use Rattle.tally.specs.Bodies.{contents, element}
use Rattle.sheet.proofs.Puts.{SumsSoFar}
use Rattle.sheet.proofs.writer.Writer.sums.Given as goal

abbrev pub invariant-loop-sum : goal.invariant-loop-sum
invariant-loop-sum g l = record {
  same_reference : l.self.out.ghost_name ≡ l.initial.self.out.ghost_name;
  place : l.self.place ≡ l.initial.self.place + 4 * l.sum-index;
  long : length l.self.out.now ≡ length l.initial.self.out.now;
  so_far : SumsSoFar g.F.Field.order (element g.F.Ring g.F.Field) (contents g.F.Ring l.tally) l.initial.self.out.now l.initial.self.place l.self.out.now l.self.place l.sum-index;
}
