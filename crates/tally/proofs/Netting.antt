-- What net counts tell of a tally.
use Rattle.std.proofs.Common.{ℕ, ◌∙◌}
use Rattle.algebra.specs.Rings.{Ops, Lawful}
use Rattle.tally.specs.Contents.{Contents}
use Rattle.tally.specs.Logs.{Log, Kept}
use Rattle.tally.specs.Nets.{Netted}
use Rattle.tally.proofs.Nets.{net_low, net-high, moment-net}

pub netted : (o : Ops) (L : Lawful o) (q : ℕ) (at : ℕ → o.V) (log : Log) (s : Contents o.V) → Kept o q at log s → Netted o q at log s
netted o L q at log s kept = record {
  low = net_low q log kept.answered;
  high = net-high q log kept.answered;
  sums = λ cs distinct all k h. kept.sums k h ∙ moment-net o L at log cs k distinct all;
}
