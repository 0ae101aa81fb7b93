use Rattle.std.proofs.Common.{◌≡◌, ◌+◌, ◌-◌, map, length}
use Rattle.algebra.specs.Polynomials.{sign}
use Rattle.algebra.proofs.Places.{Around}
use Rattle.algebra.proofs.Sums.{total}
use Rattle.algebra.proofs.GraeffeLaws.{signed}
use Rattle.algebra.proofs.graeffe.middle.Given as goal

abbrev pub invariant-loop-x : goal.invariant-loop-x
invariant-loop-x g l =
    let R = g.R.Ring in
    let o = R.ring in
    let before = l.x-iterator.a.rest.now in
    let i = l.k - length before in record {
      pairs : Around l.f before l.x-iterator.b.iter.rest.now l.k (length before);
      summed : o.plus (R.value l.odd) (o.minus (R.value l.even)) ≡ o.minus (o.times (sign o i) (total o (signed o (map R.value l.f) (l.k + l.k)) i));
    }
