use Rattle.std.proofs.Common.{◌≡◌, ℕ, ◌<◌}
use Rattle.std.specs.List.{between}
use Rattle.algebra.specs.Polynomials.{eval}
use Rattle.roots.specs.Codes.{polynomial}
use Rattle.roots.specs.Rows.{row}
use Rattle.roots.proofs.Multiplicities.{divided}
use Rattle.roots.proofs.divide.multiplicity.Given as goal

abbrev pub invariant-loop-e : goal.invariant-loop-e
invariant-loop-e g l = let R = g.F.Ring in let o = R.ring in let f = polynomial R g.F.Field l.f.codes.now in let a = R.value l.a in
    (row R (between l.e l.n l.work) ≡ divided o a l.e f) × ((i : ℕ) → i < l.e → eval o (divided o a i f) a ≡ o.nought)
