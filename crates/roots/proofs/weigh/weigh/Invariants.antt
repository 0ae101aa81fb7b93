use Rattle.std.proofs.Common.{◌≡◌, ℕ, ◌<◌, get_or}
use Rattle.roots.specs.Division.{Multiplicity}
use Rattle.roots.specs.Codes.{element, polynomial}
use Rattle.roots.specs.Roots.{codes}
use Rattle.roots.specs.declared.record.RootRecord.{RootRecord}
use Rattle.roots.proofs.weigh.weigh.Given as goal

abbrev pub invariant-loop-root : goal.invariant-loop-root
invariant-loop-root g l = let R = g.F.Ring in let F = g.F.Field in
    (codes l.roots ≡ codes l.initial.roots)
    × ((k : ℕ) (d : RootRecord) → k < l.root-index → Multiplicity R.ring (polynomial R F l.f.codes.now) (element R F (get_or l.roots k d).code.0) (get_or l.roots k d).multiplicity)
