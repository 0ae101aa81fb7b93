use Rattle.std.proofs.Common.{◌≡◌, length, take, drop}
use Rattle.roots.specs.Codes.{polynomial}
use Rattle.roots.specs.Roots.{codes}
use Rattle.roots.specs.Searches.{Searched}
use Rattle.roots.proofs.tower.TangentTower.search.Given as goal

abbrev pub invariant-loop-i : goal.invariant-loop-i
invariant-loop-i g l =
    Searched g.F.Ring g.F.Field (polynomial g.F.Ring g.F.Field l.self.f.codes.now) l.i (codes (take l.found.count l.found.list.now)) l.found.trials
    × (drop l.found.count l.found.list.now ≡ drop l.found.count l.fn.found.list.now)
    × (length l.found.list.now ≡ length l.fn.found.list.now) × (l.found.list.ghost_name ≡ l.fn.found.list.ghost_name)
