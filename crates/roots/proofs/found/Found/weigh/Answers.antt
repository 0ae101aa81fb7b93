use Rattle.std.proofs.Common.{◌<◌, length, drop, sym, subst, arith, length-take}
use Rattle.std.proofs.lemmas.List.{get_or_append_left}
use Rattle.roots.specs.Division.{Multiplicity}
use Rattle.roots.specs.Codes.{element, polynomial}
use Rattle.roots.specs.declared.record.RootRecord.{RootRecord}
use Rattle.roots.proofs.found.Found.weigh.Goals as goal

pub returns-clause-weighed : goal.returns-clause-weighed
returns-clause-weighed g c k d h =
    let R = g.F.Ring in
    let F = g.F.Field in
    let list = c.args.self.now.list.now in
    let count = c.args.self.now.count in
    let inside : k < length c.weigh.new.roots = omega (arith, c.weigh.auto.roots, length-take count list, c.args.self.now.inside) in
    let P : RootRecord → Type 0 = λ r. Multiplicity R.ring (polynomial R F c.args.f.codes.now) (element R F r.code.0) r.multiplicity in
    subst P (sym (get_or_append_left c.weigh.new.roots (drop count list) d k inside)) (c.weigh.ensures.weighed k d inside)
