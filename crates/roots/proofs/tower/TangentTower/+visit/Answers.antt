use Rattle.std.proofs.Common.{◌+◌, ◌-◌, ◌/◌, take, sym, ◌∙◌, subst, arith, rules}
use lib.ListN.{length-map}
use Rattle.algebra.proofs.Fields.{zeta_power_nonzero}
use Rattle.roots.specs.Codes.{element, polynomial}
use Rattle.roots.specs.Roots.{codes}
use Rattle.roots.specs.Searches.{Ready, Visited}
use Rattle.roots.specs.declared.verdict.Verdict.TheVariants.{Nothing, Root, Both}
use Rattle.roots.proofs.Visiting.{put_fits, visited_nothing, visited_root, both_first, both_second, both_visited, tried_power, judged_power, few_first, few_second, drop_on, length-codes}
use Rattle.roots.proofs.tower.TangentTower.+visit.Goals as goal

pub judge-requires : goal.judge-requires
judge-requires g t c z =
    let R = g.F.Ring in
    let F = g.F.Field in
    zeta_power_nonzero R.ring g.met.F.Ring.lawful F.order F.odd F.levels (λ b. R.value (F.at b)) (R.value F.zeta) c.field_laws-order.ensures.laws c.args.e.0
    (sym (tried_power R F (R.value c.power-x.result) (R.value c.primitive.result) c.args.e.0 c.primitive.ensures.means c.power-x.ensures.means) ∙ z)

pub insert-requires-clause-room : goal.insert-requires-clause-room
insert-requires-clause-room g t c =
    let R = g.F.Ring in
    let F = g.F.Field in
    let cs = c.args.self.now.f.codes.now in
    let f = polynomial R F cs in
    let k = c.args.k in
    let e = c.args.e.0 in
    let found = c.args.found.now in
    let alone = judged_power R F (R.value c.power-x.result) (R.value c.primitive.result) e c.primitive.ensures.means c.power-x.ensures.means f k (Root c.in-Root.code) (c.in-Root.ensures f c.level.ensures) in
    omega (
      arith,
      c.requires.room,
      length-map cs (λ x. element R F x.0),
      length-codes found.count found.list.now found.inside,
      put_fits R F g.met.F.Ring.lawful c.field_laws-order.ensures.laws f k e c.in-Root.code.0 _ c.requires.ready alone,
    )

pub visit-requires : goal.visit-requires
visit-requires g t c κs within =
    let R = g.F.Ring in
    let F = g.F.Field in
    let f = polynomial R F c.args.self.now.f.codes.now in
    let k = c.args.k in
    let e = c.args.e.0 in
    let both = judged_power R F (R.value c.power-x.result) (R.value c.primitive.result) e c.primitive.ensures.means c.power-x.ensures.means f k Both (c.in-Both.ensures f c.level.ensures) in (
      search rules,
      (
        within,
        (
          both_first R F g.met.F.Ring.lawful c.field_laws-order.ensures.laws f k e _ both.0 c.requires.ready (both.1, both.2),
          (c.requires.room, few_first c.args.found.now.trials k both.0 c.requires.few),
        ),
      ),
    )

pub visit-requires-in-Both : goal.visit-requires-in-Both
visit-requires-in-Both g t c κs within =
    let R = g.F.Ring in
    let F = g.F.Field in
    let f = polynomial R F c.args.self.now.f.codes.now in
    let k = c.args.k in
    let e = c.args.e.0 in
    let found = c.visit.new.found in
    let both = judged_power R F (R.value c.power-x.result) (R.value c.primitive.result) e c.primitive.ensures.means c.power-x.ensures.means f k Both (c.in-Both.ensures f c.level.ensures) in
    let w = c.visit.ensures.visited in
    let ready = both_second R F g.met.F.Ring.lawful c.field_laws-order.ensures.laws f k e c.args.found.now.trials found.trials _ _ both.0 c.requires.ready (both.1, both.2) w in (
      search rules,
      (
        within,
        (
          subst (λ q. Ready R F f (k - 1) (e / 2 + (q - 1) / 2) (codes (take found.count found.list.now))) (sym c.field_laws-order.ensures.answer) ready,
          (omega (arith, c.requires.room, c.visit.ensures.long), few_second c.args.found.now.trials found.trials k both.0 c.requires.few w.few),
        ),
      ),
    )

pub returns-in-Nothing-clause-visited : goal.returns-in-Nothing-clause-visited
returns-in-Nothing-clause-visited g t c =
    let R = g.F.Ring in
    let F = g.F.Field in
    let f = polynomial R F c.args.self.now.f.codes.now in
    let k = c.args.k in
    let e = c.args.e.0 in
    visited_nothing R F g.met.F.Ring.lawful c.field_laws-order.ensures.laws f k e c.args.found.now.trials _ c.requires.ready
    (judged_power R F (R.value c.power-x.result) (R.value c.primitive.result) e c.primitive.ensures.means c.power-x.ensures.means f k Nothing (c.in-Nothing.ensures f c.level.ensures))

pub returns-in-Root-clause-visited : goal.returns-in-Root-clause-visited
returns-in-Root-clause-visited g t c =
    let R = g.F.Ring in
    let F = g.F.Field in
    let f = polynomial R F c.args.self.now.f.codes.now in
    let k = c.args.k in
    let e = c.args.e.0 in
    let code = c.in-Root.code.0 in
    let found = c.args.found.now in
    let new = c.insert.new.self in
    let alone = judged_power R F (R.value c.power-x.result) (R.value c.primitive.result) e c.primitive.ensures.means c.power-x.ensures.means f k (Root c.in-Root.code) (c.in-Root.ensures f c.level.ensures) in
    let xs = codes (take found.count found.list.now) in
    subst (λ u. Visited R F f k e xs (codes (take new.count new.list.now)) found.trials u) (sym c.insert.ensures.tried)
    (subst (λ ys. Visited R F f k e xs ys found.trials (found.trials + 1)) (sym c.insert.ensures.placed)
    (visited_root R F g.met.F.Ring.lawful c.field_laws-order.ensures.laws f k e code found.trials xs c.requires.ready alone))

pub returns-in-Both-clause-visited : goal.returns-in-Both-clause-visited
returns-in-Both-clause-visited g t c =
    let R = g.F.Ring in
    let F = g.F.Field in
    let f = polynomial R F c.args.self.now.f.codes.now in
    let k = c.args.k in
    let e = c.args.e.0 in
    let both = judged_power R F (R.value c.power-x.result) (R.value c.primitive.result) e c.primitive.ensures.means c.power-x.ensures.means f k Both (c.in-Both.ensures f c.level.ensures) in
    let first = c.visit.new.found in
    let last = c.visit-in-Both.new.found in
    both_visited R F g.met.F.Ring.lawful c.field_laws-order.ensures.laws f k e c.args.found.now.trials first.trials last.trials _ _ _
    both.0 c.requires.ready (both.1, both.2) c.visit.ensures.visited
    (subst (λ q. Visited R F f (k - 1) (e / 2 + (q - 1) / 2) (codes (take first.count first.list.now)) (codes (take last.count last.list.now)) first.trials last.trials) c.field_laws-order.ensures.answer c.visit-in-Both.ensures.visited)

pub returns-in-Both-clause-rest : goal.returns-in-Both-clause-rest
returns-in-Both-clause-rest g t c =
    let w = c.visit.ensures in
    let z = c.visit-in-Both.ensures in
    z.rest ∙ drop_on c.args.found.now.list.now c.visit.new.found.list.now c.visit.new.found.count c.visit-in-Both.new.found.count z.more w.rest
