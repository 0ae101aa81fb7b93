use Rattle.std.proofs.Common.{◌≡◌, ◌+◌, ◌-◌, ◌*◌, ◌^◌, ◌<◌, [], ◌∷◌, length, take, drop, sym, refl, ap, ◌∙◌, arith}
use lib.ListN.{length-map}
use Rattle.algebra.specs.Polynomials.{coefficient}
use Rattle.roots.specs.Lists.{put}
use Rattle.roots.specs.Codes.{element, polynomial}
use Rattle.roots.specs.Roots.{codes}
use Rattle.roots.proofs.Coding.{good_from, top_nonzero, zero_root, no_zero_root, exponent_is, trials_fit}
use Rattle.roots.proofs.Visiting.{drop_on}
use Rattle.roots.proofs.Searching.{searched_none, searched_zero, searched_ready, searched_more, searched_all, ready_moved, visited_moved, searched_moved}
use Rattle.roots.proofs.tower.TangentTower.search.Goals as goal
use Rattle.roots.proofs.tower.TangentTower.search.Goals.{then-self-eq0, else-self-eq0}

pub loop-i-init : goal.loop-i-init
loop-i-init g c =
    let R = g.F.Ring in
    let F = g.F.Field in
    let L = g.met.F.Ring.lawful in
    let I = c.field_laws-order.ensures.laws in
    let cs = c.args.self.now.f.codes.now in
    let f = polynomial R F cs in
    let good = good_from F.order cs c.args.self.now.f.good in
    let old = c.args.found.now in
    let found = c.if-self-eq0.found in
    elim c.if-self-eq0.branch [
      | then-self-eq0 w ↦ (let new = w.insert.new.self in
          let placed : codes (take new.count new.list.now) ≡ 0 ∷ [] = w.insert.ensures.placed ∙ ap (λ n. put 0 (codes (take n old.list.now))) c.requires.fresh.0 in (
            searched_moved R F L I f 0 0 0 found.trials (0 ∷ []) _ refl (sym (ap (λ r. r.trials) w.found-is ∙ w.insert.ensures.tried ∙ c.requires.fresh.1))
                (sym (ap (λ r. codes (take r.count r.list.now)) w.found-is ∙ placed)) (searched_zero R F L I f (zero_root R F L I cs good w.if-self-eq0.true)),
            ap (λ r. drop r.count r.list.now) w.found-is ∙ w.insert.ensures.rest ∙ ap (λ r. drop r.count old.list.now) (sym w.found-is),
            ap (λ r. length r.list.now) w.found-is ∙ w.insert.ensures.long,
            ap (λ r. r.list.ghost_name) w.found-is ∙ w.insert.ensures.same_list,
          ))
      | else-self-eq0 w ↦ (
        searched_moved R F L I f 0 0 0 found.trials [] _ refl (sym (ap (λ r. r.trials) w.found-is ∙ c.requires.fresh.1))
            (sym (ap (λ r. codes (take r.count r.list.now)) w.found-is ∙ ap (λ n. codes (take n old.list.now)) c.requires.fresh.0)) (searched_none R F L I f (no_zero_root R F L I cs good w.if-self-eq0.false)),
        ap (λ r. drop found.count r.list.now) w.found-is,
        ap (λ r. length r.list.now) w.found-is,
        ap (λ r. r.list.ghost_name) w.found-is,
      )
    ]

pub visit-requires-clause-ready : goal.visit-requires-clause-ready
visit-requires-clause-ready g c =
    let R = g.F.Ring in
    let F = g.F.Field in
    let L = g.met.F.Ring.lawful in
    let I = c.field_laws-order.ensures.laws in
    let cs = c.args.self.now.f.codes.now in
    let f = polynomial R F cs in
    let i = c.loop-i.i in
    let found = c.loop-i.found in
    let good = good_from F.order cs c.args.self.now.f.good in
    let long : length f ≡ length cs = length-map cs (λ x. element R F x.0) in
    let inside : i < F.odd = omega (arith, c.odd_part-odd.ensures.answer) in
    let e = exponent_is R F L I cs good c.field_laws-order.result c.odd_part-odd.result i c.field_laws-order.ensures.answer c.odd_part-odd.ensures.answer in
    ready_moved R F L I f c.height-top.result F.levels _ (i * 2 ^ F.levels) (codes (take found.count found.list.now)) c.height-top.ensures e
    (searched_ready R F L I f i found.trials (codes (take found.count found.list.now)) c.loop-i.invariant.0 inside (omega (arith, good.some))
    (λ z. top_nonzero R F L I cs good (ap (λ n. coefficient R.ring f (n - 1)) (sym long) ∙ z)))

pub visit-requires-clause-few : goal.visit-requires-clause-few
visit-requires-clause-few g c =
    let F = g.F.Field in
    let cs = c.args.self.now.f.codes.now in
    let good = good_from F.order cs c.args.self.now.f.good in
    let inside : c.loop-i.i < F.odd = omega (arith, c.odd_part-odd.ensures.answer) in
    omega (arith, ap (λ k. 2 ^ (k + 1)) c.height-top.ensures, trials_fit g.F.Ring F g.met.F.Ring.lawful c.field_laws-order.ensures.laws cs good c.loop-i.i c.loop-i.found.trials inside c.loop-i.invariant.0.few)

pub loop-i-preserved : goal.loop-i-preserved
loop-i-preserved g c =
    let R = g.F.Ring in
    let F = g.F.Field in
    let L = g.met.F.Ring.lawful in
    let I = c.field_laws-order.ensures.laws in
    let cs = c.args.self.now.f.codes.now in
    let f = polynomial R F cs in
    let i = c.loop-i.i in
    let good = good_from F.order cs c.args.self.now.f.good in
    let inside : i < F.odd = omega (arith, c.odd_part-odd.ensures.answer) in
    let e = exponent_is R F L I cs good c.field_laws-order.result c.odd_part-odd.result i c.field_laws-order.ensures.answer c.odd_part-odd.ensures.answer in
    let w = c.visit.ensures in
    let found = c.loop-i.found in
    let new = c.visit.new.found in (
      searched_more R F L I f i found.trials new.trials _ _ inside c.loop-i.invariant.0
          (visited_moved R F L I f c.height-top.result F.levels _ (i * 2 ^ F.levels) found.trials new.trials
          (codes (take found.count found.list.now)) (codes (take new.count new.list.now)) c.height-top.ensures e w.visited),
      w.rest ∙ drop_on c.args.found.now.list.now found.list.now found.count new.count w.more c.loop-i.invariant.1,
      w.long ∙ c.loop-i.invariant.2,
      w.same_list ∙ c.loop-i.invariant.3,
    )

pub returns : goal.returns
returns g c =
    let R = g.F.Ring in
    let F = g.F.Field in
    let L = g.met.F.Ring.lawful in
    let I = c.field_laws-order.ensures.laws in
    let f = polynomial R F c.args.self.now.f.codes.now in
    let done : c.loop-i.i ≡ F.odd = omega (arith, c.odd_part-odd.ensures.answer) in
    let found = c.loop-i.found in
    let inv = c.loop-i.invariant in
    let all = searched_all R F L I f found.trials _ (searched_moved R F L I f c.loop-i.i F.odd _ found.trials _ (codes (take found.count found.list.now)) done refl refl inv.0) in
    record {
      same_list = inv.3;
      long = inv.2;
      ascending = inv.0.ascending;
      roots = all.0;
      tried = all.1;
      rest = inv.1;
    }
