use Rattle.std.proofs.Common.{◌≡◌, true, ◌↔◌, rules, tests, sym, subst, take}
use Rattle.std.specs.List.{list_all, zip}
use Rattle.std.proofs.lemmas.Iterator.{YieldsList-from_slice, YieldsList-from_zip}
use Rattle.std.proofs.lemmas.Iterator.Search.{all_from_yields_List}
use Rattle.tally.specs.Contents.{count, Agree}
use Rattle.tally.specs.Bodies.{contents, element}
use Rattle.tally.proofs.Agreeing.{agree_all}
use Rattle.tally.proofs.Comparing.{reaches}
use Rattle.tally.proofs.closed.Closed.compare.Goals as goal

pub returns : goal.returns
returns g c =
    let R = g.F.Ring in
    let F = g.F.Field in
    let L = g.met.F.Ring.lawful in
    let s = c.self.inside.body in
    let t = c.other.inside.body in
    let n = count (contents R s) in
    let like : count (contents R t) ≡ n = search rules in
    let is : c.all.result ≡ list_all (λ p. R.ring.alike (R.value p.0) (R.value p.1)) (zip (take n s.sums) (take n t.sums)) =
    all_from_yields_List (λ p. R.ring.alike (R.value p.0) (R.value p.1)) c.all.new.self _ c.all.result c.all.ensures.ran
    (YieldsList-from_zip (YieldsList-from_slice (take n s.sums) (search rules)) (YieldsList-from_slice (take n t.sums) (search rules))) (λ x b q k. search (rules, tests)) in
    let tell : (c.all.result ≡ true) ↔ Agree (contents R s) (contents R t) =
    subst (λ b. (b ≡ true) ↔ Agree (contents R s) (contents R t)) (sym is) (agree_all R.value R.ring.nought R.ring.alike L.alike_same L.same_alike n s.sums t.sums c.counted.ensures.enough (rw (← like) c.counted-2.ensures.enough)) in
    record {
      answers = search rules;
      compares = rw (← c.self.view_is, ← c.other.view_is) tell;
      reaches = rw (← c.self.view_is, ← c.other.view_is) (reaches R.ring L F.order F.odd F.levels (element R F) (R.value F.zeta) c.field_laws-order.ensures.laws (contents R s) (contents R t) c.all.result like tell);
    }
