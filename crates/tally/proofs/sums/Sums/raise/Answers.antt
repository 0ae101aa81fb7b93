use Rattle.std.proofs.Common.{ℕ, ◌<◌, length, map, get_or, drop, sym, refl, ap, ◌∙◌, ap₂, arith}
use lib.ListN.{length-map, length-take}
use Rattle.std.proofs.lemmas.List.{get_or-map, map-append, take-map, get_or-take, get_or_append_left}
use Rattle.algebra.specs.Rings.{power}
use Rattle.tally.proofs.Steps.{changed_more, changed_after, power_step}
use Rattle.tally.proofs.sums.Sums.raise.Goals as goal

pub loop-sum-init : goal.loop-sum-init
loop-sum-init g c = record {
  term = sym (g.met.F.Ring.lawful.times-unit (g.F.Ring.value c.args.n));
  done = λ k h. absurd {A = _} (omega arith);
  left = λ k h. refl;
}

pub loop-sum-preserved : goal.loop-sum-preserved
loop-sum-preserved g c =
    let R = g.F.Ring in
    let o = R.ring in
    let i = c.loop-sum.sum-index in
    let sums = c.loop-sum.sum-items in
    let inside : i < length sums = omega arith in
    let inv = c.loop-sum.invariant in
    let f : ℕ → o.V → o.V = λ k x. o.plus x (o.times (R.value c.args.n) (power o (R.value c.args.a) k)) in
    let here = c.add.ensures.means ∙ ap₂ o.plus (sym (get_or-map R.value sums i c.sum-item.result o.nought inside)) inv.term in record {
      term = c.mul-term.ensures.means ∙ ap (λ t. o.times t (R.value c.args.a)) inv.term ∙ power_step o g.met.F.Ring.lawful _ _ i;
      done = changed_more R.value o.nought f _ sums i c.add.result inside inv.done inv.left here;
      left = changed_after R.value o.nought f _ sums i c.add.result inside inv.done inv.left here;
    }

pub returns : goal.returns
returns g c =
    let R = g.F.Ring in
    let o = R.ring in
    let n = c.count-count.result in
    let xs = c.args.self.now.sums in
    let ys = c.loop-sum.sum-items in
    record {
      frame = (refl, refl);
      sums = λ k h.
          ap (λ l. get_or l k o.nought) (map-append R.value ys (drop n xs))
          ∙ get_or_append_left (map R.value ys) (map R.value (drop n xs)) o.nought k (let e = length-map ys R.value in omega (arith, length-take n xs))
          ∙ c.loop-sum.invariant.done k (omega (arith, length-take n xs))
          ∙ ap (λ x. o.plus x (o.times (R.value c.args.n) (power o (R.value c.args.a) k)))
          (ap (λ l. get_or l k o.nought) (sym (take-map R.value n xs)) ∙ get_or-take n (map R.value xs) k o.nought (omega arith));
    }
