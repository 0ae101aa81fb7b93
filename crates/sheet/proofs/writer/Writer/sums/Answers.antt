use Rattle.std.proofs.Common.{◌≡◌, ◌<◌, map, length, get_or, sym, ap, ◌∙◌, subst, arith}
use lib.ListN.{length-take}
use Rattle.std.proofs.lemmas.List.{get_or-map, take-map, get_or-take, length-take-le}
use Rattle.tally.specs.Bodies.{contents, element}
use Rattle.tally.specs.Contents.{count}
use Rattle.sheet.proofs.Puts.{SumsSoFar, more_sums, all_sums}
use Rattle.sheet.proofs.writer.Writer.sums.Goals as goal

pub loop-sum-preserved : goal.loop-sum-preserved
loop-sum-preserved g c =
    let R = g.F.Ring in
    let t = c.args.tally.now in
    let n = count (contents R t) in
    let i = c.loop-sum.sum-index in
    let inside : i < length c.sums-sums.result.now = c.loop-sum-test.true in
    let front : i < n = omega (arith, length-take n t.sums, ap length c.sums-sums.ensures.front) in
    let here : g.F.Ring.value c.sum-item.result ≡ (contents R t).sum i =
    sym (get_or-map R.value c.sums-sums.result.now i c.sum-item.result R.ring.nought inside ∙ ap R.value (sym c.sum-item.is))
    ∙ ap (λ l. get_or (map R.value l) i R.ring.nought) c.sums-sums.ensures.front
    ∙ ap (λ l. get_or l i R.ring.nought) (sym (take-map R.value n t.sums))
    ∙ get_or-take n (map R.value t.sums) i R.ring.nought front in
    record {
      same_reference = c.number-in-loop-sum.ensures.same_reference ∙ c.loop-sum.invariant.same_reference;
      place = omega arith;
      long = c.number-in-loop-sum.ensures.puts.long ∙ c.loop-sum.invariant.long;
      so_far = more_sums _ _ _ _ _ _ _ _ _ i _ c.to_code.ensures.below (c.to_code.ensures.means ∙ here) c.number-in-loop-sum.ensures.puts c.loop-sum.invariant.so_far;
    }

pub returns-clause-puts : goal.returns-clause-puts
returns-clause-puts g c =
    let t = c.args.tally.now in
    let k = contents g.F.Ring t in
    let total : length c.sums-sums.result.now ≡ count k = ap length c.sums-sums.ensures.front ∙ length-take-le (count k) t.sums c.sums-sums.ensures.enough in
    let end : c.loop-sum.sum-index ≡ length c.sums-sums.result.now = omega arith in
    all_sums _ _ k _ _ _ _ _ _ _ total c.number.ensures.puts
    (subst (SumsSoFar g.F.Field.order (element g.F.Ring g.F.Field) k c.number.new.self.out.now c.number.new.self.place c.loop-sum.self.out.now c.loop-sum.self.place) end c.loop-sum.invariant.so_far)
