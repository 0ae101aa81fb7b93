use Rattle.std.proofs.Common.{◌≡◌, refl, ◌∙◌, arith}
use Rattle.std.proofs.lemmas.List.{length-set, get_or-map}
use Rattle.algebra.proofs.Places.{place_more}
use Rattle.tally.specs.Access.{code_at}
use Rattle.tally.specs.Bodies.{element}
use Rattle.tally.proofs.sums.Sums.restore.Goals as goal

pub loop-k-preserved : goal.loop-k-preserved
loop-k-preserved g c =
    let R = g.F.Ring in
    let at = c.loop-k.invariant in (
      length-set c.loop-k.sum-items c.loop-k.k c.element_at.result ∙ at.0,
      place_more (λ i x. (R.value x ≡ element R g.F.Field (code_at c.args.codes.now i)) × R.canonical x) c.loop-k.sum-items c.loop-k.k c.element_at.result (omega (arith, at.0))
          (c.element_at.ensures.means, c.element_at.ensures.held) at.1,
    )

pub returns : goal.returns
returns g c =
    let R = g.F.Ring in
    let z = g.F.Field.at 0 in
    let at = c.loop-k.invariant in
    record {
      framed = refl;
      turned = refl;
      sums = λ k h. get_or-map R.value c.loop-k.sum-items k z R.ring.nought (omega (arith, at.0)) ∙ (at.1 k z (omega (arith, c.loop-k-test.false))).0;
      held = λ k d h. (at.1 k d (omega (arith, c.loop-k-test.false))).1;
    }
