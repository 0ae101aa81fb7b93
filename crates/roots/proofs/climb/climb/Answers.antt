use Rattle.std.proofs.Common.{◌≡◌, ◌∙◌, arith}
use Rattle.algebra.specs.Duals.{dual}
use Rattle.algebra.specs.Polynomials.{coefficient}
use Rattle.algebra.specs.Graeffe.{transform}
use Rattle.algebra.specs.DualsLemmas.{dual_lawful}
use Rattle.algebra.proofs.Places.{place_more}
use Rattle.algebra.proofs.GraeffeLaws.{length-transform}
use lib.ListN.{length-map}
use Rattle.roots.specs.Codes.{dualized, duals, Held}
use Rattle.roots.proofs.Slices.{values_are}
use Rattle.roots.proofs.climb.climb.Goals as goal

pub loop-j-preserved : goal.loop-j-preserved
loop-j-preserved g c =
    let R = g.F.Ring in
    let D = dual R.ring in
    place_more (λ i x. (dualized R x ≡ coefficient D (transform D (duals R c.args.from.now)) i) × Held R x) c.loop-j.to c.loop-j.j c.graeffe_at.result (omega arith)
    (c.graeffe_at.ensures.means, c.graeffe_at.ensures.held) c.loop-j.invariant

pub returns : goal.returns
returns g c =
    let R = g.F.Ring in
    let D = dual R.ring in
    let from = c.args.from.now in
    record {
      written = values_are (dualized R) c.loop-j.to (transform D (duals R from)) D.nought
          (length-transform D (dual_lawful R.ring g.met.F.Ring.lawful) (duals R from) ∙ length-map from (dualized R) ∙ omega arith)
          (λ k d h. (c.loop-j.invariant k d (omega arith)).0);
      held = λ j d h. (c.loop-j.invariant j d (omega arith)).1;
    }
