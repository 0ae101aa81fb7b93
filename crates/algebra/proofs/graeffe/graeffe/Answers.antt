use Rattle.std.proofs.Common.{◌≡◌, ◌++◌, length, take, drop, arith}
use Rattle.std.proofs.lemmas.Slice.{drop-append-drop}
use Rattle.std.proofs.Math.Seq.{take-append_seam}
use lib.ListN.{length-map}
use Rattle.std.proofs.lemmas.Grind.{common_steps}
use Rattle.std.proofs.lemmas.List.{get_or_append_left}
use Rattle.algebra.specs.Graeffe.{transform}
use Rattle.algebra.specs.Transforms.{values}
use Rattle.algebra.proofs.Places.{values_same}
use Rattle.algebra.proofs.GraeffeLaws.{transform_law, length-transform}
use Rattle.algebra.proofs.graeffe.graeffe.Goals as goal

pub returns-clause-leaves : goal.returns-clause-leaves
returns-clause-leaves g c =
    let R = g.R.Ring in
    let o = R.ring in
    let L = g.met.R.Ring.lawful in
    let f = c.args.f.now in
    let n = length f in
    let items = c.loop-k.place-items in
    let out = items ++ drop n c.args.out.now in
    let long : length items ≡ n = grind (arith, common_steps) in
    let front : take n out ≡ items = rw (← long) (take-append_seam items (drop (length items) c.args.out.now)) in
    let written : values R items ≡ transform o (values R f) =
    values_same R.value items _ o.nought (omega (arith, length-transform o L (values R f), length-map f R.value)) (λ k d h. (c.loop-k.invariant k d (omega arith)).0) in
    record {
      front = rw (front, written) (transform_law o L (values R f));
      held = λ k d h. rw (get_or_append_left items (drop n c.args.out.now) d k (omega arith)) (c.loop-k.invariant k d (omega arith)).1;
      rest = drop-append-drop n c.args.out.now items n (omega arith) long;
    }
