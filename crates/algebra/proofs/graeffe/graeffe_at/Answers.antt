use Rattle.std.proofs.Common.{sym, ◌∙◌, arith}
use lib.ListN.{length-map}
use Rattle.std.proofs.lemmas.List.{get_or_past}
use Rattle.algebra.specs.Graeffe.{transform}
use Rattle.algebra.specs.Transforms.{values}
use Rattle.algebra.proofs.GraeffeLaws.{length-transform, transform_even, transform_odd}
use Rattle.algebra.proofs.graeffe.graeffe_at.Goals as goal

pub returns-then-k-f-clause-means : goal.returns-then-k-f-clause-means
returns-then-k-f-clause-means g c =
    let R = g.R.Ring in
    let f = values R c.args.f.now in
    c.zero.ensures.means
    ∙ sym (get_or_past (transform R.ring f) c.args.k R.ring.nought (omega (arith, length-transform R.ring g.met.R.Ring.lawful f, length-map c.args.f.now R.value)))

pub returns-then-f-k-eq0-clause-means : goal.returns-then-f-k-eq0-clause-means
returns-then-f-k-eq0-clause-means g c =
    let R = g.R.Ring in
    let long = length-map c.args.f.now R.value in
    transform_even R.ring g.met.R.Ring.lawful (values R c.args.f.now) c.args.k (R.value c.middle-term.result) (omega arith) (omega arith) c.middle-term.ensures.means

pub returns-else-f-k-eq0-clause-means : goal.returns-else-f-k-eq0-clause-means
returns-else-f-k-eq0-clause-means g c =
    let R = g.R.Ring in
    let long = length-map c.args.f.now R.value in
    transform_odd R.ring g.met.R.Ring.lawful (values R c.args.f.now) c.args.k (R.value c.middle-term.result) (R.value c.neg.result) (omega arith) (omega arith)
    c.middle-term.ensures.means c.neg.ensures.means
