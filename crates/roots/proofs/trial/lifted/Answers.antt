use Rattle.std.proofs.Common.{ap, ◌∙◌, ap₂}
use Rattle.algebra.specs.Rings.{raised}
use Rattle.roots.proofs.Judging.{two_power, lift_product}
use Rattle.roots.proofs.trial.lifted.Goals as goal

pub returns : goal.returns
returns g c = λ nonzero.
    let R = g.F.Ring in
    let o = R.ring in
    let L = g.met.F.Ring.lawful in
    lift_product o L (R.value c.mul-2.result) (R.value c.mul-scaled.result) (R.value c.args.tangent) (R.value c.inverse.result)
    c.mul-2.ensures.means (c.inverse.ensures.means.of_other nonzero)
    ∙ c.mul-scaled.ensures.means
    ∙ ap₂ o.times (c.power.ensures.means ∙ ap (λ t. raised o t c.args.k) c.whole.ensures.means ∙ two_power o L c.args.k) c.mul.ensures.means
