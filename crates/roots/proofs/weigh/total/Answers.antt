use Rattle.std.proofs.Common.{◌≡◌, ◌∙◌, rules}
use Rattle.std.specs.List.{sum_by}
use Rattle.roots.proofs.Weighing.{sum_by-added}
use Rattle.roots.proofs.weigh.total.Goals as goal

pub returns : goal.returns
returns c =
    let summed : c.sum.result ≡ sum_by (λ root. root.multiplicity) c.args.roots.now = search rules in
    summed ∙ sum_by-added (λ root. root.multiplicity) c.args.roots.now
