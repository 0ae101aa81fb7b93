use Rattle.std.proofs.Common.{◌≡◌, ◌<◌, arith}
use Rattle.std.proofs.lemmas.Grind.{common_steps}
use Rattle.tally.specs.Contents.{count}
use Rattle.tally.specs.Bodies.{contents, element}
use Rattle.tally.proofs.closed.Closed.sum_code.Goals as goal

pub returns-clause-means : goal.returns-clause-means
returns-clause-means g c =
    let k = c.args.k in
    let body = c.self.inside.body in
    let means : k < count (contents g.F.Ring body) → element g.F.Ring g.F.Field c.map_or.result.0 ≡ (contents g.F.Ring body).sum k = grind (arith, common_steps) in
    rw (← c.self.view_is) means
