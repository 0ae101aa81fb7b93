use Rattle.std.proofs.Common.{◌≡◌, ap, ◌∙◌, rules}
use Rattle.std.specs.Option.{option_map}
use Rattle.fields.specs.Seventeen.{added, meaning}
use Rattle.fields.specs.Field17.{held, opposite_means}
use Rattle.fields.proofs.seventeen.SeventeenRing.neg.Goals as goal

pub returns-clause-means : goal.returns-clause-means
returns-clause-means c =
    let is : c.map.result ≡ option_map (λ a. added a (record { 0 = 8 })) c.args.self.power = search rules in
    ap (λ p. meaning (held p)) is ∙ opposite_means c.args.self.power
