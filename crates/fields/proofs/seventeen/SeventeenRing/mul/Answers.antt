use Rattle.std.proofs.Common.{◌≡◌, ap, ◌∙◌, rules}
use Rattle.std.specs.Option.{option_map, option_zip}
use Rattle.fields.specs.Seventeen.{added, meaning}
use Rattle.fields.specs.Field17.{held, product-means}
use Rattle.fields.proofs.seventeen.SeventeenRing.mul.Goals as goal

pub returns-clause-means : goal.returns-clause-means
returns-clause-means c =
    let is : c.map-power.result ≡ option_map (λ t. added t.0 t.1) (option_zip c.args.self.power c.args.other.power) = search rules in
    ap (λ p. meaning (held p)) is ∙ product-means c.args.self.power c.args.other.power
