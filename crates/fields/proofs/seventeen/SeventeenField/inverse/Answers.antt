use Rattle.std.proofs.Common.{◌≡◌, sym, subst, rules}
use Rattle.std.specs.Option.{option_map}
use Rattle.fields.specs.Seventeen.{modulo_17, inverted, meaning}
use Rattle.fields.specs.Field17.{held, inverse_means, invertible}
use Rattle.algebra.specs.Fields.{Inverse}
use Rattle.fields.proofs.seventeen.SeventeenField.inverse.Goals as goal

pub returns-clause-means : goal.returns-clause-means
returns-clause-means c =
    let is : c.map.result ≡ option_map inverted c.args.self.power = search rules in
    subst (λ p. Inverse modulo_17 (meaning c.args.self) (meaning (held p))) (sym is) (inverse_means c.args.self.power)

pub returns-clause-invertible : goal.returns-clause-invertible
returns-clause-invertible c = invertible
