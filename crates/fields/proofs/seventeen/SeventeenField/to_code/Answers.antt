use Rattle.std.proofs.Common.{◌≡◌, arith, rules}
use Rattle.fields.specs.Seventeen.{coding}
use Rattle.fields.specs.Field17.{of_code, code_under}
use Rattle.fields.proofs.seventeen.SeventeenField.to_code.Goals as goal

pub returns : goal.returns
returns c =
    let is : c.map_or.result ≡ coding c.args.self = search rules in
    record { means = rw is (of_code c.args.self); below = omega (arith, code_under c.args.self) }
