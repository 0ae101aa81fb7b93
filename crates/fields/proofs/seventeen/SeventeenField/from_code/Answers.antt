use Rattle.std.proofs.Common.{arith}
use Rattle.fields.specs.Field17.{number_high}
use Rattle.fields.proofs.seventeen.SeventeenField.from_code.Goals as goal

pub returns-clause-held : goal.returns-clause-held
returns-clause-held c = number_high c.args.code.0 (omega arith)
