use Rattle.std.proofs.Common.{rules}
use Rattle.fields.specs.Field17.{same_powers}
use Rattle.fields.proofs.seventeen.SeventeenRing.same.Goals as goal

pub returns-in-Some-Some : goal.returns-in-Some-Some
returns-in-Some-Some c = search (rules, same_powers c.in-Some-Some.a c.in-Some-Some.b)
