use Rattle.std.proofs.Common.{◌∙◌}
use Rattle.fields.specs.Field17.{code_sum}
use Rattle.fields.proofs.seventeen.SeventeenRing.add.Goals as goal

pub returns-clause-means : goal.returns-clause-means
returns-clause-means c =
    c.from_code.ensures.means ∙ code_sum c.to_code.result.0 c.to_code-2.result.0 c.to_code.ensures.below c.to_code-2.ensures.below
    ∙ cc (c.to_code.ensures.means, c.to_code-2.ensures.means)
