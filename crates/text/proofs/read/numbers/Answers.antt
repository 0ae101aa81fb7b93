use Rattle.std.proofs.Common.{rules}
use Rattle.std.proofs.lemmas.Result.{IfOk-weaker}
use Rattle.text.specs.Numbers.{number_of}
use Rattle.text.proofs.Rows.{all_said}
use Rattle.text.proofs.read.numbers.Goals as goal

pub returns : goal.returns
returns c = IfOk-weaker c.each.result _ _ (λ o h. all_said number_of c.args.words.now o h (λ w r says. search rules)) c.each.ensures
