use Rattle.std.proofs.Common.{rules}
use Rattle.std.proofs.lemmas.Result.{IfOk-weaker}
use Rattle.text.specs.Numbers.{pair_of}
use Rattle.text.specs.Elements.{both_mean, BothHeld, both_named}
use Rattle.text.proofs.Rows.{all_read}
use Rattle.text.proofs.read.pairs.Goals as goal

pub returns : goal.returns
returns g c =
    IfOk-weaker c.each.result _ _
    (λ o h. all_read (both_mean g.F.Ring.value) (BothHeld g.F.Ring.canonical) (both_named (λ n. g.F.Ring.value (g.F.Field.at n))) pair_of c.args.words.now o h (λ w r says. search rules))
    c.each.ensures
