use Rattle.std.proofs.Common.{true, false, refl, ◌∙◌, arith}
use Rattle.std.proofs.lemmas.Str.Pattern.{starts_char}
use Rattle.std.proofs.lemmas.Bool.Decides.{not_from_Decides}
use Rattle.text.proofs.Numerals.{number_parsed, number-signed}
use Rattle.text.proofs.read.number.Goals as goal

pub returns-then-starts_with : goal.returns-then-starts_with
returns-then-starts_with c =
    let starts = starts_char 43 c.args.word.now true c.if-starts_with.ensures.cases (omega arith) (omega arith) in
    number-signed c.args.word.now (starts.0 refl)

pub returns-else-starts_with : goal.returns-else-starts_with
returns-else-starts_with c =
    let starts = starts_char 43 c.args.word.now false c.if-starts_with.ensures.cases (omega arith) (omega arith) in
    c.ok.ensures.value
    ∙ number_parsed c.args.word.now c.parse.result c.parse.ensures.value.0 (not_from_Decides false starts refl)
