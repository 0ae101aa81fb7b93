use Rattle.std.proofs.Common.{◌≡◌, rules, ◌∙◌, vec_items}
use Rattle.std.proofs.lemmas.Result.{IfOk-weaker}
use Rattle.std.proofs.lemmas.List.{map-id}
use Rattle.text.proofs.Made.{collected}
use Rattle.text.proofs.Rows.{named_zip}
use Rattle.text.proofs.read.codes.Goals as goal

pub returns : goal.returns
returns c =
    IfOk-weaker c.collect.result _ _ (λ v z. (named_zip (λ x. x.0) (λ x. Unit {0}) (λ n. n) c.args.numbers.now (vec_items v) z).means ∙ map-id c.args.numbers.now)
    (collected (λ n x. (x.0 ≡ n) × Unit {0}) c.map.result c.collect.result c.collect.ensures.ran (cc) c.map.ensures.closure (λ x y q k. search rules))
