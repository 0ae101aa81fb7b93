use Rattle.std.proofs.Common.{◌≡◌, ℕ, vec_items, rules}
use Rattle.std.proofs.lemmas.Result.{IfOk-weaker}
use Rattle.text.proofs.Made.{collected}
use Rattle.text.proofs.Rows.{named_zip}
use Rattle.text.proofs.read.elements.Goals as goal

pub returns : goal.returns
returns g c =
    let value = g.F.Ring.value in
    let of : ℕ → g.F.Ring.ring.V = λ n. value (g.F.Field.at n) in
    IfOk-weaker c.collect.result _ _ (λ v. named_zip value g.F.Ring.canonical of c.args.codes.now (vec_items v))
    (collected (λ n x. (value x ≡ of n) × g.F.Ring.canonical x) c.map.result c.collect.result c.collect.ensures.ran (cc) c.map.ensures.closure (λ x y q k. search rules))
