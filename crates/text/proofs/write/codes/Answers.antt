use Rattle.std.proofs.Common.{ℕ, ◌<◌, vec_items, string_bytes, decimal, refl, ◌∙◌, ap, rules}
use Rattle.std.specs.List.{flat_map}
use Rattle.std.proofs.lemmas.Result.{IfOk-weaker}
use Rattle.text.specs.Lines.{code_text}
use Rattle.text.proofs.Made.{gathered}
use Rattle.text.proofs.Rows.{NamedIn, shown_zip}
use Rattle.text.proofs.write.codes.Goals as goal

pub returns : goal.returns
returns g c =
    let value = g.F.Ring.value in
    let of : ℕ → g.F.Ring.ring.V = λ n. value (g.F.Field.at n) in
    let named = gathered (NamedIn value of (λ n. n < g.F.Field.order) code_text (λ n. n)) c.map.result c.in_ok-codes.codes c.in_ok-codes.ensures.ran (cc) c.map.ensures.closure (λ x y q k. search rules) in
    let shown = IfOk-weaker c.row.result _ _
    (λ s shows. shown_zip value of (λ n. n < g.F.Field.order) code_text (λ n. n) c.args.elements.now (vec_items c.in_ok-codes.codes) (string_bytes s) named
    (shows decimal (λ k d l. refl) ∙ ap (flat_map code_text) c.deref.ensures.value))
    c.row.ensures in
    search (rules, shown)
