use Rattle.std.proofs.Common.{ℕ, ◌<◌, vec_items, string_bytes, decimal, ◌∷◌, ◌++◌, refl, ◌∙◌, ap, rules}
use Rattle.std.specs.List.{flat_map}
use Rattle.std.proofs.lemmas.Result.{IfOk-weaker}
use Rattle.text.specs.Elements.{both_mean, both_named}
use Rattle.text.specs.Lines.{pair_text}
use Rattle.text.specs.declared.write.Pair.{Pair}
use Rattle.text.proofs.Made.{gathered}
use Rattle.text.proofs.Rows.{NamedIn, shown_zip}
use Rattle.text.proofs.write.pairs.Goals as goal

pub returns : goal.returns
returns g c =
    let value = both_mean g.F.Ring.value in
    let of = both_named (λ n. g.F.Ring.value (g.F.Field.at n)) in
    let name : Pair → ℕ × ℕ = λ p. (p.re, p.eps) in
    let named = gathered (NamedIn value of (λ p. (p.0 < g.F.Field.order) × (p.1 < g.F.Field.order)) pair_text name) c.map.result c.in_ok-pairs.pairs c.in_ok-pairs.ensures.ran (cc) c.map.ensures.closure (λ x y q k. search rules) in
    IfOk-weaker c.row.result _ _
    (λ s shows. shown_zip value of (λ p. (p.0 < g.F.Field.order) × (p.1 < g.F.Field.order)) pair_text name c.args.duals.now (vec_items c.in_ok-pairs.pairs) (string_bytes s) named
    (shows (λ p. decimal p.re ++ (58 ∷ decimal p.eps)) (λ k d l. refl) ∙ ap (flat_map (λ p. pair_text (name p))) c.deref.ensures.value))
    c.row.ensures
