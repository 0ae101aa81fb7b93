use Rattle.std.proofs.Common.{eqb, ap₂, ◌∙◌}
use Rattle.fields.specs.Shop.{shop_order, shop_pos}
use Rattle.fields.specs.ResiduesLemmas.{code_told}
use Rattle.fields.proofs.residue.ResidueRing.same.Goals as goal

pub returns : goal.returns
returns c =
    let a = c.to_code.ensures in
    let b = c.to_code-2.ensures in
    c.eq.ensures ∙ ap₂ eqb (code_told shop_order shop_pos c.to_code.result.0 c.args.self.code.0 a.below a.means)
    (code_told shop_order shop_pos c.to_code-2.result.0 c.args.other.code.0 b.below b.means)
