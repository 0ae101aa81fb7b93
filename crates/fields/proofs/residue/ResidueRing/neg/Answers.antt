use Rattle.std.proofs.Common.{◌≡◌, ◌-◌, ◌%◌, sym, ap₂, ◌∙◌}
use Rattle.fields.specs.Shop.{shop_order, shop_pos}
use Rattle.fields.specs.ShopLemmas.{shop_is}
use Rattle.fields.specs.ResiduesLemmas.{held_rest, code_told}
use Rattle.fields.proofs.residue.ResidueRing.neg.Goals as goal

pub returns-clause-means : goal.returns-clause-means
returns-clause-means c =
    let a = c.args.self.code.0 in
    let n = shop_order - a % shop_order in
    let r = c.from.result.code.0 in
    let code = code_told shop_order shop_pos c.to_code.result.0 a c.to_code.ensures.below c.to_code.ensures.means in
    let e : r ≡ n % shop_order = c.from.ensures ∙ ap₂ (λ x y. (x - y) % shop_order) (sym shop_is) code in
    held_rest shop_order shop_pos r n e
