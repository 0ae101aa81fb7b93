use Rattle.std.proofs.Common.{◌≡◌, ℕ, ◌%◌, sym, ap, ◌∙◌}
use Rattle.fields.specs.Shop.{shop_order, shop_pos}
use Rattle.fields.specs.ResiduesLemmas.{told_below, held_below, held_rest}
use Rattle.fields.specs.ShopLemmas.{shop_is}
use Rattle.fields.proofs.residue.ResidueField.to_code.Goals as goal

pub returns-clause-means : goal.returns-clause-means
returns-clause-means c =
    let a = c.args.self.code.0 in
    let r = a % 469762049 in
    let e : r ≡ a % shop_order = ap (λ (n : ℕ). a % n) (sym shop_is) in
    told_below shop_order shop_pos r (held_below shop_order shop_pos r a e) ∙ held_rest shop_order shop_pos r a e
