use Rattle.std.proofs.Common.{◌+◌, ◌∙◌}
use Rattle.fields.specs.Shop.{shop_order, shop_pos}
use Rattle.fields.specs.ResiduesLemmas.{held_rest, rest-plus}
use Rattle.fields.proofs.residue.ResidueRing.add.Goals as goal

pub returns-clause-means : goal.returns-clause-means
returns-clause-means c =
    let a = c.args.self.code.0 in
    let b = c.args.other.code.0 in
    held_rest shop_order shop_pos c.from.result.code.0 (a + b) c.from.ensures ∙ rest-plus shop_order shop_pos a b
