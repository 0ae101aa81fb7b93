use Rattle.std.proofs.Common.{ℕ, ◌-◌, sym, ap, ◌∙◌, subst}
use Rattle.algebra.specs.Rings.{raised}
use Rattle.algebra.specs.Fields.{Inverse}
use Rattle.algebra.proofs.Raised.{raised-power}
use Rattle.fields.specs.Shop.{shop_order, shop_pos, shop}
use Rattle.fields.specs.Residues.{rest}
use Rattle.fields.specs.ShopLemmas.{shop_is, shop_inverse, shop_invertible}
use Rattle.fields.proofs.residue.ResidueField.inverse.Goals as goal

pub returns-clause-means : goal.returns-clause-means
returns-clause-means c =
    let x = rest shop_order shop_pos c.args.self.code.0 in
    let two = sym (raised-power shop x (shop_order - 2)) ∙ ap (λ (n : ℕ). raised shop x (n - 2)) shop_is in
    subst (Inverse shop x) (two ∙ sym c.power.ensures.means) (shop_inverse x)

pub returns-clause-invertible : goal.returns-clause-invertible
returns-clause-invertible c = shop_invertible
