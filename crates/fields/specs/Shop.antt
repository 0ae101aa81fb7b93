-- The field of 469762049 elements: the residues modulo that number, which is 7 * 2 ^ 26 + 1.
use Rattle.std.specs.Prelude.{ℕ, ◌<◌}
use Rattle.std.proofs.Common.{lit<}
use Rattle.algebra.specs.Rings.{Ops}
use Rattle.fields.specs.Residues.{Residue, rest, residues}

-- shut, so that no proof counts to it
unfoldable pub shop_order : ℕ
shop_order = 469762049

pub shop_pos : 0 < shop_order
unfolding shop_order
shop_pos = lit< tt

abbrev pub shop : Ops
shop = residues shop_order shop_pos

-- the primitive element
abbrev pub three : Residue shop_order
three = rest shop_order shop_pos 3
