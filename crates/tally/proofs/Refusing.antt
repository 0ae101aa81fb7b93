-- A refusal is no acceptance.
use Rattle.std.proofs.Common.{◌≡◌, false, eqb, arith}
use Rattle.algebra.specs.Refusals.{answer}
use Rattle.algebra.specs.declared.refusal.Refusal.{Refusal}

pub not_taken : (e : Refusal) → eqb (answer e).0 0 ≡ false
not_taken e = grind arith
