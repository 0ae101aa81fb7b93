-- The residues modulo q: the whole numbers below q, added and multiplied by their rests.
use Rattle.std.specs.Prelude.{◌≡◌, ℕ, ◌+◌, ◌-◌, ◌*◌, ◌%◌, ◌<◌, true, ◌==◌, nat_lt}
use Rattle.std.proofs.lemmas.Bool.{lt-ltb}
use Rattle.std.proofs.Common.{mod-lt}
use Rattle.algebra.specs.Rings.{Ops}

pub record Residue (q : ℕ) : Type 0 where
  pub code : ℕ
  pub below : nat_lt code q ≡ true

-- the rest of n
abbrev pub rest : (q : ℕ) → 0 < q → ℕ → Residue q
rest q pos n = record { code = n % q; below = lt-ltb (n % q) q (mod-lt n pos) }

abbrev pub residues : (q : ℕ) → 0 < q → Ops
residues q pos = record {
  V = Residue q;
  nought = rest q pos 0;
  unit = rest q pos 1;
  plus = λ x y. rest q pos (x.code + y.code);
  times = λ x y. rest q pos (x.code * y.code);
  minus = λ x. rest q pos (q - x.code);
  alike = λ x y. (x.code == y.code);
}
