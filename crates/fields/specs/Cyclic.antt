-- An element of a ring whose powers are one just at the multiples of N has N powers, all other than zero.
-- Among the residues modulo q, with N = q - 1, they are all of the others, and each of those has an inverse.
use Rattle.std.specs.Prelude.{◌≡◌, ℕ, zero, suc, ◌+◌, ◌-◌, ◌*◌, ◌%◌, ◌<◌, ◌≤◌, ◌≢◌}
use Rattle.std.proofs.Common.{sym, ap, ◌∙◌, mod-eq_of_lt, arith}
use Rattle.std.proofs.Math.Nat.{zero-mod}
use Rattle.algebra.specs.Rings.{Ops, Lawful, power}
use Rattle.algebra.specs.Fields.{Inverse, Invertible, Primitive}
use Rattle.algebra.specs.RingsLemmas.{nought-times, power-add}
use Rattle.fields.specs.Residues.{Residue, residues}
use Rattle.fields.specs.ResiduesLemmas.{residue_same, code_below, lawful}
use Rattle.fields.specs.Orders.{power_of_unit}
use Rattle.fields.specs.Pigeonhole.{onto}

-- a multiple of N between 0 and 2 N is N
single : (N a s : ℕ) → s ≡ a * N → 0 < s → s < 2 * N → s ≡ N
single N zero s e l h = omega arith
single N (suc zero) s e l h = omega arith
single N (suc (suc a)) s e l h = omega arith

module _ (o : Ops) (L : Lawful o) where
  -- a power of zero is zero
  pub nought-power : (n : ℕ) → 0 < n → power o o.nought n ≡ o.nought
  nought-power zero h = absurd (omega arith)
  nought-power (suc n) h = nought-times o L (power o o.nought n)

module _ (o : Ops) (L : Lawful o) (g : o.V) (N : ℕ) (some : 0 < N) (apart : o.unit ≢ o.nought)
    (whole : power o g N ≡ o.unit) (least : (e : ℕ) → power o g e ≡ o.unit → (a : ℕ) × (e ≡ a * N)) where
  -- no power is zero
  pub powers_nonzero : (e : ℕ) → power o g e ≢ o.nought
  powers_nonzero e z = apart (sym (power_of_unit o L g e N whole) ∙ ap (λ t. power o t N) z ∙ nought-power o L N some)

  -- powers below N differ
  pub powers_once : (d e : ℕ) → d < N → e < N → power o g d ≡ power o g e → d ≡ e
  powers_once d e hd he same =
      let t = least (e + (N - d)) back in
      let s : e + (N - d) ≡ N = single N t.0 (e + (N - d)) t.1 (omega arith) (omega arith) in
      omega arith
    where
      back : power o g (e + (N - d)) ≡ o.unit
      back = power-add o L g e (N - d) ∙ ap (λ t. o.times t (power o g (N - d))) (sym same) ∙ sym (power-add o L g d (N - d))
          ∙ ap (power o g) (let q : d + (N - d) ≡ N = omega arith in q) ∙ whole

module _ (q : ℕ) (pos : 0 < q) (big : 3 ≤ q) (g : Residue q) (whole : power (residues q pos) g (q - 1) ≡ (residues q pos).unit)
    (least : (e : ℕ) → power (residues q pos) g e ≡ (residues q pos).unit → (a : ℕ) × (e ≡ a * (q - 1))) where
  abbrev o : Ops
  o = residues q pos

  -- one is not zero
  apart : o.unit ≢ o.nought
  apart e =
      let z : 1 % q ≡ 0 % q = ap (λ (x : Residue q). x.code) e in
      let a : 1 % q ≡ 1 = mod-eq_of_lt (omega arith) in
      let b = zero-mod q in
      omega arith

  -- only zero has the code zero
  code_nonzero : (x : Residue q) → x ≢ o.nought → x.code ≢ 0
  code_nonzero x h e = h (residue_same x o.nought (e ∙ sym (zero-mod q)))

  -- the same for the powers of g
  nonzero : (e : ℕ) → power o g e ≢ o.nought
  nonzero = powers_nonzero o (lawful q pos) g (q - 1) (omega arith) apart whole least

  once : (d e : ℕ) → d < q - 1 → e < q - 1 → power o g d ≡ power o g e → d ≡ e
  once = powers_once o (lawful q pos) g (q - 1) (omega arith) apart whole least

  -- the code of a power, less one
  abbrev place : ℕ → ℕ
  place e = (power o g e).code - 1

  place_into : (e : ℕ) → e < q - 1 → place e < q - 1
  place_into e h =
      let l : (power o g e).code < q = code_below (power o g e) in
      let n : (power o g e).code ≢ 0 = code_nonzero (power o g e) (nonzero e) in
      omega arith

  place_once : (d e : ℕ) → d < q - 1 → e < q - 1 → place d ≡ place e → d ≡ e
  place_once d e hd he same =
      let m : (power o g d).code ≢ 0 = code_nonzero (power o g d) (nonzero d) in
      let n : (power o g e).code ≢ 0 = code_nonzero (power o g e) (nonzero e) in
      once d e hd he (residue_same (power o g d) (power o g e) (omega arith))

  -- by the pigeonhole, each residue other than zero is a power
  every : (x : Residue q) → x ≢ o.nought → (e : ℕ) × (e < q - 1) × (power o g e ≡ x)
  every x h =
      let c : x.code ≢ 0 = code_nonzero x h in
      let l : x.code < q = code_below x in
      let t = onto (q - 1) place place_into place_once (x.code - 1) (omega arith) in
      let n : (power o g t.0).code ≢ 0 = code_nonzero (power o g t.0) (nonzero t.0) in
      let p : place t.0 ≡ x.code - 1 = t.2 in
      (t.0, t.1, residue_same (power o g t.0) x (omega arith))

  -- g is a primitive element
  pub primitive : Primitive (residues q pos) q g
  primitive = record { nonzero = λ e h. nonzero e; once = once; every = every }

  -- the power q - 2 is the inverse
  pub inverse_power : (x : Residue q) → Inverse (residues q pos) x (power (residues q pos) x (q - 2))
  inverse_power x = record {
    of_nought = λ e. ap (λ t. power o t (q - 2)) e ∙ nought-power o (lawful q pos) (q - 2) (omega arith);
    of_other = λ h. let t = every x h in
        ap (power o x) (let n : suc (q - 2) ≡ q - 1 = omega arith in n) ∙ ap (λ r. power o r (q - 1)) (sym t.2) ∙ power_of_unit o (lawful q pos) g t.0 (q - 1) whole;
  }

  -- so each residue has an inverse
  pub invertible : Invertible (residues q pos)
  invertible x = (power o x (q - 2), inverse_power x)
