-- What an accepted row of codes is, and the figures of the search.
use Rattle.std.proofs.Common.{◌≡◌, ℕ, zero, suc, ◌+◌, ◌-◌, ◌*◌, ◌/◌, ◌^◌, ◌<◌, ◌≤◌, true, false, cond, leb, ◌≢◌, List, [], ◌∷◌, length, get_or, sym, refl, ap, ◌∙◌, ap₂, mul-le-mul_right, add-mul, one-mul, add-one, arith}
use native.Mathlib.Nat.{mul-div_cancel_left}
use Rattle.std.proofs.lemmas.List.{get_or-map}
use Rattle.std.proofs.lemmas.Bool.{leb-false}
use Rattle.std.proofs.lemmas.Bool.Decides.{nat_tests}
use Rattle.algebra.specs.Rings.{Lawful}
use Rattle.algebra.specs.Fields.{IsField}
use Rattle.algebra.specs.Polynomials.{eval, coefficient}
use Rattle.algebra.specs.Refusals.{accepted}
use Rattle.algebra.specs.declared.code.Code.{Code}
use Rattle.algebra.specs.declared.ring.Ring.{Ghosts as RingOf}
use Rattle.algebra.specs.declared.field.Field.{Ghosts as FieldOf}
use Rattle.algebra.specs.RingsLemmas.{nought-times}
use Rattle.algebra.proofs.Fields.{two_power_below}
use Rattle.roots.specs.Codes.{element, polynomial, past, top, coded}
use Rattle.roots.specs.Roots.{Root}
use Rattle.roots.proofs.Towers.{twice_power}
use Rattle.roots.proofs.SearchLaws.{element_nonzero}

pub record Good (q : ℕ) (cs : List Code) : Type 0 where
  pub some : 0 < length cs
  pub few : length cs ≤ 257
  pub codes : length cs ≤ past q cs
  pub top_code : top cs ≡ 0 → ⊥

pub good_from : (q : ℕ) (cs : List Code) → coded q cs ≡ accepted → Good q cs
good_from q cs e = let z : (coded q cs).0 ≡ 0 = ap (λ t. t.0) e in record { some = grind (arith, nat_tests); few = grind (arith, nat_tests); codes = grind (arith, nat_tests); top_code = λ h. grind (arith, nat_tests) }

abbrev pub zero_code : Code
zero_code = record { 0 = 0 }

code_below : (q : ℕ) (cs : List Code) → length cs ≤ past q cs → (i : ℕ) (d : Code) → i < length cs → (get_or cs i d).0 < q
code_below q [] h i d l = let none : ⊥ = omega arith in absurd none
code_below q (c ∷ cs) h i d l = go (leb q c.0) refl i l h (code_below q cs)
  where
    go : (b : _) → leb q c.0 ≡ b → (i : ℕ) → i < suc (length cs) → suc (length cs) ≤ cond b 0 (suc (past q cs))
        → (length cs ≤ past q cs → (i : ℕ) (d : Code) → i < length cs → (get_or cs i d).0 < q) → (get_or (c ∷ cs) i d).0 < q
    go true e i l h rec = let none : ⊥ = omega arith in absurd none
    go false e zero l h rec = leb-false q c.0 e
    go false e (suc i) l h rec = rec (omega arith) i d (omega arith)

module _ {S : Type 0} (R : RingOf S) (F : FieldOf S) (L : Lawful R.ring)
    (I : IsField R.ring F.order F.odd F.levels (λ c. R.value (F.at c)) (R.value F.zeta)) (cs : List Code) (g : Good F.order cs) where
  place : (i : ℕ) → i < length cs → coefficient R.ring (polynomial R F cs) i ≡ element R F (get_or cs i zero_code).0
  place i h = get_or-map (λ x. element R F x.0) cs i zero_code R.ring.nought h

  pub top_nonzero : coefficient R.ring (polynomial R F cs) (length cs - 1) ≢ R.ring.nought
  top_nonzero z =
      let h : length cs - 1 < length cs = omega (arith, g.some) in
      element_nonzero R F L I (polynomial R F cs) (get_or cs (length cs - 1) zero_code).0 (code_below F.order cs g.codes (length cs - 1) zero_code h)
      (λ e. g.top_code (get_or-map (λ x. x.0) cs (length cs - 1) zero_code 0 h ∙ e)) (sym (place (length cs - 1) h) ∙ z)

  value-at-zero : (f : List R.ring.V) → eval R.ring f R.ring.nought ≡ coefficient R.ring f 0
  value-at-zero [] = refl
  value-at-zero (a ∷ f) = ap (R.ring.plus a) (nought-times R.ring L (eval R.ring f R.ring.nought)) ∙ L.plus-nought a

  constant : eval R.ring (polynomial R F cs) (element R F 0) ≡ element R F (get_or cs 0 zero_code).0
  constant = ap (eval R.ring (polynomial R F cs)) I.coded.nought ∙ value-at-zero (polynomial R F cs) ∙ place 0 g.some

  -- zero is a root exactly where the first code is 0
  pub zero_root : (get_or cs 0 zero_code).0 ≡ 0 → Root R F (polynomial R F cs) 0
  zero_root e = (omega (arith, I.bounded.low), constant ∙ ap (element R F) e ∙ I.coded.nought)

  pub no_zero_root : ((get_or cs 0 zero_code).0 ≡ 0 → ⊥) → Root R F (polynomial R F cs) 0 → ⊥
  no_zero_root ne r = element_nonzero R F L I (polynomial R F cs) (get_or cs 0 zero_code).0 (code_below F.order cs g.codes 0 zero_code g.some) ne (sym constant ∙ r.1)

  -- the exponents step by two to the power of the levels
  step_is : (F.order - 1) / F.odd ≡ 2 ^ F.levels
  step_is =
      let pos : 0 < F.odd = omega (arith, I.tower.odd) in
      let all : F.order - 1 ≡ F.odd * 2 ^ F.levels = omega (arith, I.tower.splits) in
      ap (λ n. n / F.odd) all ∙ mul-div_cancel_left (2 ^ F.levels) pos

  pub exponent_is : (q m i : ℕ) → q ≡ F.order → m ≡ F.odd → i * ((q - 1) / m) ≡ i * 2 ^ F.levels
  exponent_is q m i eq em = ap₂ (λ a b. i * ((a - 1) / b)) eq em ∙ ap (λ n. i * n) step_is

  -- room to count the trials
  pub trials_fit : (i t : ℕ) → i < F.odd → t ≤ i * 2 ^ (F.levels + 1) → t + 2 ^ (F.levels + 1) ≤ 2 ^ 63
  trials_fit i t h few =
      let P : ℕ = 2 ^ (F.levels + 1) in
      let le : i + 1 ≤ 4095 = omega (arith, I.tower.small) in
      let low : 2 ^ F.levels < F.order = two_power_below R.ring L F.order F.odd F.levels (λ c. R.value (F.at c)) (R.value F.zeta) I F.levels (omega arith) in
      omega (arith, I.bounded.high, low, ap (λ n. 2 ^ n) (add-one F.levels), twice_power F.levels, mul-le-mul_right (2 ^ (F.levels + 1)) le, add-mul i 1 (2 ^ (F.levels + 1)), one-mul (2 ^ (F.levels + 1)))
