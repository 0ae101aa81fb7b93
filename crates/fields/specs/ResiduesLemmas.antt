-- The residues modulo q are a commutative ring, and their codes are the numbers below q.
use Rattle.std.specs.Prelude.{◌≡◌, ℕ, zero, suc, ◌+◌, ◌-◌, ◌*◌, ◌%◌, ◌^◌, ◌<◌, ◌≤◌, true, cond, nat_lt, refl}
use Rattle.std.proofs.Common.{sym, ap, ◌∙◌, add_assoc, add_comm, add-zero, mul_assoc, mul_comm, mul-one, mul-add, mod-lt, mod-eq_of_lt, pow-suc, one-add, arith}
use Rattle.std.proofs.Math.Bool.{Bool-set}
use mathlib.Core.HLevel.{is_prop→PathP}
use Rattle.std.proofs.Math.Nat.{mod_self, zero-mod, mod-mod, mod-add-mod, add-mod-mod, add-mod, pow-zero}
use Rattle.std.proofs.lemmas.Nat.{mul-mod}
use Rattle.std.proofs.lemmas.Bool.{ltb-true, eqb-true, eq-eqb, lt-ltb, le-ltb, cond-true, cond-false}
use Rattle.algebra.specs.Rings.{Lawful, power, number}
use Rattle.algebra.specs.Fields.{Coded}
use Rattle.fields.specs.Residues.{Residue, rest, residues}

-- equal codes, equal residues
pub residue_same : {q : ℕ} (x y : Residue q) → x.code ≡ y.code → x ≡ y
residue_same {q} x y p = λ i. record {
  code = p i;
  below = is_prop→PathP (λ j. nat_lt (p j) q ≡ true) (λ j. Bool-set (nat_lt (p j) q) true) x.below y.below i;
}

-- a factor can be taken by its rest
pub rest-mul : (a b m : ℕ) → (a % m * b) % m ≡ (a * b) % m
rest-mul a b m = mul-mod (a % m) b m ∙ ap (λ (x : ℕ). (x * (b % m)) % m) (mod-mod a m) ∙ sym (mul-mod a b m)

-- and so can the other
pub mul-rest : (a b m : ℕ) → (a * (b % m)) % m ≡ (a * b) % m
mul-rest a b m = mul-mod a (b % m) m ∙ ap (λ (x : ℕ). (a % m * x) % m) (mod-mod b m) ∙ sym (mul-mod a b m)

-- a code is below q
pub code_below : {q : ℕ} (x : Residue q) → x.code < q
code_below {q} x = ltb-true x.code q x.below

module _ (q : ℕ) (pos : 0 < q) where
  -- a residue is the rest of its code
  pub code_rest : (x : Residue q) → x ≡ rest q pos x.code
  code_rest x = residue_same x (rest q pos x.code) (sym (mod-eq_of_lt (code_below x)))

  -- numbers with one rest mean one residue
  pub rest_same : (m n : ℕ) → m % q ≡ n % q → rest q pos m ≡ rest q pos n
  rest_same m n e = residue_same (rest q pos m) (rest q pos n) e

  -- the laws of a commutative ring
  pub lawful : Lawful (residues q pos)
  lawful = record {
    plus_assoc = λ x y z. rest_same _ _ (mod-add-mod (x.code + y.code) q z.code ∙ ap (λ (n : ℕ). n % q) (add_assoc x.code y.code z.code) ∙ sym (add-mod-mod x.code (y.code + z.code) q));
    plus_comm = λ x y. rest_same _ _ (ap (λ (n : ℕ). n % q) (add_comm x.code y.code));
    plus-nought = λ x. residue_same _ x (add-mod-mod x.code 0 q ∙ ap (λ (n : ℕ). n % q) (add-zero x.code) ∙ mod-eq_of_lt (code_below x));
    plus-minus = λ x. rest_same _ _ (add-mod-mod x.code (q - x.code) q ∙ ap (λ (n : ℕ). n % q) (whole x) ∙ mod_self q ∙ sym (zero-mod q));
    times_assoc = λ x y z. rest_same _ _ (rest-mul (x.code * y.code) z.code q ∙ ap (λ (n : ℕ). n % q) (mul_assoc x.code y.code z.code) ∙ sym (mul-rest x.code (y.code * z.code) q));
    times_comm = λ x y. rest_same _ _ (ap (λ (n : ℕ). n % q) (mul_comm x.code y.code));
    times-unit = λ x. residue_same _ x (mul-rest x.code 1 q ∙ ap (λ (n : ℕ). n % q) (mul-one x.code) ∙ mod-eq_of_lt (code_below x));
    times-plus = λ x y z. rest_same _ _ (mul-rest x.code (y.code + z.code) q ∙ ap (λ (n : ℕ). n % q) (mul-add x.code y.code z.code)
        ∙ sym (mod-add-mod (x.code * y.code) q (x.code * z.code)) ∙ sym (add-mod-mod ((x.code * y.code) % q) (x.code * z.code) q));
    alike_same = λ x y e. residue_same x y (eqb-true x.code y.code e);
    same_alike = λ x y e. eq-eqb x.code y.code (ap (λ t. t.code) e);
  }
    where
      whole : (x : Residue q) → x.code + (q - x.code) ≡ q
      whole x = let h : x.code < q = code_below x in omega arith

  -- the sum of n ones is the rest of n
  pub number-rest : (n : ℕ) → number (residues q pos) n ≡ rest q pos n
  number-rest zero = refl
  number-rest (suc n) = rest_same _ _
      (ap (λ (x : Residue q). (1 % q + x.code) % q) (number-rest n) ∙ mod-add-mod 1 q (n % q) ∙ add-mod-mod 1 n q ∙ ap (λ (m : ℕ). m % q) (one-add n))

  -- the code of a power is the rest of the code's power
  pub power_code : (x : Residue q) (n : ℕ) → (power (residues q pos) x n).code ≡ (x.code ^ n) % q
  power_code x zero = sym (ap (λ (m : ℕ). m % q) (pow-zero x.code))
  power_code x (suc n) = ap (λ (m : ℕ). (x.code * m) % q) (power_code x n) ∙ mul-rest x.code (x.code ^ n) q
      ∙ ap (λ (m : ℕ). m % q) (mul_comm x.code (x.code ^ n) ∙ sym (pow-suc x.code n))

  -- a code means itself below q, and zero past it
  abbrev pub told : ℕ → Residue q
  told c = rest q pos (cond (nat_lt c q) c 0)

  -- below q
  pub told_below : (c : ℕ) → c < q → told c ≡ rest q pos c
  told_below c h = ap (rest q pos) (cond-true (nat_lt c q) c 0 (lt-ltb c q h))

  -- past q
  pub told-past : (c : ℕ) → q ≤ c → told c ≡ rest q pos 0
  told-past c h = ap (rest q pos) (cond-false (nat_lt c q) c 0 (le-ltb c q h))

  -- the code of what a code means
  pub told_code : (c : ℕ) → c < q → (told c).code ≡ c
  told_code c h = ap (λ (x : Residue q). x.code) (told_below c h) ∙ mod-eq_of_lt h

  -- a code that means n is the rest of n
  pub code_told : (c n : ℕ) → c < q → told c ≡ rest q pos n → c ≡ n % q
  code_told c n h e = sym (told_code c h) ∙ ap (λ (x : Residue q). x.code) e

  -- each code below q has one element, and each element one code
  pub coded : 1 < q → Coded (residues q pos) q told
  coded big = record {
    nought = told_below 0 pos;
    unit = told_below 1 big;
    past = told-past;
    once = λ b c hb hc e. sym (told_code b hb) ∙ ap (λ (x : Residue q). x.code) e ∙ told_code c hc;
    every = λ x. (x.code, code_below x, told_below x.code (code_below x) ∙ sym (code_rest x));
    ones = λ n h. number-rest n ∙ sym (told_below n h);
    all_ones = number-rest q ∙ rest_same q 0 (mod_self q ∙ sym (zero-mod q));
  }

  -- a number r that is held as the rest of n is below q, and means n
  pub held_below : (r n : ℕ) → r ≡ n % q → r < q
  held_below r n e = rw e (mod-lt n pos)

  pub held_rest : (r n : ℕ) → r ≡ n % q → rest q pos r ≡ rest q pos n
  held_rest r n e = rest_same r n (ap (λ (m : ℕ). m % q) e ∙ mod-mod n q)

  -- the rest of a sum, and of a product
  pub rest-plus : (a b : ℕ) → rest q pos (a + b) ≡ (residues q pos).plus (rest q pos a) (rest q pos b)
  rest-plus a b = rest_same (a + b) (a % q + b % q) (add-mod a b q)

  pub rest-times : (a b : ℕ) → rest q pos (a * b) ≡ (residues q pos).times (rest q pos a) (rest q pos b)
  rest-times a b = rest_same (a * b) (a % q * (b % q)) (mul-mod a b q)

  -- what is below q is its own rest
  pub held_once : (a b : ℕ) → a < q → b < q → rest q pos a ≡ rest q pos b → a ≡ b
  held_once a b ha hb e = sym (mod-eq_of_lt ha) ∙ ap (λ (x : Residue q). x.code) e ∙ mod-eq_of_lt hb
