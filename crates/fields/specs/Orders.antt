-- When a power of an element of a ring is one.
use Rattle.std.specs.Prelude.{◌≡◌, ℕ, zero, suc, ◌*◌, ◌/◌, ◌%◌, ◌^◌, ◌<◌, ◌≢◌}
use Rattle.std.proofs.Common.{sym, ap, ◌∙◌, mul_comm, mul_assoc, pow-suc, div-add-mod', mod-lt, arith}
use Rattle.std.proofs.Math.Nat.{pow-zero}
use Rattle.algebra.specs.Rings.{Ops, Lawful, power}
use Rattle.algebra.specs.RingsLemmas.{unit-times, power-add, power-times, power-unit, power-mul, minus-times, minus_minus}

-- x squared k times over: its power to two to the k, reached in k steps
abbrev pub squares : (o : Ops) → o.V → ℕ → o.V
squares o x zero = x
squares o x (suc k) = squares o (o.times x x) k

module _ (o : Ops) (L : Lawful o) where
  -- the first power
  pub power_one : (x : o.V) → power o x 1 ≡ x
  power_one x = L.times-unit x

  -- a power of the square
  pub power_two : (x : o.V) (n : ℕ) → power o (o.times x x) n ≡ power o x (2 * n)
  power_two x n = power-times o L x x n ∙ sym (power-add o L x n n) ∙ ap (power o x) (omega arith)

  -- k squarings are the power to two to the k
  pub squares-power : (x : o.V) (k : ℕ) → squares o x k ≡ power o x (2 ^ k)
  squares-power x zero = sym (power_one x) ∙ ap (power o x) (sym (pow-zero 2))
  squares-power x (suc k) = squares-power (o.times x x) k ∙ power_two x (2 ^ k) ∙ ap (power o x) (mul_comm 2 (2 ^ k) ∙ sym (pow-suc 2 k))

  -- a power of an element whose power is one is one
  pub power-power : (x : o.V) (m n : ℕ) → power o x n ≡ o.unit → power o x (m * n) ≡ o.unit
  power-power x m n e = power-mul o L x m n ∙ ap (λ t. power o t m) e ∙ power-unit o L m

  -- powers of powers in either order
  pub power_swap : (x : o.V) (m n : ℕ) → power o (power o x m) n ≡ power o (power o x n) m
  power_swap x m n = sym (power-mul o L x n m) ∙ ap (power o x) (mul_comm n m) ∙ power-mul o L x m n

  -- where the power n of x is one, so is that of each power of x
  pub power_of_unit : (x : o.V) (m n : ℕ) → power o x n ≡ o.unit → power o (power o x m) n ≡ o.unit
  power_of_unit x m n e = power_swap x m n ∙ ap (λ t. power o t m) e ∙ power-unit o L m

  -- and that of x squared k times
  pub squares_of_unit : (x : o.V) (k n : ℕ) → power o x n ≡ o.unit → power o (squares o x k) n ≡ o.unit
  squares_of_unit x k n e = ap (λ t. power o t n) (squares-power x k) ∙ power_of_unit x (2 ^ k) n e

  -- the negative of one to an even power is one
  pub minus_even : (b : ℕ) → power o (o.minus o.unit) (2 * b) ≡ o.unit
  minus_even b = sym (power_two (o.minus o.unit) b) ∙ ap (λ t. power o t b) (minus-times o L o.unit (o.minus o.unit) ∙ ap o.minus (unit-times o L (o.minus o.unit)) ∙ minus_minus o L o.unit) ∙ power-unit o L b

  -- to an odd power it is itself
  pub minus_odd : (b : ℕ) → power o (o.minus o.unit) (suc (2 * b)) ≡ o.minus o.unit
  minus_odd b = ap (o.times (o.minus o.unit)) (minus_even b) ∙ L.times-unit (o.minus o.unit)

  -- the power n of g is one where n is m times two to the k, and the power m of z, which is g squared k times, is one
  pub whole-power : (g : o.V) (m k n : ℕ) → n ≡ m * 2 ^ k → (z : o.V) → squares o g k ≡ z → power o z m ≡ o.unit → power o g n ≡ o.unit
  whole-power g m k n e z s h = ap (power o g) e ∙ power-mul o L g m (2 ^ k) ∙ ap (λ t. power o t m) (sym (squares-power g k) ∙ s) ∙ h

  -- where y squared k times is the negative of one, the powers of y that are one are those to multiples of two to the k + 1
  pub halves : o.minus o.unit ≢ o.unit → (k : ℕ) (y : o.V) → squares o y k ≡ o.minus o.unit
      → (e : ℕ) → power o y e ≡ o.unit → (a : ℕ) × (e ≡ a * 2 ^ suc k)
  halves apart zero y h e p = (e / 2, let r : e % 2 ≡ 0 = even in omega arith)
    where
      odd_is : e % 2 ≡ 1 → power o y e ≡ o.minus o.unit
      odd_is r = ap (λ t. power o t e) h ∙ ap (power o (o.minus o.unit)) (let q : e ≡ suc (2 * (e / 2)) = omega arith in q) ∙ minus_odd (e / 2)

      even : e % 2 ≡ 0
      even = let ne : e % 2 ≢ 1 = λ r. apart (sym (odd_is r) ∙ p) in omega arith
  halves apart (suc k) y h e p =
      let s = halves apart k (o.times y y) h e (power_two y e ∙ power-power y 2 e p) in
      let c = s.0 * 2 ^ k in
      let d : e ≡ 2 * c = s.1 ∙ ap (λ (n : ℕ). s.0 * n) (pow-suc 2 k) ∙ sym (mul_assoc s.0 (2 ^ k) 2) ∙ mul_comm c 2 in
      let t = halves apart k (o.times y y) h c (power_two y c ∙ ap (power o y) (sym d) ∙ p) in
      (t.0, d ∙ ap (λ (n : ℕ). 2 * n) t.1 ∙ mul_comm 2 (t.0 * 2 ^ suc k) ∙ mul_assoc t.0 (2 ^ suc k) 2 ∙ ap (λ (n : ℕ). t.0 * n) (sym (pow-suc 2 (suc k))))

  -- where no power of z to a number from 1 to m - 1 is one, and the power m is, the powers of z that are one are those to multiples of m
  pub multiples : (m : ℕ) → 0 < m → (z : o.V) → power o z m ≡ o.unit → ((r : ℕ) → 0 < r → r < m → power o z r ≢ o.unit)
      → (e : ℕ) → power o z e ≡ o.unit → e % m ≡ 0
  multiples m pos z whole none e p =
      let l : e % m < m = mod-lt e pos in
      let n : ¬ (0 < e % m) = λ h. none (e % m) h l left in
      omega arith
    where
      left : power o z (e % m) ≡ o.unit
      left = sym (unit-times o L (power o z (e % m))) ∙ ap (λ t. o.times t (power o z (e % m))) (sym (power-power z (e / m) m whole))
          ∙ sym (power-add o L z (e / m * m) (e % m)) ∙ ap (power o z) (div-add-mod' e m) ∙ p
