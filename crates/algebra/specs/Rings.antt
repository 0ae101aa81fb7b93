-- A ring: its operations, their laws, and what is built of them.
use Rattle.std.specs.Prelude.{◌≡◌, ℕ, zero, suc, Bool, true}

-- a carrier of values with the operations, and no laws yet; `alike` is the test of equality
pub record Ops : Type 1 where
  pub V : Type 0
  pub nought : V
  pub unit : V
  pub plus : V → V → V
  pub times : V → V → V
  pub minus : V → V
  pub alike : V → V → Bool

-- the laws of a commutative ring, and that the test says equal exactly of equals
pub record Lawful (o : Ops) : Type 0 where
  pub plus_assoc : (x y z : o.V) → o.plus (o.plus x y) z ≡ o.plus x (o.plus y z)
  pub plus_comm : (x y : o.V) → o.plus x y ≡ o.plus y x
  pub plus-nought : (x : o.V) → o.plus x o.nought ≡ x
  pub plus-minus : (x : o.V) → o.plus x (o.minus x) ≡ o.nought
  pub times_assoc : (x y z : o.V) → o.times (o.times x y) z ≡ o.times x (o.times y z)
  pub times_comm : (x y : o.V) → o.times x y ≡ o.times y x
  pub times-unit : (x : o.V) → o.times x o.unit ≡ x
  pub times-plus : (x y z : o.V) → o.times x (o.plus y z) ≡ o.plus (o.times x y) (o.times x z)
  pub alike_same : (x y : o.V) → o.alike x y ≡ true → x ≡ y
  pub same_alike : (x y : o.V) → x ≡ y → o.alike x y ≡ true

-- a to the power k
abbrev pub power : (o : Ops) → o.V → ℕ → o.V
power o a zero = o.unit
power o a (suc k) = o.times a (power o a k)

-- the sum of n ones, for which the whole number n stands
abbrev pub number : (o : Ops) → ℕ → o.V
number o zero = o.nought
number o (suc n) = o.plus o.unit (number o n)

-- a to the power k too, but shut, so that no proof counts to a large k
unfoldable pub raised : (o : Ops) → o.V → ℕ → o.V
raised o a k = power o a k
