-- What makes a ring a finite field with codes and a tower of squarings.
-- q is its order, `at c` the element of the code c, z the primitive element, and q - 1 is M times two to the power m.
use Rattle.std.specs.Prelude.{◌≡◌, ℕ, ◌+◌, ◌-◌, ◌*◌, ◌%◌, ◌^◌, ◌<◌, ◌≤◌, ◌≢◌}
use Rattle.algebra.specs.Rings.{Ops, power, number}

pub record Bounded (q : ℕ) : Type 0 where
  pub low : 5 ≤ q
  pub high : q < 2 ^ 31

pub record Tower (q M m : ℕ) : Type 0 where
  pub splits : q ≡ M * 2 ^ m + 1
  pub odd : M % 2 ≡ 1
  pub small : M ≤ 4095
  pub tall : 2 ≤ m

-- each code below q has one element, and each element one such code; the sum of n ones has the code n
pub record Coded (o : Ops) (q : ℕ) (at : ℕ → o.V) : Type 0 where
  pub nought : at 0 ≡ o.nought
  pub unit : at 1 ≡ o.unit
  pub past : (c : ℕ) → q ≤ c → at c ≡ o.nought
  pub once : (b c : ℕ) → b < q → c < q → at b ≡ at c → b ≡ c
  pub every : (x : o.V) → (c : ℕ) × (c < q) × (at c ≡ x)
  pub ones : (n : ℕ) → n < q → number o n ≡ at n
  pub all_ones : number o q ≡ o.nought

-- y is the inverse of x, and zero that of zero
pub record Inverse (o : Ops) (x y : o.V) : Type 0 where
  pub of_nought : x ≡ o.nought → y ≡ o.nought
  pub of_other : x ≢ o.nought → o.times x y ≡ o.unit

abbrev pub Invertible : Ops → Type 0
Invertible o = (x : o.V) → (y : o.V) × Inverse o x y

-- the powers of z from 0 to q - 2 are the elements other than zero, each once
pub record Primitive (o : Ops) (q : ℕ) (z : o.V) : Type 0 where
  pub nonzero : (e : ℕ) → e < q - 1 → power o z e ≢ o.nought
  pub once : (d e : ℕ) → d < q - 1 → e < q - 1 → power o z d ≡ power o z e → d ≡ e
  pub every : (x : o.V) → x ≢ o.nought → (e : ℕ) × (e < q - 1) × (power o z e ≡ x)

pub record IsField (o : Ops) (q M m : ℕ) (at : ℕ → o.V) (z : o.V) : Type 0 where
  pub bounded : Bounded q
  pub tower : Tower q M m
  pub coded : Coded o q at
  pub invertible : Invertible o
  pub primitive : Primitive o q z
