-- Laws that follow from those of a commutative ring.
use Rattle.std.specs.Prelude.{◌≡◌, ℕ, zero, suc, ◌+◌, ◌*◌, refl}
use Rattle.std.proofs.Common.{sym, ap, ◌∙◌, zero-add, suc-add, suc-mul, zero-mul}
use Rattle.algebra.specs.Rings.{Ops, Lawful, power, number}

module _ (o : Ops) (L : Lawful o) where
  pub plus_left : (x y z : o.V) → o.plus x (o.plus y z) ≡ o.plus y (o.plus x z)
  plus_left x y z = sym (L.plus_assoc x y z) ∙ ap (λ t. o.plus t z) (L.plus_comm x y) ∙ L.plus_assoc y x z

  pub times_left : (x y z : o.V) → o.times x (o.times y z) ≡ o.times y (o.times x z)
  times_left x y z = sym (L.times_assoc x y z) ∙ ap (λ t. o.times t z) (L.times_comm x y) ∙ L.times_assoc y x z

  pub nought-plus : (x : o.V) → o.plus o.nought x ≡ x
  nought-plus x = L.plus_comm o.nought x ∙ L.plus-nought x

  pub unit-times : (x : o.V) → o.times o.unit x ≡ x
  unit-times x = L.times_comm o.unit x ∙ L.times-unit x

  pub plus_times : (x y z : o.V) → o.times (o.plus x y) z ≡ o.plus (o.times x z) (o.times y z)
  plus_times x y z = cc (L.times_comm (o.plus x y) z, L.times-plus z x y, L.times_comm z x, L.times_comm z y)

  -- what is added can be taken away on both sides
  pub plus_cancel : (x y z : o.V) → o.plus x y ≡ o.plus x z → y ≡ z
  plus_cancel x y z e =
      sym (gone y) ∙ ap (λ t. o.plus (o.minus x) t) e ∙ gone z
    where
      gone : (t : o.V) → o.plus (o.minus x) (o.plus x t) ≡ t
      gone t = cc (L.plus_assoc (o.minus x) x t, L.plus_comm (o.minus x) x, L.plus-minus x, nought-plus t)

  pub times-nought : (x : o.V) → o.times x o.nought ≡ o.nought
  times-nought x =
      let n = o.nought in
      let xn = o.times x n in
      plus_cancel xn xn n (sym (L.times-plus x n n) ∙ ap (o.times x) (L.plus-nought n) ∙ sym (L.plus-nought xn))

  pub nought-times : (x : o.V) → o.times o.nought x ≡ o.nought
  nought-times x = L.times_comm o.nought x ∙ times-nought x

  -- what adds to nought is the negative
  pub minus_unique : (x y : o.V) → o.plus x y ≡ o.nought → y ≡ o.minus x
  minus_unique x y e = plus_cancel x y (o.minus x) (e ∙ sym (L.plus-minus x))

  pub minus_minus : (x : o.V) → o.minus (o.minus x) ≡ x
  minus_minus x = sym (minus_unique (o.minus x) x (L.plus_comm (o.minus x) x ∙ L.plus-minus x))

  pub minus-nought : o.minus o.nought ≡ o.nought
  minus-nought = sym (minus_unique o.nought o.nought (L.plus-nought o.nought))

  pub minus_plus : (x y : o.V) → o.minus (o.plus x y) ≡ o.plus (o.minus x) (o.minus y)
  minus_plus x y = sym (minus_unique (o.plus x y) (o.plus (o.minus x) (o.minus y))
      (cc (L.plus_assoc x y (o.plus (o.minus x) (o.minus y)), plus_left y (o.minus x) (o.minus y), L.plus-minus y, L.plus-nought (o.minus x), L.plus-minus x)))

  pub times-minus : (x y : o.V) → o.times x (o.minus y) ≡ o.minus (o.times x y)
  times-minus x y = minus_unique (o.times x y) (o.times x (o.minus y))
      (sym (L.times-plus x y (o.minus y)) ∙ ap (o.times x) (L.plus-minus y) ∙ times-nought x)

  pub minus-times : (x y : o.V) → o.times (o.minus x) y ≡ o.minus (o.times x y)
  minus-times x y = L.times_comm (o.minus x) y ∙ times-minus y x ∙ ap o.minus (L.times_comm y x)

  pub number-add : (m n : ℕ) → number o (m + n) ≡ o.plus (number o m) (number o n)
  number-add zero n = rw zero-add (sym (nought-plus (number o n)))
  number-add (suc m) n = rw suc-add (ap (o.plus o.unit) (number-add m n) ∙ sym (L.plus_assoc o.unit (number o m) (number o n)))

  pub number-times : (m n : ℕ) → number o (m * n) ≡ o.times (number o m) (number o n)
  number-times zero n = rw zero-mul (sym (nought-times (number o n)))
  number-times (suc m) n =
      rw suc-mul (number-add (m * n) n ∙ ap (λ t. o.plus t (number o n)) (number-times m n)
      ∙ cc (plus_times o.unit (number o m) (number o n), unit-times (number o n), L.plus_comm (number o n) (o.times (number o m) (number o n))))

  pub power-add : (x : o.V) (m n : ℕ) → power o x (m + n) ≡ o.times (power o x m) (power o x n)
  power-add x zero n = rw zero-add (sym (unit-times (power o x n)))
  power-add x (suc m) n = rw suc-add (ap (o.times x) (power-add x m n) ∙ sym (L.times_assoc x (power o x m) (power o x n)))

  pub power-times : (x y : o.V) (n : ℕ) → power o (o.times x y) n ≡ o.times (power o x n) (power o y n)
  power-times x y zero = sym (L.times-unit o.unit)
  power-times x y (suc n) = ap (o.times (o.times x y)) (power-times x y n)
      ∙ cc (L.times_assoc x y (o.times (power o x n) (power o y n)), times_left y (power o x n) (power o y n), L.times_assoc x (power o x n) (o.times y (power o y n)))

  pub power-unit : (n : ℕ) → power o o.unit n ≡ o.unit
  power-unit zero = refl
  power-unit (suc n) = unit-times (power o o.unit n) ∙ power-unit n

  pub power-mul : (x : o.V) (m n : ℕ) → power o x (m * n) ≡ power o (power o x n) m
  power-mul x zero n = rw zero-mul refl
  power-mul x (suc m) n = rw suc-mul (power-add x (m * n) n ∙ ap (λ t. o.times t (power o x n)) (power-mul x m n) ∙ L.times_comm (power o (power o x n) m) (power o x n))
