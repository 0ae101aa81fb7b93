-- A power by squaring: answer times square to what is left stays the same.
use Rattle.std.proofs.Common.{◌≡◌, ℕ, suc, ◌+◌, ◌/◌, ◌%◌, ◌≢◌, sym, refl, ap, ◌∙◌, arith}
use Rattle.algebra.specs.Rings.{Ops, Lawful, power, raised}
use Rattle.algebra.specs.RingsLemmas.{power-add, power-times}

pub raised-power : (o : Ops) (x : o.V) (n : ℕ) → raised o x n ≡ power o x n
unfolding raised
raised-power o x n = refl

module _ (o : Ops) (L : Lawful o) where
  half_power : (s : o.V) (h : ℕ) → power o s (h + h) ≡ power o (o.times s s) h
  half_power s h = power-add o L s h h ∙ sym (power-times o L s s h)

  pub raised_end : (a s : o.V) (n : ℕ) → n ≡ 0 → o.times a (raised o s n) ≡ a
  unfolding raised
  raised_end a s n e = ap (λ m. o.times a (power o s m)) e ∙ L.times-unit a

  -- a turn where what is left is even
  pub raised_even : (s : o.V) (n : ℕ) → n % 2 ≢ 1 → raised o s n ≡ raised o (o.times s s) (n / 2)
  unfolding raised
  raised_even s n h = let e : n ≡ n / 2 + n / 2 = omega arith in ap (power o s) e ∙ half_power s (n / 2)

  -- a turn where it is odd
  pub raised_odd : (a s : o.V) (n : ℕ) → n % 2 ≡ 1 → o.times a (raised o s n) ≡ o.times (o.times a s) (raised o (o.times s s) (n / 2))
  unfolding raised
  raised_odd a s n h =
      let e : n ≡ suc (n / 2 + n / 2) = omega arith in
      ap (λ m. o.times a (power o s m)) e ∙ sym (L.times_assoc a s (power o s (n / 2 + n / 2))) ∙ ap (o.times (o.times a s)) (half_power s (n / 2))
