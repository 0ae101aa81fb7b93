-- Sums of finitely many values of a ring.
use Rattle.std.proofs.Common.{◌≡◌, ℕ, zero, suc, ◌+◌, ◌-◌, ◌<◌, sym, refl, ap, ◌∙◌, add-zero, add-suc, arith}
use Rattle.algebra.specs.Rings.{Ops, Lawful}
use Rattle.algebra.specs.RingsLemmas.{times-nought}

-- u 0 + .. + u (n - 1)
abbrev pub total : (o : Ops) → (ℕ → o.V) → ℕ → o.V
total o u zero = o.nought
total o u (suc n) = o.plus (total o u n) (u n)

module _ (o : Ops) (L : Lawful o) where
  pub total_same : (u v : ℕ → o.V) (n : ℕ) → ((i : ℕ) → i < n → u i ≡ v i) → total o u n ≡ total o v n
  total_same u v zero h = refl
  total_same u v (suc n) h = cc (total_same u v n (λ i l. h i (omega arith)), h n (omega arith))

  pub total-nought : (u : ℕ → o.V) (n : ℕ) → ((i : ℕ) → i < n → u i ≡ o.nought) → total o u n ≡ o.nought
  total-nought u zero h = refl
  total-nought u (suc n) h = cc (total-nought u n (λ i l. h i (omega arith)), h n (omega arith), L.plus-nought o.nought)

  -- the first apart
  pub total_front : (u : ℕ → o.V) (n : ℕ) → total o u (suc n) ≡ o.plus (u 0) (total o (λ i. u (suc i)) n)
  total_front u zero = L.plus_comm o.nought (u 0)
  total_front u (suc n) = ap (λ t. o.plus t (u (suc n))) (total_front u n) ∙ L.plus_assoc (u 0) (total o (λ i. u (suc i)) n) (u (suc n))

  pub total_split : (u : ℕ → o.V) (a b : ℕ) → total o u (a + b) ≡ o.plus (total o u a) (total o (λ i. u (a + i)) b)
  total_split u a zero = rw add-zero (sym (L.plus-nought (total o u a)))
  total_split u a (suc b) = rw add-suc (ap (λ t. o.plus t (u (a + b))) (total_split u a b) ∙ L.plus_assoc (total o u a) (total o (λ i. u (a + i)) b) (u (a + b)))

  -- from the other end
  pub total-reverse : (u : ℕ → o.V) (n : ℕ) → total o u n ≡ total o (λ i. u (n - 1 - i)) n
  total-reverse u zero = refl
  total-reverse u (suc n) =
      ap (λ t. o.plus t (u n)) (total-reverse u n) ∙ L.plus_comm (total o (λ i. u (n - 1 - i)) n) (u n)
      ∙ sym (total_front (λ i. u (suc n - 1 - i)) n
      ∙ cc (ap u (first n), total_same (λ i. u (suc n - 1 - suc i)) (λ i. u (n - 1 - i)) n (λ i l. ap u (next n i))))
    where
      first : (n : ℕ) → suc n - 1 - 0 ≡ n
      first n = omega arith

      next : (n i : ℕ) → suc n - 1 - suc i ≡ n - 1 - i
      next n i = omega arith

  pub total-times : (c : o.V) (u : ℕ → o.V) (n : ℕ) → o.times c (total o u n) ≡ total o (λ i. o.times c (u i)) n
  total-times c u zero = times-nought o L c
  total-times c u (suc n) = L.times-plus c (total o u n) (u n) ∙ ap (λ t. o.plus t (o.times c (u n))) (total-times c u n)
