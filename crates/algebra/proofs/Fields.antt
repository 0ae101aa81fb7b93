-- What follows from the laws of a field.
use Rattle.std.proofs.Common.{◌≡◌, ℕ, zero, suc, ◌+◌, ◌-◌, ◌*◌, ◌/◌, ◌%◌, ◌^◌, ◌<◌, ◌≤◌, Bool, true, false, ◌≢◌, ◌⊎◌, [], ◌∷◌, sym, refl, ap, ◌∙◌, inl, inr, true≢false, mul-le-mul_right, mod-lt, mul_assoc, div-add-mod', arith, pow_pos, pow_mono, pow-add}
use Rattle.algebra.specs.Rings.{Ops, Lawful, power, number}
use Rattle.algebra.specs.Fields.{Invertible, IsField}
use Rattle.algebra.specs.RingsLemmas.{times-nought, unit-times, nought-plus, number-add, number-times, power-add, power-mul, power-unit}
use Rattle.algebra.proofs.Solver.{v, 𝟎, 𝟏, ◌⊕◌, ◌⊗◌, ⊖◌, ◌⊝◌, solve₁, solve₂}

module _ (o : Ops) (L : Lawful o) where
  pub decide : (x y : o.V) → (x ≡ y) ⊎ (x ≢ y)
  decide x y = go (o.alike x y) refl
    where
      go : (b : Bool) → o.alike x y ≡ b → (x ≡ y) ⊎ (x ≢ y)
      go true e = inl (L.alike_same x y e)
      go false e = inr (λ h. true≢false (sym (L.same_alike x y h) ∙ e))

module _ (o : Ops) (L : Lawful o) (inv : Invertible o) where
  pub no_divisors : (x y : o.V) → o.times x y ≡ o.nought → (x ≡ o.nought) ⊎ (y ≡ o.nought)
  no_divisors x y e = elim (decide o L x o.nought) [
    | inl h ↦ inl h
    | inr h ↦ inr (solve₂ o L (x ∷ y ∷ (inv x).0 ∷ []) (v 1) 𝟎 (⊖ v 1) (v 0 ⊗ v 2) 𝟏 ((inv x).1.of_other h) (v 2) (v 0 ⊗ v 1) 𝟎 e refl)
  ]

  pub times_nonzero : (x y : o.V) → x ≢ o.nought → y ≢ o.nought → o.times x y ≢ o.nought
  times_nonzero x y hx hy e = elim (no_divisors x y e) [ inl h ↦ hx h | inr h ↦ hy h ]

  pub times_cancel : (x y z : o.V) → x ≢ o.nought → o.times x y ≡ o.times x z → y ≡ z
  times_cancel x y z h e = solve₂ o L (x ∷ y ∷ z ∷ (inv x).0 ∷ []) (v 1) (v 2)
      (v 2 ⊝ v 1) (v 0 ⊗ v 3) 𝟏 ((inv x).1.of_other h) (v 3) (v 0 ⊗ v 1) (v 0 ⊗ v 2) e refl

  pub power_nonzero : (x : o.V) (n : ℕ) → x ≢ o.nought → power o x n ≢ o.nought
  power_nonzero x zero h e = h (sym (L.times-unit x) ∙ ap (o.times x) e ∙ times-nought o L x)
  power_nonzero x (suc n) h e = times_nonzero x (power o x n) h (power_nonzero x n h) e

  -- two values with one square are equal or opposite
  pub square_roots : (x y : o.V) → o.times x x ≡ o.times y y → (x ≡ y) ⊎ (x ≡ o.minus y)
  square_roots x y e =
      let E = x ∷ y ∷ [] in
      elim (no_divisors (o.plus x (o.minus y)) (o.plus x y) (solve₁ o L E ((v 0 ⊝ v 1) ⊗ (v 0 ⊕ v 1)) 𝟎 𝟏 (v 0 ⊗ v 0) (v 1 ⊗ v 1) e refl)) [
        | inl h ↦ inl (solve₁ o L E (v 0) (v 1) 𝟏 (v 0 ⊝ v 1) 𝟎 h refl)
        | inr h ↦ inr (solve₁ o L E (v 0) (⊖ v 1) 𝟏 (v 0 ⊕ v 1) 𝟎 h refl)
      ]

module _ (o : Ops) (L : Lawful o) (q M m : ℕ) (at : ℕ → o.V) (z : o.V) (F : IsField o q M m at z) where
  pub unit≢nought : o.unit ≢ o.nought
  unit≢nought e = let b = F.bounded.low in let h : ◌≡◌ {A = ℕ} 1 0 = F.coded.once 1 0 (omega arith) (omega arith) (F.coded.unit ∙ e ∙ sym F.coded.nought) in omega arith

  pub zeta_nonzero : z ≢ o.nought
  zeta_nonzero e = let b = F.bounded.low in F.primitive.nonzero 1 (omega arith) (L.times-unit z ∙ e)

  pub zeta_power_nonzero : (e : ℕ) → power o z e ≢ o.nought
  zeta_power_nonzero e = power_nonzero o L F.invertible z e zeta_nonzero

  -- the order of z is q - 1
  pub zeta-order : power o z (q - 1) ≡ o.unit
  zeta-order = let x = F.primitive.every (power o z (q - 1)) (zeta_power_nonzero (q - 1)) in go x.0 x.1 x.2
    where
      go : (i : ℕ) → i < q - 1 → power o z i ≡ power o z (q - 1) → power o z (q - 1) ≡ o.unit
      go zero h e = sym e
      go (suc j) h e =
          let i = suc j in
          let d = q - 1 - i in
          let s : i + d ≡ q - 1 = omega arith in
          let p : o.times (power o z i) (power o z d) ≡ o.times (power o z i) o.unit =
          sym (power-add o L z i d) ∙ ap (power o z) s ∙ sym e ∙ sym (L.times-unit (power o z i)) in
          let n : d ≡ 0 = F.primitive.once d 0 (omega arith) (omega arith)
          (times_cancel o L F.invertible (power o z i) (power o z d) o.unit (zeta_power_nonzero i) p) in
          absurd (omega arith)

  pub zeta_periodic : (e : ℕ) → power o z (e + (q - 1)) ≡ power o z e
  zeta_periodic e = power-add o L z e (q - 1) ∙ ap (o.times (power o z e)) zeta-order ∙ L.times-unit (power o z e)

  pub zeta_mod : (e : ℕ) → power o z (e % (q - 1)) ≡ power o z e
  zeta_mod e =
      let n = q - 1 in
      sym (unit-times o L (power o z (e % n)))
      ∙ cc (power-unit o L (e / n), zeta-order, power-mul o L z (e / n) n, power-add o L z (e / n * n) (e % n), div-add-mod' e n)

  -- equal powers of z have exponents that agree up to multiples of q - 1
  pub zeta_once : (d e : ℕ) → power o z d ≡ power o z e → d % (q - 1) ≡ e % (q - 1)
  zeta_once d e p =
      let b = F.bounded.low in
      let n : 0 < q - 1 = omega arith in
      F.primitive.once (d % (q - 1)) (e % (q - 1)) (mod-lt d n) (mod-lt e n) (zeta_mod d ∙ p ∙ sym (zeta_mod e))

  pub half_twice : (q - 1) / 2 + (q - 1) / 2 ≡ q - 1
  half_twice =
      let t = F.tower.tall in
      let s = F.tower.splits in
      let c : 2 ^ m ≡ 2 ^ (m - 1) * 2 = ap (λ (k : ℕ). 2 ^ k) (let k : m ≡ m - 1 + 1 = omega arith in k) ∙ pow-add 2 (m - 1) 1 in
      let w : M * 2 ^ m ≡ M * 2 ^ (m - 1) * 2 = ap (λ (k : ℕ). M * k) c ∙ sym (mul_assoc M (2 ^ (m - 1)) 2) in
      omega arith

  -- z to half its order is minus one
  pub half_turn : power o z ((q - 1) / 2) ≡ o.minus o.unit
  half_turn =
      let h = (q - 1) / 2 in
      let b = F.bounded.low in
      let e : o.times (power o z h) (power o z h) ≡ o.times o.unit o.unit =
      sym (power-add o L z h h) ∙ ap (power o z) half_twice ∙ zeta-order ∙ sym (L.times-unit o.unit) in
      elim (square_roots o L F.invertible (power o z h) o.unit e) [
        | inl p ↦ (let n : h ≡ 0 = F.primitive.once h 0 (omega arith) (omega arith) p in absurd (omega arith))
        | inr p ↦ p
      ]

  pub number_once : (a b : ℕ) → a < q → b < q → number o a ≡ number o b → a ≡ b
  number_once a b ha hb e = F.coded.once a b ha hb (sym (F.coded.ones a ha) ∙ e ∙ F.coded.ones b hb)

  pub number_nonzero : (n : ℕ) → 0 < n → n < q → number o n ≢ o.nought
  number_nonzero n p h e = let s : n ≡ 0 = number_once n 0 h (omega arith) e in omega arith

  pub number_mod : (n : ℕ) → number o (n % q) ≡ number o n
  number_mod n = sym (nought-plus o L (number o (n % q)))
      ∙ cc (times-nought o L (number o (n / q)), F.coded.all_ones, number-times o L (n / q) q, number-add o L (n / q * q) (n % q), div-add-mod' n q)

  -- whole numbers with one value agree up to multiples of q
  pub number_same : (a b : ℕ) → number o a ≡ number o b → a % q ≡ b % q
  number_same a b e =
      let l = F.bounded.low in
      let n : 0 < q = omega arith in
      number_once (a % q) (b % q) (mod-lt a n) (mod-lt b n) (number_mod a ∙ e ∙ sym (number_mod b))

  pub two_nonzero : o.plus o.unit o.unit ≢ o.nought
  two_nonzero e = let b = F.bounded.low in number_nonzero 2 (omega arith) (omega arith) (ap (o.plus o.unit) (L.plus-nought o.unit) ∙ e)

  pub two_power_below : (k : ℕ) → k ≤ m → 2 ^ k < q
  two_power_below k h =
      let s = F.tower.splits in
      let p : 2 ^ k ≤ 2 ^ m = pow_mono h in
      let d = F.tower.odd in
      let one : 1 ≤ M = omega arith in
      let t : 1 * 2 ^ m ≤ M * 2 ^ m = mul-le-mul_right (2 ^ m) one in
      omega arith

  pub two_power_nonzero : (k : ℕ) → k ≤ m → number o (2 ^ k) ≢ o.nought
  two_power_nonzero k h = number_nonzero (2 ^ k) (pow_pos k) (two_power_below k h)
