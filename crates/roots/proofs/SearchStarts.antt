-- The visits of the top level: together they find every root other than zero and every repeated root, each once.
use Rattle.std.proofs.Common.{◌≡◌, ℕ, suc, ◌+◌, ◌-◌, ◌*◌, ◌/◌, ◌%◌, ◌^◌, ◌<◌, ◌≤◌, ◌≢◌, List, map, length, sym, ap, ◌∙◌, mod-lt, mul_assoc, add-mul, mul-lt-mul_of_pos_right, div-add-mod', arith, pow_pos, pow-add}
use native.Mathlib.Nat.{eq_of_mul-eq-mul_right}
use lib.ListN.{length-map}
use Rattle.algebra.specs.Rings.{Ops, Lawful, power}
use Rattle.algebra.specs.Fields.{IsField}
use Rattle.algebra.specs.Polynomials.{eval, coefficient}
use Rattle.algebra.specs.declared.ring.Ring.{Ghosts as RingOf}
use Rattle.algebra.specs.declared.field.Field.{Ghosts as FieldOf}
use Rattle.algebra.specs.RingsLemmas.{unit-times, power-add, power-mul, power-unit}
use Rattle.algebra.proofs.Fields.{zeta-order}
use Rattle.roots.specs.Lists.{In}
use Rattle.roots.specs.Codes.{element}
use Rattle.roots.specs.Roots.{Root, Repeated, Ascending}
use Rattle.roots.proofs.RootBounds.{roots_bound}
use Rattle.roots.specs.Reaching.{zeta_power, Reach, Below}
use Rattle.roots.proofs.ListLaws.{map_in, distinct_map, ascending_distinct}
use Rattle.roots.proofs.SearchLaws.{power-nought, power_swap, element_once, element_nonzero}

module _ {S : Type 0} (R : RingOf S) (F : FieldOf S) (L : Lawful R.ring) (I : IsField R.ring F.order F.odd F.levels (λ c. R.value (F.at c)) (R.value F.zeta)) (f : List R.ring.V) where
  abbrev o : Ops
  o = R.ring

  abbrev zeta : R.ring.V
  zeta = R.value F.zeta

  order_less : F.order - 1 ≡ F.odd * 2 ^ F.levels
  order_less = let s = I.tower.splits in omega arith

  pub top_exponent : (i : ℕ) → i < F.odd → i * 2 ^ F.levels < F.order - 1
  top_exponent i h =
      let l : i * 2 ^ F.levels < F.odd * 2 ^ F.levels = mul-lt-mul_of_pos_right h (pow_pos F.levels) in
      let s = order_less in
      omega arith

  zeta_turns : (n r : ℕ) → zeta_power R F (n * (F.order - 1) + r) ≡ zeta_power R F r
  zeta_turns n r =
      let N = F.order - 1 in
      let turn = zeta-order o L F.order F.odd F.levels (λ c. R.value (F.at c)) zeta I in
      power-add o L zeta (n * N) r
      ∙ ap (λ x. o.times x (zeta_power R F r)) (power-mul o L zeta n N ∙ ap (λ x. power o x n) turn ∙ power-unit o L n)
      ∙ unit-times o L (zeta_power R F r)

  -- the power 2^m of an element other than zero is one of M
  top-power : (x : R.ring.V) → x ≢ R.ring.nought → (i : ℕ) × (i < F.odd) × (power R.ring x (2 ^ F.levels) ≡ zeta_power R F (i * 2 ^ F.levels))
  top-power x n =
      let t = I.primitive.every x n in
      let a = t.0 in
      let M = F.odd in
      let P = 2 ^ F.levels in
      let d = I.tower.odd in
      let positive : 0 < M = omega arith in
      let parts : a * P ≡ a / M * (F.order - 1) + a % M * P =
      ap (λ (y : ℕ). y * P) (sym (div-add-mod' a M)) ∙ add-mul (a / M * M) (a % M) P
      ∙ ap (λ (y : ℕ). y + a % M * P) (mul_assoc (a / M) M P ∙ ap (λ (y : ℕ). a / M * y) (sym order_less)) in (
        a % M,
        mod-lt a positive,
        ap (λ y. power o y P) (sym t.2) ∙ power_swap o L zeta a P ∙ ap (zeta_power R F) parts ∙ zeta_turns (a / M) (a % M * P),
      )

  pub top_reach : (c : ℕ) → Root R F f c → c ≢ 0 → (i : ℕ) × (i < F.odd) × Reach R F f F.levels (i * 2 ^ F.levels) c
  top_reach c r n =
      let t = top-power (element R F c) (element_nonzero R F L I f c r.0 n) in
      (t.0, t.1, record { root = r; powers = t.2 })

  pub top_below : (p : ℕ × ℕ) → Repeated R F f p → (i : ℕ) × (i < F.odd) × Below R F f F.levels (i * 2 ^ F.levels) p
  top_below p r =
      let m = F.levels in
      let k = p.0 in
      let x = r.powered.0 in
      let nonzero : x ≢ o.nought = λ w. element_nonzero R F L I f p.1 r.code r.nonzero
      (sym r.powered.1 ∙ ap (λ y. power o y (2 ^ k)) w ∙ power-nought o L (2 ^ k) (pow_pos k)) in
      let t = top-power x nonzero in
      let l = r.high in
      let whole : 2 ^ k * 2 ^ (m - k) ≡ 2 ^ m = sym (pow-add 2 k (m - k)) ∙ ap (λ (j : ℕ). 2 ^ j) (let s : k + (m - k) ≡ m = omega arith in s) in (
        t.0,
        t.1,
        record {
          repeated = r;
          under = l;
          powers = ap (λ y. power o y (2 ^ (m - k))) (sym r.powered.1) ∙ power_swap o L x (2 ^ k) (2 ^ (m - k)) ∙ ap (power o x) whole ∙ t.2;
        },
      )

  top_once : (i j : ℕ) → i < F.odd → j < F.odd → zeta_power R F (i * 2 ^ F.levels) ≡ zeta_power R F (j * 2 ^ F.levels) → i ≡ j
  top_once i j hi hj e =
      let P = 2 ^ F.levels in
      eq_of_mul-eq-mul_right P (pow_pos F.levels) i j (I.primitive.once (i * P) (j * P) (top_exponent i hi) (top_exponent j hj) e)

  pub reach_apart : (i j c : ℕ) → i < F.odd → j < F.odd → Reach R F f F.levels (i * 2 ^ F.levels) c → Reach R F f F.levels (j * 2 ^ F.levels) c → i ≡ j
  reach_apart i j c hi hj r t = top_once i j hi hj (sym r.powers ∙ t.powers)

  pub below_apart : (i j : ℕ) (p : ℕ × ℕ) → i < F.odd → j < F.odd → Below R F f F.levels (i * 2 ^ F.levels) p → Below R F f F.levels (j * 2 ^ F.levels) p → i ≡ j
  below_apart i j p hi hj b t = top_once i j hi hj (sym b.powers ∙ t.powers)

  -- there are at most as many roots as the degree
  pub roots_fit : (d : ℕ) → length f ≡ suc d → coefficient R.ring f d ≢ R.ring.nought
      → (xs : List ℕ) → Ascending xs → ((x : ℕ) → In x xs → Root R F f x) → length xs ≤ d
  roots_fit d h t xs A r =
      let b = roots_bound o L I.invertible d f h t (map (element R F) xs)
      (distinct_map (element R F) xs (λ x y i j. element_once R F L I f x y (r x i).0 (r y j).0) (ascending_distinct xs A))
      (λ x i. (let w = map_in (element R F) x xs i in ap (eval o f) w.2 ∙ (r w.0 w.1).1)) in
      let l = length-map xs (element R F) in
      omega arith
