-- What a visit of the search finds: nothing, one root, or what its two halves find.
use Rattle.std.proofs.Common.{◌≡◌, ℕ, zero, suc, ◌+◌, ◌-◌, ◌*◌, ◌/◌, ◌^◌, ◌<◌, ◌≤◌, ◌≢◌, ◌⊎◌, ◌↔◌, List, [], ◌∷◌, ◌++◌, sym, refl, ap, ◌∙◌, subst, inl, inr, mul_assoc, mul_comm, add-mul, mul-add, arith, pow_pos, pow-add}
use native.Mathlib.Nat.{sub_self}
use Rattle.std.proofs.lemmas.Bool.{cases_lt}
use Rattle.algebra.specs.Rings.{Ops, Lawful, power}
use Rattle.algebra.specs.Fields.{IsField}
use Rattle.algebra.specs.Polynomials.{eval}
use Rattle.algebra.specs.Graeffe.{tower}
use Rattle.algebra.specs.declared.ring.Ring.{Ghosts as RingOf}
use Rattle.algebra.specs.declared.field.Field.{Ghosts as FieldOf}
use Rattle.algebra.specs.RingsLemmas.{nought-times, power-add, power-mul, times-minus}
use Rattle.algebra.proofs.Fields.{times_nonzero, square_roots, zeta_power_nonzero, half_twice, half_turn, two_nonzero}
use Rattle.algebra.proofs.Solver.{v, 𝟎, 𝟏, ◌⊕◌, ◌⊗◌, ⊖◌, solve₁}
use Rattle.roots.specs.Lists.{In, Distinct}
use Rattle.roots.specs.Codes.{element}
use Rattle.roots.proofs.ListLaws.{in_append, append_in, distinct_append}
use Rattle.roots.specs.Slopes.{slope}
use Rattle.roots.proofs.Slopes.{pair_path}
use Rattle.roots.proofs.Multiplicities.{repeated_from, repeated_root}
use Rattle.roots.proofs.Towers.{twice_power, power_twice, power_one, tower_down, tower_up, tower_multiple}
use Rattle.roots.specs.Reaching.{zeta_power, Reach, Below}

-- what the visits of ζ^h and -ζ^h tell of that of their square ζ^e, of the code c
pub record Split {S : Type 0} (R : RingOf S) (F : FieldOf S) (f : List R.ring.V) (k e h c : ℕ) : Type 0 where
  pub reach : (x : ℕ) → Reach R F f (suc k) e x ↔ (Reach R F f k h x ⊎ Reach R F f k (h + (F.order - 1) / 2) x)
  pub apart : (x : ℕ) → Reach R F f k h x → Reach R F f k (h + (F.order - 1) / 2) x → ⊥
  pub below : (p : ℕ × ℕ) → Below R F f (suc k) e p ↔ ((p ≡ (suc k, c)) ⊎ (Below R F f k h p ⊎ Below R F f k (h + (F.order - 1) / 2) p))
  pub below_apart : (p : ℕ × ℕ) → Below R F f k h p → Below R F f k (h + (F.order - 1) / 2) p → ⊥

-- both exponents are multiples of 2^k below q - 1
pub record Halves (q k h : ℕ) : Type 0 where
  pub low : (b : ℕ) × (h ≡ b * 2 ^ k)
  pub high : (b : ℕ) × (h + (q - 1) / 2 ≡ b * 2 ^ k)
  pub half : h < (q - 1) / 2
  pub low_below : h < q - 1
  pub high-below : h + (q - 1) / 2 < q - 1

module _ (o : Ops) (L : Lawful o) where
  pub power-nought : (n : ℕ) → 0 < n → power o o.nought n ≡ o.nought
  power-nought zero h = absurd (omega arith)
  power-nought (suc n) h = nought-times o L (power o o.nought n)

  pub power_swap : (x : o.V) (a b : ℕ) → power o (power o x a) b ≡ power o x (a * b)
  power_swap x a b = sym (power-mul o L x b a) ∙ ap (power o x) (mul_comm b a)

module _ {S : Type 0} (R : RingOf S) (F : FieldOf S) (L : Lawful R.ring) (I : IsField R.ring F.order F.odd F.levels (λ c. R.value (F.at c)) (R.value F.zeta)) (f : List R.ring.V) where
  abbrev o : Ops
  o = R.ring

  abbrev at : ℕ → R.ring.V
  at c = R.value (F.at c)

  abbrev z : ℕ → R.ring.V
  z e = zeta_power R F e

  abbrev zeta : R.ring.V
  zeta = R.value F.zeta

  pub element_once : (b c : ℕ) → b < F.order → c < F.order → element R F b ≡ element R F c → b ≡ c
  element_once b c hb hc e = I.coded.once b c hb hc e

  pub element_nonzero : (c : ℕ) → c < F.order → c ≢ 0 → element R F c ≢ R.ring.nought
  element_nonzero c h n e = n (element_once c 0 h (let l = I.bounded.low in omega arith) (e ∙ sym I.coded.nought))

  pub code_nonzero : (c : ℕ) → element R F c ≢ R.ring.nought → c ≢ 0
  code_nonzero c n e = n (ap (element R F) e ∙ I.coded.nought)

  -- a root of a level that has ζ^e for its power makes ζ^e one of the level k
  below_root : (k e : ℕ) (p : ℕ × ℕ) → Below R F f k e p → eval R.ring (tower R.ring f k) (zeta_power R F e) ≡ R.ring.nought
  below_root k e p b =
      let x = element R F p.1 in
      let r = repeated_root o L x (tower o f p.0) b.repeated.multiple in
      let s : p.0 + (k - p.0) ≡ k = let u = b.under in omega arith in
      ap (eval o (tower o f k)) (sym b.powers)
      ∙ subst (λ (n : ℕ). eval o (tower o f n) (power o x (2 ^ (k - p.0))) ≡ o.nought) s (tower_up o L f x p.0 (k - p.0) r.0)

  below-slope : (k e : ℕ) (p : ℕ × ℕ) → Below R F f k e p → slope R.ring (tower R.ring f k) (zeta_power R F e) ≡ R.ring.nought
  below-slope k e p b =
      let x = element R F p.1 in
      let r = repeated_root o L x (tower o f p.0) b.repeated.multiple in
      let s : p.0 + (k - p.0) ≡ k = let u = b.under in omega arith in
      let two = two_nonzero o L F.order F.odd F.levels at zeta I in
      let ne = element_nonzero p.1 b.repeated.code b.repeated.nonzero in
      ap (slope o (tower o f k)) (sym b.powers)
      ∙ subst (λ (n : ℕ). slope o (tower o f n) (power o x (2 ^ (k - p.0))) ≡ o.nought) s
      (tower_multiple o L I.invertible two f x p.0 (k - p.0) ne r.0 r.1)

  pub none_here : (k e : ℕ) → eval R.ring (tower R.ring f k) (zeta_power R F e) ≢ R.ring.nought
      → ((c : ℕ) → Reach R F f k e c → ⊥) × ((p : ℕ × ℕ) → Below R F f k e p → ⊥)
  none_here k e n =
      (λ c r. n (ap (eval o (tower o f k)) (sym r.powers) ∙ tower_down o L f (element R F c) k r.root.1), λ p b. n (below_root k e p b))

  one_here : (k e c : ℕ) → Reach R F f k e c → ((x : ℕ) → Reach R F f k e x → element R F x ≡ element R F c) → (x : ℕ) → Reach R F f k e x ↔ (x ≡ c)
  one_here k e c r once x =
      (λ t. element_once x c t.root.0 r.root.0 (once x t), λ w. subst (λ (y : ℕ). Reach R F f k e y) (sym w) r)

  pub bottom_here : (e c : ℕ) → eval R.ring f (zeta_power R F e) ≡ R.ring.nought → c < F.order → element R F c ≡ zeta_power R F e
      → ((x : ℕ) → Reach R F f 0 e x ↔ (x ≡ c)) × ((p : ℕ × ℕ) → Below R F f 0 e p → ⊥)
  bottom_here e c r h w = (
    one_here 0 e c (record { root = (h, ap (eval o f) w ∙ r); powers = power_one o L (element R F c) ∙ w })
        (λ x t. sym (power_one o L (element R F x)) ∙ t.powers ∙ sym w),
    λ p b. (let l = b.repeated.low in let u = b.under in omega arith),
  )

  pub simple_here : (k e c : ℕ) (root : R.ring.V) → slope R.ring (tower R.ring f k) (zeta_power R F e) ≢ R.ring.nought
      → eval R.ring f root ≡ R.ring.nought → power R.ring root (2 ^ k) ≡ zeta_power R F e
      → ((x : R.ring.V) → eval R.ring f x ≡ R.ring.nought → power R.ring x (2 ^ k) ≡ zeta_power R F e → x ≡ root)
      → c < F.order → element R F c ≡ root
      → ((x : ℕ) → Reach R F f k e x ↔ (x ≡ c)) × ((p : ℕ × ℕ) → Below R F f k e p → ⊥)
  simple_here k e c root s r pw once h w = (
    one_here k e c (record { root = (h, ap (eval o f) w ∙ r); powers = ap (λ x. power o x (2 ^ k)) w ∙ pw })
        (λ x t. once (element R F x) t.root.1 t.powers ∙ sym w),
    λ p b. s (below-slope k e p b),
  )

  pub reach_nonzero : (k e c : ℕ) → Reach R F f k e c → c ≢ 0
  reach_nonzero k e c r = code_nonzero c (λ w.
      zeta_power_nonzero o L F.order F.odd F.levels at zeta I e
      (sym r.powers ∙ ap (λ x. power o x (2 ^ k)) w ∙ power-nought o L (2 ^ k) (pow_pos k)))

  -- the other square root of ζ^(h + h)
  turned : (h : ℕ) → zeta_power R F (h + (F.order - 1) / 2) ≡ R.ring.minus (zeta_power R F h)
  turned h =
      power-add o L zeta h ((F.order - 1) / 2) ∙ ap (o.times (z h)) (half_turn o L F.order F.odd F.levels at zeta I)
      ∙ times-minus o L (z h) o.unit ∙ ap o.minus (L.times-unit (z h))

  halves_differ : (h : ℕ) → zeta_power R F h ≢ zeta_power R F (h + (F.order - 1) / 2)
  halves_differ h e =
      times_nonzero o L I.invertible (o.plus o.unit o.unit) (z h)
      (two_nonzero o L F.order F.odd F.levels at zeta I) (zeta_power_nonzero o L F.order F.odd F.levels at zeta I h)
      (solve₁ o L (z h ∷ []) ((𝟏 ⊕ 𝟏) ⊗ v 0) 𝟎 𝟏 (v 0) (⊖ v 0) (e ∙ turned h) refl)

  root_of : (e h : ℕ) (y : R.ring.V) → e ≡ h + h → R.ring.times y y ≡ zeta_power R F e → (y ≡ zeta_power R F h) ⊎ (y ≡ zeta_power R F (h + (F.order - 1) / 2))
  root_of e h y s w =
      elim (square_roots o L I.invertible y (z h) (w ∙ ap (zeta_power R F) s ∙ power-add o L zeta h h)) [
        | inl t ↦ inl t
        | inr t ↦ inr (t ∙ sym (turned h))
      ]

  square_of : (e h : ℕ) (y : R.ring.V) → e ≡ h + h → (y ≡ zeta_power R F h) ⊎ (y ≡ zeta_power R F (h + (F.order - 1) / 2)) → R.ring.times y y ≡ zeta_power R F e
  square_of e h y s w =
      elim w [
        | inl t ↦ ap (λ x. o.times x x) t
        | inr t ↦ solve₁ o L (y ∷ z h ∷ []) (v 0 ⊗ v 0) (v 1 ⊗ v 1) (v 0 ⊕ ⊖ v 1) (v 0) (⊖ v 1) (t ∙ turned h) refl
      ]
      ∙ sym (power-add o L zeta h h) ∙ ap (zeta_power R F) (sym s)

  -- the square of x to the power 2^i
  squared : (e h i : ℕ) (x : R.ring.V) → e ≡ h + h
      → (power R.ring x (2 ^ suc i) ≡ zeta_power R F e)
      ↔ ((power R.ring x (2 ^ i) ≡ zeta_power R F h) ⊎ (power R.ring x (2 ^ i) ≡ zeta_power R F (h + (F.order - 1) / 2)))
  squared e h i x s =
      (λ w. root_of e h (power o x (2 ^ i)) s (sym (power_twice o L x i) ∙ w), λ w. power_twice o L x i ∙ square_of e h (power o x (2 ^ i)) s w)

  repeated_here : (k e c a : ℕ) → suc k ≤ F.levels → e ≡ a * 2 ^ suc k
      → eval R.ring (tower R.ring f (suc k)) (zeta_power R F e) ≡ R.ring.nought → slope R.ring (tower R.ring f (suc k)) (zeta_power R F e) ≡ R.ring.nought
      → c < F.order → element R F c ≡ zeta_power R F e → Below R F f (suc k) e (suc k, c)
  repeated_here k e c a l s r d h w = record {
    repeated = record {
      low = omega arith;
      high = l;
      code = h;
      nonzero = code_nonzero c (λ n. zeta_power_nonzero o L F.order F.odd F.levels at zeta I e (sym w ∙ n));
      powered = (z a, power_swap o L zeta a (2 ^ suc k) ∙ ap (zeta_power R F) (sym s) ∙ sym w);
      multiple = repeated_from o L (element R F c) (tower o f (suc k)) (ap (eval o (tower o f (suc k))) w ∙ r) (ap (slope o (tower o f (suc k))) w ∙ d);
    };
    under = omega arith;
    powers = ap (λ (n : ℕ). power o (element R F c) (2 ^ n)) (sub_self (suc k)) ∙ power_one o L (element R F c) ∙ w;
  }

  below_here : (k e h c : ℕ) (p : ℕ × ℕ) → e ≡ h + h → c < F.order → element R F c ≡ zeta_power R F e → Below R F f (suc k) e p
      → (p ≡ (suc k, c)) ⊎ (Below R F f k h p ⊎ Below R F f k (h + (F.order - 1) / 2) p)
  below_here k e h c p s l w b =
      let x = element R F p.1 in
      let u = b.under in
      elim (cases_lt k p.0) [
        | inl g ↦ (let t : p.0 ≡ suc k = omega arith in
            inl (pair_path t (element_once p.1 c b.repeated.code l
            (sym (power_one o L x) ∙ ap (λ (n : ℕ). power o x (2 ^ n)) (let j : 0 ≡ suc k - p.0 = omega arith in j) ∙ b.powers ∙ sym w))))
        | inr g ↦ (let t : suc (k - p.0) ≡ suc k - p.0 = omega arith in
            inr (elim ((squared e h (k - p.0) x s).0 (ap (λ (n : ℕ). power o x (2 ^ n)) t ∙ b.powers)) [
              | inl j ↦ inl (record { repeated = b.repeated; under = g; powers = j })
              | inr j ↦ inr (record { repeated = b.repeated; under = g; powers = j })
            ]))
      ]

  below_back : (k e h i : ℕ) (p : ℕ × ℕ) → e ≡ h + h → (i ≡ h) ⊎ (i ≡ h + (F.order - 1) / 2) → Below R F f k i p → Below R F f (suc k) e p
  below_back k e h i p s w b =
      let x = element R F p.1 in
      let u = b.under in
      let t : suc k - p.0 ≡ suc (k - p.0) = omega arith in
      record {
        repeated = b.repeated;
        under = omega arith;
        powers = ap (λ (n : ℕ). power o x (2 ^ n)) t ∙ (squared e h (k - p.0) x s).1 (elim w [ inl g ↦ inl (b.powers ∙ ap (zeta_power R F) g) | inr g ↦ inr (b.powers ∙ ap (zeta_power R F) g) ]);
      }

  pub split_here : (k e h c : ℕ) → suc k ≤ F.levels → e ≡ h + h → (a : ℕ) → e ≡ a * 2 ^ suc k → e < F.order - 1
      → eval R.ring (tower R.ring f (suc k)) (zeta_power R F e) ≡ R.ring.nought → slope R.ring (tower R.ring f (suc k)) (zeta_power R F e) ≡ R.ring.nought
      → c < F.order → element R F c ≡ zeta_power R F e → Split R F f k e h c
  split_here k e h c l s a m _ r d g w =
      let H = h + (F.order - 1) / 2 in
      record {
        reach = λ x. (
          (λ t. elim ((squared e h k (element R F x) s).0 t.powers) [
            | inl p ↦ inl (record { root = t.root; powers = p })
            | inr p ↦ inr (record { root = t.root; powers = p })
          ]),
          (λ t. elim t [
            | inl p ↦ record { root = p.root; powers = (squared e h k (element R F x) s).1 (inl p.powers) }
            | inr p ↦ record { root = p.root; powers = (squared e h k (element R F x) s).1 (inr p.powers) }
          ]),
        );
        apart = λ x p t. halves_differ h (sym p.powers ∙ t.powers);
        below = λ p. (
          below_here k e h c p s g w,
          (λ t. elim t [
            | inl p≡ ↦ subst (λ (p : ℕ × ℕ). Below R F f (suc k) e p) (sym p≡) (repeated_here k e c a l m r d g w)
            | inr t ↦ elim t [ inl b ↦ below_back k e h h p s (inl refl) b | inr b ↦ below_back k e h H p s (inr refl) b ]
          ]),
        );
        below_apart = λ p b t. halves_differ h (sym b.powers ∙ t.powers);
      }

  pub half_multiple : (k e h a : ℕ) → suc k ≤ F.levels → e ≡ h + h → e ≡ a * 2 ^ suc k → e < F.order - 1 → Halves F.order k h
  half_multiple k e h a l s t below =
      let q = F.order in
      let H = (q - 1) / 2 in
      let M = F.odd in
      let m = F.levels in
      let n = M * 2 ^ (m - suc k) in
      let twice = half_twice o L q M m at zeta I in
      let tall = I.tower.splits in
      let one : h ≡ a * 2 ^ k = let d : a * 2 ^ suc k ≡ a * 2 ^ k + a * 2 ^ k = ap (λ (x : ℕ). a * x) (twice_power k) ∙ mul-add a (2 ^ k) (2 ^ k) in omega arith in
      let whole : M * 2 ^ m ≡ n * 2 ^ k + n * 2 ^ k =
      ap (λ (x : ℕ). M * 2 ^ x) (let j : m ≡ m - suc k + suc k = omega arith in j) ∙ ap (λ (x : ℕ). M * x) (pow-add 2 (m - suc k) (suc k))
      ∙ sym (mul_assoc M (2 ^ (m - suc k)) (2 ^ suc k)) ∙ ap (λ (x : ℕ). n * x) (twice_power k) ∙ mul-add n (2 ^ k) (2 ^ k) in
      let other : H ≡ n * 2 ^ k = omega arith in
      record {
        low = (a, one);
        high = (a + n, (let d = add-mul a n (2 ^ k) in omega arith));
        half = omega arith;
        low_below = omega arith;
        high-below = omega arith;
      }

  pub node_pairs : (k e h c : ℕ) → Split R F f k e h c → (ps rs : List (ℕ × ℕ))
      → Distinct ps → ((p : ℕ × ℕ) → In p ps ↔ Below R F f k h p)
      → Distinct rs → ((p : ℕ × ℕ) → In p rs ↔ Below R F f k (h + (F.order - 1) / 2) p)
      → Distinct ((suc k, c) ∷ (ps ++ rs)) × ((p : ℕ × ℕ) → In p ((suc k, c) ∷ (ps ++ rs)) ↔ Below R F f (suc k) e p)
  node_pairs k e h c t ps rs D P E Q = (
    (
      λ i. elim (in_append (suc k, c) ps rs i) [
        | inl j ↦ (let u = ((P (suc k, c)).0 j).under in omega arith)
        | inr j ↦ (let u = ((Q (suc k, c)).0 j).under in omega arith)
      ],
      distinct_append ps rs D E (λ p i j. t.below_apart p ((P p).0 i) ((Q p).0 j)),
    ),
    λ p. (
      (λ i. elim i [
        | inl w ↦ (t.below p).1 (inl w)
        | inr j ↦ elim (in_append p ps rs j) [ inl b ↦ (t.below p).1 (inr (inl ((P p).0 b))) | inr b ↦ (t.below p).1 (inr (inr ((Q p).0 b))) ]
      ]),
      (λ b. elim ((t.below p).0 b) [
        | inl w ↦ inl w
        | inr j ↦ inr (append_in p ps rs (elim j [ inl b ↦ inl ((P p).1 b) | inr b ↦ inr ((Q p).1 b) ]))
      ]),
    ),
  )
