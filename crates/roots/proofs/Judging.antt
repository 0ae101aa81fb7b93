-- What a trial tells, from the values that it computed.
use Rattle.std.proofs.Common.{◌≡◌, ℕ, zero, suc, ◌^◌, ◌<◌, true, false, ◌≢◌, List, [], ◌∷◌, sym, refl, ap, ◌∙◌, subst, inl, inr, mul_comm, pow-suc}
use Rattle.std.proofs.lemmas.Bool.{both_ways}
use Rattle.algebra.specs.Rings.{Ops, Lawful, power, number, raised}
use Rattle.algebra.specs.Fields.{IsField}
use Rattle.algebra.specs.Duals.{dual}
use Rattle.algebra.specs.Polynomials.{eval}
use Rattle.algebra.specs.Graeffe.{tower}
use Rattle.algebra.specs.declared.ring.Ring.{Ghosts as RingOf}
use Rattle.algebra.specs.declared.field.Field.{Ghosts as FieldOf}
use Rattle.algebra.specs.RingsLemmas.{number-times}
use Rattle.algebra.proofs.Raised.{raised-power}
use Rattle.algebra.proofs.Fields.{two_nonzero, times_cancel}
use Rattle.algebra.proofs.Solver.{v, 𝟎, 𝟏, ◌⊕◌, ◌⊗◌, solve, solve₁}
use Rattle.roots.specs.Slopes.{slope, reals, epsilons}
use Rattle.roots.specs.Tangents.{tangent}
use Rattle.roots.specs.Codes.{element}
use Rattle.roots.specs.Verdicts.{Alone}
use Rattle.roots.proofs.Homs.{map-tower}
use Rattle.roots.proofs.Slopes.{real_hom}
use Rattle.roots.proofs.TangentLaws.{tangent-reals, tangent_start}
use Rattle.roots.proofs.Towers.{Origin, origin, power_one}

module _ (o : Ops) (L : Lawful o) where
  pub two_power : (k : ℕ) → raised o (number o 2) k ≡ number o (2 ^ k)
  two_power k = raised-power o (number o 2) k ∙ go k
    where
      go : (k : ℕ) → power o (number o 2) k ≡ number o (2 ^ k)
      go zero = solve o L [] 𝟏 (𝟏 ⊕ 𝟎) refl
      go (suc k) = ap (o.times (number o 2)) (go k) ∙ sym (number-times o L 2 (2 ^ k)) ∙ ap (number o) (mul_comm 2 (2 ^ k) ∙ sym (pow-suc 2 k))

  pub lift_product : (r s t u : o.V) → r ≡ o.times s u → o.times t u ≡ o.unit → o.times r t ≡ s
  lift_product r s t u er et = ap (λ x. o.times x t) er ∙ solve₁ o L (s ∷ t ∷ u ∷ []) (v 0 ⊗ v 2 ⊗ v 1) (v 0) (v 0) (v 1 ⊗ v 2) 𝟏 et refl

  -- the test of equality with nought
  pub is_nought : (b : _) (x z : o.V) → z ≡ o.nought → b ≡ o.alike x z → b ≡ true → x ≡ o.nought
  is_nought b x z ez e yes-so = L.alike_same x z (sym e ∙ yes-so) ∙ ez

  pub not_nought : (b : _) (x z : o.V) → z ≡ o.nought → b ≡ o.alike x z → b ≡ false → x ≢ o.nought
  not_nought b x z ez e no-so same = both_ways b no-so (e ∙ L.same_alike x z (same ∙ sym ez))

  -- the first part of a level of the tangent tower
  pub level_reals : (f : List o.V) (k : ℕ) (D : List (o.V × o.V)) → D ≡ tower (dual o) (tangent o f) k → reals D ≡ tower o f k
  level_reals f k D e = ap reals e ∙ map-tower (dual o) o (λ x. x.0) (real_hom o L) (tangent o f) k ∙ ap (λ p. tower o p k) (tangent-reals o L f)

module _ {S : Type 0} (R : RingOf S) (F : FieldOf S) (L : Lawful R.ring)
    (I : IsField R.ring F.order F.odd F.levels (λ c. R.value (F.at c)) (R.value F.zeta)) (f : List R.ring.V) where
  pub alone_bottom : (b : R.ring.V) (c : ℕ) (k : ℕ) → k ≡ 0 → eval R.ring (tower R.ring f k) b ≡ R.ring.nought → c < F.order → element R F c ≡ b → Alone R F f k b c
  alone_bottom b c k e vanish below is = subst (λ n. Alone R F f n b c) (sym e) (record {
    level = here;
    simple = inr refl;
    code = below;
    root = ap (eval R.ring f) is ∙ here;
    powers = power_one R.ring L (element R F c) ∙ is;
    once = λ x _ p. sym (power_one R.ring L x) ∙ p ∙ sym is;
  })
    where
      here : eval R.ring f b ≡ R.ring.nought
      here = ap (λ n. eval R.ring (tower R.ring f n) b) (sym e) ∙ vanish

  pub alone_lifted : (k : ℕ) (D : List (R.ring.V × R.ring.V)) → D ≡ tower (dual R.ring) (tangent R.ring f) k
      → (b s t r : R.ring.V) (c : ℕ) → b ≢ R.ring.nought
      → eval R.ring (reals D) b ≡ R.ring.nought → s ≡ slope R.ring (reals D) b → s ≢ R.ring.nought → t ≡ eval R.ring (epsilons D) b
      → (t ≢ R.ring.nought → R.ring.times r t ≡ R.ring.times (number R.ring (2 ^ k)) (R.ring.times b s))
      → c < F.order → element R F c ≡ r → Alone R F f k b c
  alone_lifted k D e b s t r c ne vanish es steep et product below is = record {
    level = level_vanish;
    simple = inl level_steep;
    code = below;
    root = ap (eval o f) (is ∙ r_is) ∙ ap (λ p. eval o p w.root) (sym reals_f) ∙ w.vanishes;
    powers = ap (λ x. power o x (2 ^ k)) (is ∙ r_is) ∙ w.powers;
    once = λ x vx p. w.once x (ap (λ q. eval o q x) reals_f ∙ vx) p ∙ sym (is ∙ r_is);
  }
    where
      o : Ops
      o = R.ring

      reals_f : reals (tangent R.ring f) ≡ f
      reals_f = tangent-reals R.ring L f

      level : reals D ≡ tower R.ring f k
      level = level_reals R.ring L f k D e

      level_vanish : eval R.ring (tower R.ring f k) b ≡ R.ring.nought
      level_vanish = ap (λ p. eval R.ring p b) (sym level) ∙ vanish

      level_steep : slope R.ring (tower R.ring f k) b ≢ R.ring.nought
      level_steep z = steep (es ∙ ap (λ p. slope R.ring p b) level ∙ z)

      tower_f : tower R.ring (reals (tangent R.ring f)) k ≡ tower R.ring f k
      tower_f = ap (λ p. tower R.ring p k) reals_f

      two : R.ring.plus R.ring.unit R.ring.unit ≢ R.ring.nought
      two = two_nonzero R.ring L F.order F.odd F.levels (λ z. R.value (F.at z)) (R.value F.zeta) I

      w : Origin R.ring L I.invertible two (tangent R.ring f) (tangent_start R.ring L f) k b
      w = origin R.ring L I.invertible two (tangent R.ring f) (tangent_start R.ring L f) k b ne
          (ap (λ p. eval R.ring p b) tower_f ∙ level_vanish) (λ z. level_steep (ap (λ p. slope R.ring p b) (sym tower_f) ∙ z))

      t_is : t ≡ eval R.ring (epsilons (tower (dual R.ring) (tangent R.ring f) k)) b
      t_is = et ∙ ap (λ d. eval R.ring (epsilons d) b) e

      t_nonzero : t ≢ R.ring.nought
      t_nonzero z = w.tangent (sym t_is ∙ z)

      s_is : s ≡ slope R.ring (tower R.ring (reals (tangent R.ring f)) k) b
      s_is = es ∙ ap (λ p. slope R.ring p b) (level ∙ sym tower_f)

      r_is : r ≡ w.root
      r_is = times_cancel R.ring L I.invertible t r w.root t_nonzero
          (L.times_comm t r ∙ product t_nonzero
          ∙ ap (λ x. R.ring.times (number R.ring (2 ^ k)) (R.ring.times b x)) s_is
          ∙ sym w.formula ∙ ap (R.ring.times w.root) (sym t_is) ∙ L.times_comm w.root t)
