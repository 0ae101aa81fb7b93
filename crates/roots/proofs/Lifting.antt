-- The lift, from the verdict on its level.
use Rattle.std.proofs.Common.{◌≡◌, ℕ, ◌≢◌, List, refl, ⊎_elim}
use Rattle.algebra.specs.Rings.{Lawful}
use Rattle.algebra.specs.Fields.{IsField}
use Rattle.algebra.specs.Graeffe.{tower}
use Rattle.algebra.specs.declared.code.Code.{Code}
use Rattle.algebra.specs.declared.ring.Ring.{Ghosts as RingOf}
use Rattle.algebra.specs.declared.field.Field.{Ghosts as FieldOf}
use Rattle.roots.specs.Slopes.{slope}
use Rattle.roots.specs.Codes.{element}
use Rattle.roots.specs.Roots.{Simple, Lift}
use Rattle.roots.specs.Verdicts.{Alone, Judged}
use Rattle.roots.specs.declared.verdict.Verdict.{Verdict}
use Rattle.roots.specs.declared.verdict.Verdict.TheVariants.{Nothing, Root, Both}
use Rattle.roots.proofs.Multiplicities.{simple_from, simple_root}
use Rattle.roots.proofs.SearchLaws.{element_once}

module _ {S : Type 0} (R : RingOf S) (F : FieldOf S) (L : Lawful R.ring)
    (I : IsField R.ring F.order F.odd F.levels (λ c. R.value (F.at c)) (R.value F.zeta)) (f : List R.ring.V) where
  pub lift_from : (k : ℕ) (b : R.ring.V) (c : ℕ) → (k ≡ 0 → ⊥) → b ≢ R.ring.nought → Alone R F f k b c → Lift R F f k b c
  lift_from k b c pos ne a = record {
    simple = (ne, simple_from R.ring L b (tower R.ring f k) a.level steep);
    root = (a.code, a.root);
    powers = a.powers;
    once = λ x r p. element_once R F L I f x c r.0 a.code (a.once (element R F x) r.1 p);
  }
    where
      steep : slope R.ring (tower R.ring f k) b ≢ R.ring.nought
      steep = ⊎_elim (λ s. s) (λ z. absurd (pos z)) a.simple

  pub no_lift : (k : ℕ) (b : R.ring.V) (w : Verdict) → Judged R F f k b w → ((c : Code) → w ≡ Root c → ⊥) → Simple R F f k b → ⊥
  no_lift k b Nothing j other s = j (simple_root R.ring L b (tower R.ring f k) s.1).0
  no_lift k b (Root c) j other s = other c refl
  no_lift k b Both j other s = (simple_root R.ring L b (tower R.ring f k) s.1).1 j.2
