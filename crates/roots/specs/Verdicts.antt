-- What a verdict on the level k at b says of the roots of f.
use Rattle.std.specs.Prelude.{◌≡◌, ℕ, ◌^◌, ◌<◌, ◌≢◌, ◌⊎◌, List}
use Rattle.algebra.specs.Rings.{power}
use Rattle.algebra.specs.Polynomials.{eval}
use Rattle.algebra.specs.Graeffe.{tower}
use Rattle.algebra.specs.declared.ring.Ring.{Ghosts as RingOf}
use Rattle.algebra.specs.declared.field.Field.{Ghosts as FieldOf}
use Rattle.roots.specs.Codes.{element}
use Rattle.roots.specs.Slopes.{slope}
use Rattle.roots.specs.declared.verdict.Verdict.{Verdict}
use Rattle.roots.specs.declared.verdict.Verdict.TheVariants.{Nothing, Root, Both}

-- c is the code of the one root whose power 2^k is b, which is a simple root of the level unless that is f itself
pub record Alone {S : Type 0} (R : RingOf S) (F : FieldOf S) (f : List R.ring.V) (k : ℕ) (b : R.ring.V) (c : ℕ) : Type 0 where
  pub level : eval R.ring (tower R.ring f k) b ≡ R.ring.nought
  pub simple : (slope R.ring (tower R.ring f k) b ≢ R.ring.nought) ⊎ (k ≡ 0)
  pub code : c < F.order
  pub root : eval R.ring f (element R F c) ≡ R.ring.nought
  pub powers : power R.ring (element R F c) (2 ^ k) ≡ b
  pub once : (x : R.ring.V) → eval R.ring f x ≡ R.ring.nought → power R.ring x (2 ^ k) ≡ b → x ≡ element R F c

abbrev pub Judged : {S : Type 0} (R : RingOf S) (F : FieldOf S) → List R.ring.V → ℕ → R.ring.V → Verdict → Type 0
Judged R F f k b Nothing = eval R.ring (tower R.ring f k) b ≢ R.ring.nought
Judged R F f k b (Root c) = Alone R F f k b c.0
Judged R F f k b Both = (0 < k) × (eval R.ring (tower R.ring f k) b ≡ R.ring.nought) × (slope R.ring (tower R.ring f k) b ≡ R.ring.nought)
