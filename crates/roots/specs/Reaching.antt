-- What a visit of the level k at the power e of the primitive element finds.
use Rattle.std.specs.Prelude.{◌≡◌, ℕ, ◌-◌, ◌^◌, ◌≤◌, List}
use Rattle.algebra.specs.Rings.{power}
use Rattle.algebra.specs.declared.ring.Ring.{Ghosts as RingOf}
use Rattle.algebra.specs.declared.field.Field.{Ghosts as FieldOf}
use Rattle.roots.specs.Codes.{element}
use Rattle.roots.specs.Roots.{Root, Repeated}

-- the primitive element to the power e
abbrev pub zeta_power : {S : Type 0} (R : RingOf S) (F : FieldOf S) → ℕ → R.ring.V
zeta_power R F e = power R.ring (R.value F.zeta) e

-- the root of the code c has that element for its power 2^k
pub record Reach {S : Type 0} (R : RingOf S) (F : FieldOf S) (f : List R.ring.V) (k e c : ℕ) : Type 0 where
  pub root : Root R F f c
  pub powers : power R.ring (element R F c) (2 ^ k) ≡ zeta_power R F e

-- a repeated root of a level from 1 to k that has it for its power, on the level k
pub record Below {S : Type 0} (R : RingOf S) (F : FieldOf S) (f : List R.ring.V) (k e : ℕ) (p : ℕ × ℕ) : Type 0 where
  pub repeated : Repeated R F f p
  pub under : p.0 ≤ k
  pub powers : power R.ring (element R F p.1) (2 ^ (k - p.0)) ≡ zeta_power R F e
