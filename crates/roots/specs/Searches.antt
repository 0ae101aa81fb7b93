-- What a search stands on, and what a visit adds to it.
use Rattle.std.specs.Prelude.{◌≡◌, ℕ, ◌+◌, ◌-◌, ◌*◌, ◌^◌, ◌<◌, ◌≤◌, ◌≢◌, ◌⊎◌, ◌↔◌, List, length, take, drop}
use Rattle.algebra.specs.Duals.{dual}
use Rattle.algebra.specs.Polynomials.{coefficient}
use Rattle.algebra.specs.Graeffe.{tower}
use Rattle.algebra.specs.declared.dual.Dual.{Dual}
use Rattle.algebra.specs.declared.ring.Ring.{Ghosts as RingOf}
use Rattle.algebra.specs.declared.field.Field.{Ghosts as FieldOf}
use Rattle.roots.specs.Lists.{In, Distinct}
use Rattle.roots.specs.Tangents.{tangent}
use Rattle.roots.specs.Codes.{duals}
use Rattle.roots.specs.Roots.{Root, Ascending}
use Rattle.roots.specs.Reaching.{Reach, Below}

-- the work space has the tangent tower of f, level after level, n dual numbers each
pub record Holds {S : Type 0} (R : RingOf S) (F : FieldOf S) (f : List R.ring.V) (n : ℕ) (work : List (Dual S)) : Type 0 where
  pub room : (j : ℕ) → j ≤ F.levels → j * n + n ≤ length work
  pub level : (j : ℕ) → j ≤ F.levels → duals R (take n (drop (j * n) work)) ≡ tower (dual R.ring) (tangent R.ring f) j

-- the codes found so far are roots, ascending, and none that the visit of the level k at the power e is to find
pub record Ready {S : Type 0} (R : RingOf S) (F : FieldOf S) (f : List R.ring.V) (k e : ℕ) (found : List ℕ) : Type 0 where
  pub some : 0 < length f
  pub top : coefficient R.ring f (length f - 1) ≢ R.ring.nought
  pub low : k ≤ F.levels
  pub multiple : (a : ℕ) × (e ≡ a * 2 ^ k)
  pub below : e < F.order - 1
  pub ascending : Ascending found
  pub roots : (c : ℕ) → In c found → Root R F f c
  pub fresh : (c : ℕ) → In c found → Reach R F f k e c → ⊥

-- what the visit leaves: the roots that it found besides, and the trials, one and two for each repeated root
pub record Visited {S : Type 0} (R : RingOf S) (F : FieldOf S) (f : List R.ring.V) (k e : ℕ) (before after : List ℕ) (t u : ℕ) : Type 0 where
  pub ascending : Ascending after
  pub found : (c : ℕ) → In c after ↔ (In c before ⊎ Reach R F f k e c)
  pub tried : (ps : List (ℕ × ℕ)) × Distinct ps × ((p : ℕ × ℕ) → In p ps ↔ Below R F f k e p) × (u ≡ t + 1 + 2 * length ps)
  pub few : u + 1 ≤ t + 2 ^ (k + 1)

-- c is the code of a root: of zero, or of one that the first i visits of the top level find
abbrev pub Started : {S : Type 0} (R : RingOf S) (F : FieldOf S) (f : List R.ring.V) → ℕ → ℕ → Type 0
Started R F f i c = Root R F f c × ((c ≡ 0) ⊎ ((j : ℕ) × (j < i) × Reach R F f F.levels (j * 2 ^ F.levels) c))

-- what the search has after the first i visits of the top level
pub record Searched {S : Type 0} (R : RingOf S) (F : FieldOf S) (f : List R.ring.V) (i : ℕ) (found : List ℕ) (t : ℕ) : Type 0 where
  pub ascending : Ascending found
  pub roots : (c : ℕ) → In c found ↔ Started R F f i c
  pub tried : (ps : List (ℕ × ℕ)) × Distinct ps × ((p : ℕ × ℕ) → In p ps ↔ ((j : ℕ) × (j < i) × Below R F f F.levels (j * 2 ^ F.levels) p)) × (t ≡ i + 2 * length ps)
  pub few : t ≤ i * 2 ^ (F.levels + 1)
