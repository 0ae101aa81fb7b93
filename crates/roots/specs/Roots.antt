-- Roots, the roots of multiplicity 2 or more on the levels of the tower, and what lifting and listing answer.
use Rattle.std.specs.Prelude.{◌≡◌, ℕ, ◌+◌, ◌-◌, ◌*◌, ◌^◌, ◌<◌, ◌≤◌, Bool, cond, ◌||◌, ◌≢◌, ◌↔◌, List, [], ◌∷◌, map, length, take, drop, Option, MatchOption, ◌==◌, nat_le, nat_lt, slice_index_or}
use Rattle.algebra.specs.Rings.{power}
use Rattle.algebra.specs.Polynomials.{eval}
use Rattle.algebra.specs.Graeffe.{tower}
use Rattle.algebra.specs.Refusals.{accepted, or_else, short}
use Rattle.algebra.specs.declared.code.Code.{Code}
use Rattle.algebra.specs.declared.ring.Ring.{Ghosts as RingOf}
use Rattle.algebra.specs.declared.field.Field.{Ghosts as FieldOf}
use Rattle.roots.specs.Lists.{In, Distinct, added}
use Rattle.roots.specs.Division.{linear_power, Divides, Multiplicity}
use Rattle.roots.specs.Codes.{element, coded}
use Rattle.roots.specs.declared.record.RootRecord.{RootRecord}

module _ {S : Type 0} (R : RingOf S) (F : FieldOf S) (f : List R.ring.V) where
  -- the code of a root
  abbrev pub Root : ℕ → Type 0
  Root c = (c < F.order) × (eval R.ring f (element R F c) ≡ R.ring.nought)

  -- b is other than zero and a simple root of the level k
  abbrev pub Simple : ℕ → R.ring.V → Type 0
  Simple k b = (b ≢ R.ring.nought) × Multiplicity R.ring (tower R.ring f k) b 1

  -- c is the code of the one root whose power 2^k is b
  pub record Lift (k : ℕ) (b : R.ring.V) (c : ℕ) : Type 0 where
    pub simple : Simple k b
    pub root : Root c
    pub powers : power R.ring (element R F c) (2 ^ k) ≡ b
    pub once : (x : ℕ) → Root x → power R.ring (element R F x) (2 ^ k) ≡ b → x ≡ c

  -- what the lift of b at the level k answers: the code, or none where b is no simple root
  abbrev pub Lifted : ℕ → R.ring.V → Option Code → Type 0
  Lifted k b r = MatchOption r (Simple k b → ⊥) (λ c. Lift k b c.0)

  -- a level and the code of an element other than zero that is a power 2^k and a root of multiplicity 2 or more there
  pub record Repeated (p : ℕ × ℕ) : Type 0 where
    pub low : 1 ≤ p.0
    pub high : p.0 ≤ F.levels
    pub code : p.1 < F.order
    pub nonzero : p.1 ≢ 0
    pub powered : (x : R.ring.V) × (power R.ring x (2 ^ p.0) ≡ element R F p.1)
    pub multiple : Divides R.ring (linear_power R.ring (element R F p.1) 2) (tower R.ring f p.0)

  -- the number of elements tried: the odd part, and two for each repeated root of a level
  abbrev pub Trials : ℕ → Type 0
  Trials n = (ps : List (ℕ × ℕ)) × Distinct ps × ((p : ℕ × ℕ) → In p ps ↔ Repeated p) × (n ≡ F.odd + 2 * length ps)

abbrev pub codes : List RootRecord → List ℕ
codes rs = map (λ r. r.code.0) rs

abbrev pub Ascending : List ℕ → Type 0
Ascending [] = Unit {0}
Ascending (x ∷ xs) = ((y : ℕ) → In y xs → x < y) × Ascending xs

-- the first n records are all roots, ascending by code, each with its multiplicity, and the rest is as before
pub record Listed {S : Type 0} (R : RingOf S) (F : FieldOf S) (f : List R.ring.V) (before after : List RootRecord) (n : ℕ) (splits : Bool) (trials : ℕ) : Type 0 where
  pub long : n ≤ length after
  pub ascending : Ascending (codes (take n after))
  pub all : (c : ℕ) → In c (codes (take n after)) ↔ Root R F f c
  pub multiplicities : (i : ℕ) (d : RootRecord) → i < n → Multiplicity R.ring f (element R F (slice_index_or after i d).code.0) (slice_index_or after i d).multiplicity
  pub rest : drop n after ≡ drop n before
  pub splitting : splits ≡ (added (map (λ r. r.multiplicity) (take n after)) == length f - 1)
  pub tried : Trials R F f trials

-- the answer of the call that writes a level of the tangent tower, from 0 up, for the codes of f, the level and a work space
abbrev pub levelling : (q m : ℕ) → List Code → ℕ → ℕ → ℕ × List ℕ
levelling q m cs k work = or_else (coded q cs) (or_else (cond (nat_lt m k) (11, k ∷ []) accepted) (short (2 * length cs) work))

-- the answer of the lift, for the codes of f, a level, a code and a work space
abbrev pub lifting : (q m : ℕ) → List Code → ℕ → ℕ → ℕ → ℕ × List ℕ
lifting q m cs k b work =
    or_else (coded q cs)
    (or_else (cond (k == 0 || nat_lt m k) (11, k ∷ []) accepted)
    (or_else (cond (nat_le q b) (2, b ∷ []) accepted) (short (2 * length cs) work)))

-- the answer of the root list, for the codes of f, a list and a work space
abbrev pub listing : (q m : ℕ) → List Code → ℕ → ℕ → ℕ × List ℕ
listing q m cs list work = or_else (coded q cs) (or_else (short (length cs - 1) list) (short ((m + 1) * length cs) work))
