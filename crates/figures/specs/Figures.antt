-- Worked figures over the field of 17 elements: transforms, lists of roots, lifts, a root of multiplicity 17, and tallies.
use Rattle.std.specs.Prelude.{◌≡◌, ℕ, ◌-◌, ◌<◌, Bool, true, false, ◌≢◌, ◌↔◌, List, [], ◌∷◌, ◌++◌, map, length, replicate, ◌==◌, slice_index}
use Rattle.algebra.specs.Rings.{Ops}
use Rattle.algebra.specs.Duals.{dual}
use Rattle.algebra.specs.Graeffe.{transform, tower}
use Rattle.algebra.specs.declared.ring.Ring.{Ghosts as RingOf}
use Rattle.algebra.specs.declared.field.Field.{Ghosts as FieldOf}
use Rattle.fields.specs.declared.seventeen.Seventeen.{Seventeen}
use Rattle.fields.specs.contracts.seventeen.SeventeenRing.TheImpl as seventeen-ring
use Rattle.fields.specs.contracts.seventeen.SeventeenField.TheImpl as seventeen-field
use Rattle.roots.specs.Lists.{In, added}
use Rattle.roots.specs.Division.{Multiplicity}
use Rattle.roots.specs.Slopes.{reals, epsilons}
use Rattle.roots.specs.Tangents.{tangent}
use Rattle.roots.specs.Codes.{element, polynomial}
use Rattle.roots.specs.Roots.{Root, Simple, Lift, Trials}
use Rattle.algebra.specs.Refusals.{accepted}
use Rattle.tally.specs.declared.call.Call.TheVariants.{Enter}
use Rattle.tally.specs.Contents.{answering}
use Rattle.tally.specs.Logs.{Line, Log, line, Answered, moved, net, moment}

-- what the implementations of the ring and of the field say of the elements
abbrev pub R17 : RingOf Seventeen
R17 = seventeen-ring.ghosts

abbrev pub F17 : FieldOf Seventeen
F17 = seventeen-field.ghosts

abbrev pub o17 : Ops
o17 = R17.ring

-- the value of a code, and the polynomial of a list of codes, the constant first
abbrev pub value : ℕ → o17.V
value c = element R17 F17 c

abbrev pub coefficients : List ℕ → List o17.V
coefficients cs = polynomial R17 F17 (map (λ c. record { 0 = c }) cs)

-- the polynomial of these codes has these roots, each code with its multiplicity, and no other, splits or does not, and takes that many trials
pub record RootFigure (cs : List ℕ) (roots : List (ℕ × ℕ)) (splits : Bool) (trials : ℕ) : Type 0 where
  pub all : (c : ℕ) → In c (map (λ r. r.0) roots) ↔ Root R17 F17 (coefficients cs) c
  pub multiplicities : (r : ℕ × ℕ) → In r roots → Multiplicity o17 (coefficients cs) (value r.0) r.1
  pub splitting : splits ≡ (added (map (λ r. r.1) roots) == length (coefficients cs) - 1)
  pub tried : Trials R17 F17 (coefficients cs) trials

-- x^17 - 3
abbrev pub seventeenth : List ℕ
seventeenth = 14 ∷ (replicate 16 0 ++ (1 ∷ []))

-- n of the code a entered, and accepted
abbrev pub entered : (a n : ℕ) → Line
entered a n = line Enter a n accepted

-- the log is answered as defined and moved t, and the sums from S_0 on of a tally that has kept it have these codes
pub record LogFigure (log : Log) (t : ℕ) (sums : List ℕ) : Type 0 where
  pub answered : Answered 17 0 log
  pub turnover : moved log ≡ t
  pub codes : (k : ℕ) → k < length sums → moment o17 value log k ≡ value (slice_index sums k)

pub record Figures : Type 0 where
  -- transforms; the last one has a zero on top
  pub transform_quadratic : transform o17 (coefficients (2 ∷ 14 ∷ 1 ∷ [])) ≡ coefficients (4 ∷ 12 ∷ 1 ∷ [])
  pub transform-linear : transform o17 (coefficients (14 ∷ 1 ∷ [])) ≡ coefficients (8 ∷ 1 ∷ [])
  pub transform_padded : transform o17 (coefficients (2 ∷ 14 ∷ 1 ∷ 0 ∷ [])) ≡ coefficients (13 ∷ 5 ∷ 16 ∷ 0 ∷ [])
  -- the level 1 of the tangent tower of x² - 3x + 2
  pub tangent-reals : reals (tower (dual o17) (tangent o17 (coefficients (2 ∷ 14 ∷ 1 ∷ []))) 1) ≡ coefficients (4 ∷ 12 ∷ 1 ∷ [])
  pub tangent-epsilons : epsilons (tower (dual o17) (tangent o17 (coefficients (2 ∷ 14 ∷ 1 ∷ []))) 1) ≡ coefficients (5 ∷ 6 ∷ 0 ∷ [])
  -- (x - 1)(x - 2), x² + 1, x² - 3, (x - 1)(x - 5)² and x³
  pub roots_apart : RootFigure (2 ∷ 14 ∷ 1 ∷ []) ((1, 1) ∷ (2, 1) ∷ []) true 5
  pub roots_opposite : RootFigure (1 ∷ 0 ∷ 1 ∷ []) ((4, 1) ∷ (13, 1) ∷ []) true 9
  pub roots_none : RootFigure (14 ∷ 0 ∷ 1 ∷ []) [] false 1
  pub roots_twice : RootFigure (9 ∷ 1 ∷ 6 ∷ 1 ∷ []) ((1, 1) ∷ (5, 2) ∷ []) true 9
  pub roots_zero : RootFigure (0 ∷ 0 ∷ 0 ∷ 1 ∷ []) ((0, 3) ∷ []) true 1
  -- lifts at the level 1: 4 is the square of the root 2, and 16 is the square of the two roots 4 and 13
  pub lift_one : Lift R17 F17 (coefficients (2 ∷ 14 ∷ 1 ∷ [])) 1 (value 4) 2
  pub lift_none : Simple R17 F17 (coefficients (1 ∷ 0 ∷ 1 ∷ [])) 1 (value 16) → ⊥
  -- x^17 - 3 is (x - 3)^17
  pub all_roots_three : (c : ℕ) → (c ≡ 3) ↔ Root R17 F17 (coefficients seventeenth) c
  pub seventeen_times : Multiplicity o17 (coefficients seventeenth) (value 3) 17
  -- one of 3 and two of 5, at a width of 2 and a spare of 1; then two more are too many, and one more is not
  pub log_three_five : LogFigure (entered 3 1 ∷ entered 5 2 ∷ []) 3 (3 ∷ 13 ∷ 8 ∷ 5 ∷ 5 ∷ [])
  pub two_more_full : answering 17 3 7 2 ≡ (4, 3 ∷ [])
  pub one_more_taken : answering 17 3 7 1 ≡ accepted
  -- one of 3 and two of 4
  pub log_three_four : LogFigure (entered 3 1 ∷ entered 4 2 ∷ []) 3 (3 ∷ 11 ∷ 7 ∷ 2 ∷ 15 ∷ [])
  -- one each of 1 and 3 against two of 2, at a width of 1 and no spare: equal sums, and three codes that differ
  pub log_one_three : LogFigure (entered 1 1 ∷ entered 3 1 ∷ []) 2 (2 ∷ 4 ∷ [])
  pub log_two_two : LogFigure (entered 2 2 ∷ []) 2 (2 ∷ 4 ∷ [])
  pub out_of_reach : (c : ℕ) → In c (1 ∷ 2 ∷ 3 ∷ []) → net (entered 1 1 ∷ entered 3 1 ∷ []) c ≢ net (entered 2 2 ∷ []) c
