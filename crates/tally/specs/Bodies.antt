-- What a tally holds, as values of the field, and the logs that it has kept.
use Rattle.std.specs.Prelude.{◌≡◌, ℕ, [], ◌∷◌, ◌++◌, map, slice_index_or}
use Rattle.algebra.specs.declared.ring.Ring.{Ghosts as RingOf}
use Rattle.algebra.specs.declared.field.Field.{Ghosts as FieldOf}
use Rattle.tally.specs.declared.call.Call.{Call}
use Rattle.tally.specs.declared.frame.Frame.{Frame}
use Rattle.tally.specs.declared.sums.Sums.{Sums}
use Rattle.tally.specs.Contents.{Contents, Moved}
use Rattle.tally.specs.Logs.{Line, Log, Kept}
use Rattle.tally.specs.Nets.{Netted}

-- what the element of a code means
abbrev pub element : {S : Type 0} (R : RingOf S) (F : FieldOf S) → ℕ → R.ring.V
element R F c = R.value (F.at c)

abbrev pub contents : {S : Type 0} (R : RingOf S) → Sums S → Contents R.ring.V
contents R b = record { width = b.frame.width; spare = b.frame.spare; turnover = b.turnover; sum = λ k. slice_index_or (map R.value b.sums) k R.ring.nought }

-- a tally of this frame in which nothing was moved
pub record Fresh {S : Type 0} (R : RingOf S) (frame : Frame) (b : Sums S) : Type 0 where
  pub framed : b.frame ≡ frame
  pub turnover : b.turnover ≡ 0
  pub sums : (k : ℕ) → (contents R b).sum k ≡ R.ring.nought

-- n of the code a were entered or withdrawn
abbrev pub Moves : {S : Type 0} (R : RingOf S) (F : FieldOf S) (call : Call) (a n : ℕ) (before after : Sums S) → Type 0
Moves R F call a n before after = Moved R.ring call (element R F a) n (contents R before) (contents R after)

-- the tally has kept the log
abbrev pub Keeps : {S : Type 0} (R : RingOf S) (F : FieldOf S) → Log → Sums S → Type 0
Keeps R F log b = Kept R.ring F.order (element R F) log (contents R b)

-- whatever log the tally had kept, it has kept that log with the line after it
abbrev pub Continues : {S : Type 0} (R : RingOf S) (F : FieldOf S) → Line → (before after : Sums S) → Type 0
Continues R F l before after = (log : Log) → Keeps R F log before → Keeps R F (log ++ (l ∷ [])) after

-- the sums are those of the net counts of the log
abbrev pub FollowsNets : {S : Type 0} (R : RingOf S) (F : FieldOf S) → Log → Sums S → Type 0
FollowsNets R F log b = Netted R.ring F.order (element R F) log (contents R b)
