-- Logs of the calls on a tally, the net counts of their codes, and what it is for a tally to have kept a log.
use Rattle.std.specs.Prelude.{◌≡◌, ℕ, ◌+◌, ◌<◌, Bool, true, false, cond, ◌&&◌, List, [], ◌∷◌, ℤ, pos, ◌-ℤ◌, ◌==◌}
use Rattle.algebra.specs.Rings.{Ops, power, number}
use Rattle.tally.specs.declared.call.Call.{Call}
use Rattle.tally.specs.declared.call.Call.TheVariants.{Enter, Withdraw}
use Rattle.tally.specs.Contents.{Contents, count, signed, answering}

-- a call with its code, its quantity and its answer
pub record Line : Type 0 where
  pub call : Call
  pub code : ℕ
  pub quantity : ℕ
  pub answer : ℕ × List ℕ

-- the lines of a tally since it was opened, the oldest first
abbrev pub Log : Type 0
Log = List Line

abbrev pub line : Call → ℕ → ℕ → ℕ × List ℕ → Line
line c a n r = record { call = c; code = a; quantity = n; answer = r }

-- the call was accepted
abbrev pub took : Line → Bool
took l = l.answer.0 == 0

-- all that the accepted lines moved, in and out
abbrev pub moved : Log → ℕ
moved [] = 0
moved (l ∷ ls) = cond (took l) l.quantity 0 + moved ls

-- each line is answered as defined, where the lines before the first moved t
abbrev pub Answered : (q t : ℕ) → Log → Type 0
Answered q t [] = Unit {0}
Answered q t (l ∷ ls) = (l.answer ≡ answering q t l.code l.quantity) × Answered q (t + cond (took l) l.quantity 0) ls

abbrev pub same_call : Call → Call → Bool
same_call Enter Enter = true
same_call Enter Withdraw = false
same_call Withdraw Enter = false
same_call Withdraw Withdraw = true

-- how many of the code a the accepted lines of one call moved
abbrev pub counted : Call → Log → ℕ → ℕ
counted c [] a = 0
counted c (l ∷ ls) a = cond (took l && (same_call c l.call && l.code == a)) l.quantity 0 + counted c ls a

-- the net count of the code a: all entered less all withdrawn
abbrev pub net : Log → ℕ → ℤ
net log a = pos (counted Enter log a) -ℤ pos (counted Withdraw log a)

-- the sum over the accepted lines of the signed quantity times the power k of the code's element
abbrev pub moment : (o : Ops) → (ℕ → o.V) → Log → ℕ → o.V
moment o at [] k = o.nought
moment o at (l ∷ ls) k = o.plus (cond (took l) (signed o l.call (o.times (number o l.quantity) (power o (at l.code) k))) o.nought) (moment o at ls k)

-- the tally and the log belong together
pub record Kept (o : Ops) (q : ℕ) (at : ℕ → o.V) (log : Log) (s : Contents o.V) : Type 0 where
  pub answered : Answered q 0 log
  pub turnover : s.turnover ≡ moved log
  pub sums : (k : ℕ) → k < count s → s.sum k ≡ moment o at log k
