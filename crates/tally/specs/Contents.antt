-- What a tally holds, and what an accepted call does to it.
use Rattle.std.specs.Prelude.{◌≡◌, ℕ, ◌+◌, ◌-◌, ◌*◌, ◌/◌, ◌<◌, cond, ◌&&◌, ◌||◌, List, [], ◌∷◌, ◌==◌, nat_le, nat_lt}
use Rattle.algebra.specs.Rings.{Ops, power, number}
use Rattle.algebra.specs.Refusals.{accepted, or_else}
use Rattle.tally.specs.declared.call.Call.{Call}
use Rattle.tally.specs.declared.call.Call.TheVariants.{Enter, Withdraw}

-- the sums S_0, S_1 and so on as values of the field; 2 width + spare of them count
pub record Contents (V : Type 0) : Type 0 where
  pub width : ℕ
  pub spare : ℕ
  pub turnover : ℕ
  pub sum : ℕ → V

abbrev pub count : {V : Type 0} → Contents V → ℕ
count s = 2 * s.width + s.spare

-- x with the sign of a call
abbrev pub signed : (o : Ops) → Call → o.V → o.V
signed o Enter x = x
signed o Withdraw x = o.minus x

-- the most that the turnover may come to in a field of order q
abbrev pub limit : ℕ → ℕ
limit q = (q - 1) / 4

-- the answer to a call with the code a and the quantity n at the turnover t: the code, then the quantity, then the limit
abbrev pub answering : (q t a n : ℕ) → ℕ × List ℕ
answering q t a n =
    or_else (cond (a == 0 || nat_le q a) (2, a ∷ []) accepted)
    (or_else (cond (n == 0) (3, []) accepted) (cond (nat_lt (limit q) (t + n)) (4, t ∷ []) accepted))

-- n of the element a were entered or withdrawn
pub record Moved (o : Ops) (call : Call) (a : o.V) (n : ℕ) (before after : Contents o.V) : Type 0 where
  pub width : after.width ≡ before.width
  pub spare : after.spare ≡ before.spare
  pub turnover : after.turnover ≡ before.turnover + n
  pub sum : (k : ℕ) → k < count before → after.sum k ≡ o.plus (before.sum k) (signed o call (o.times (number o n) (power o a k)))

-- all sums agree
abbrev pub Agree : {V : Type 0} → Contents V → Contents V → Type 0
Agree s t = (k : ℕ) → k < count s → s.sum k ≡ t.sum k

-- the answer to a frame of width w and spare s
abbrev pub framing : ℕ → ℕ → ℕ × List ℕ
framing w s = cond (w == 0 || (nat_lt 32 w || nat_lt 32 s)) (1, []) accepted

-- the answer to a comparison
abbrev pub comparing : {V : Type 0} → Contents V → Contents V → ℕ × List ℕ
comparing s t = cond (s.width == t.width && s.spare == t.spare) accepted (5, [])
