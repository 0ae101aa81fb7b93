-- What follows from an accepted sheet: the tally and the name that it was made of, and their logs.
use Rattle.std.proofs.Common.{◌≡◌, ℕ, ◌+◌, ◌*◌, ◌^◌, ◌<◌, ◌≤◌, Bool, true, false, cond, ◌||◌, eqb, leb, List, [], ◌∷◌, ◌++◌, take, drop, Ok, Err, Result, sym, refl, ap, ◌∙◌, subst, arith, Bor, ltb-false, eqb-true, MatchResult, IsErr}
use Rattle.std.proofs.lemmas.Result.{MatchResult-from_err}
use Rattle.algebra.specs.Refusals.{accepted, or_else}
use Rattle.algebra.specs.Rings.{Ops}
use Rattle.algebra.specs.Fields.{Bounded}
use Rattle.tally.specs.Contents.{Contents, count, limit}
use Rattle.tally.specs.Logs.{Log, Line, Answered, moved, took, Kept}
use Rattle.sheet.specs.declared.fault.NumberFault.{NumberFault}
use Rattle.sheet.specs.declared.fault.NumberFault.TheVariants.{Cut, Count, Value}
use Rattle.sheet.specs.declared.fault.SheetFault.{SheetFault}
use Rattle.sheet.specs.declared.fault.SheetFault.TheVariants.{Frame, Sums, Job}
use Rattle.sheet.specs.Faults.{item_answer, fault_answer, sheet_reply}
use Rattle.sheet.specs.Sheets.{sheet_bytes, told_codes, number_at, reading}
use Rattle.sheet.specs.Reads.{Sound, CodesOf, Holds, Taken, ReadsBack, ReadsLog}
use Rattle.sheet.proofs.Back.{told}

item_refuses : (s : ℕ) (f : NumberFault) → item_answer s f ≡ accepted → ⊥
item_refuses s (Cut p) e = let z : ◌≡◌ {A = ℕ} 12 0 = ap (λ x. x.0) e in omega arith
item_refuses s (Count p) e = let z : ◌≡◌ {A = ℕ} 13 0 = ap (λ x. x.0) e in omega arith
item_refuses s (Value p) e = let z : ◌≡◌ {A = ℕ} 14 0 = ap (λ x. x.0) e in omega arith

pub fault_refuses : (f : SheetFault) → fault_answer f ≡ accepted → ⊥
fault_refuses (Frame f) e = item_refuses 1 f.0 e
fault_refuses (Sums f) e = item_refuses 2 f.0 e
fault_refuses (Job f) e = item_refuses 3 f.0 e

module _ {V P : Type 0} (q : ℕ) (at : ℕ → V) (bs : List ℕ) (name rest : P → List ℕ) (c : Contents V) (some : 1 ≤ q) (low : q < 2 ^ 31) where
  ok_back : (p : P) → Taken q at bs (name p) (rest p) c → (w s t : ℕ) (codes named more : List ℕ) → Sound q w s t codes named
      → bs ≡ sheet_bytes q w s t codes named ++ more → (name p ≡ named) × (rest p ≡ more) × Holds q at w s t codes c
  ok_back p h w s t codes named more sound is =
      let mine = told q c.width c.spare c.turnover (told_codes bs (count c)) (name p) (rest p) bs some low h.sound h.whole in
      let given = told q w s t codes named more bs some low sound is in
      let ew : c.width ≡ w = sym mine.width ∙ given.width in
      let es : c.spare ≡ s = sym mine.spare ∙ given.spare in
      let en : count c ≡ 2 * w + s = omega arith in
      let codes-are : told_codes bs (count c) ≡ codes = ap (told_codes bs) en ∙ given.coded in (
        sym mine.named ∙ ap (λ n. take (number_at bs (24 + 4 * n)) (drop (24 + 4 * n + 4) bs)) en ∙ given.named,
        sym mine.after ∙ ap (λ n. drop (number_at bs (24 + 4 * n)) (drop (24 + 4 * n + 4) bs)) en ∙ given.after,
        record { width = ew; spare = es; turnover = sym mine.turnover ∙ given.turnover; coded = subst (CodesOf q at c) codes-are h.coded },
      )

  pub reads_back : (Q : SheetFault → Type 0) (r : Result P SheetFault) → sheet_reply r ≡ reading q bs → MatchResult r (λ p. Taken q at bs (name p) (rest p) c) Q
      → ReadsBack q at bs name rest r c
  reads_back Q (Ok p) answers h = ok_back p h
  reads_back Q (Err e) answers h = λ w s t codes named more sound is.
      fault_refuses e (answers ∙ (told q w s t codes named more bs some low sound is).accepts)

-- an accepted line keeps the turnover within the limit
not_full : (x y z : Bool) (a t : List ℕ) → (or_else (cond x (2, a) accepted) (or_else (cond y (3, []) accepted) (cond z (4, t) accepted))).0 ≡ 0 → z ≡ false
not_full true y z a t e = let none : ⊥ = omega arith in absurd none
not_full false true z a t e = let none : ⊥ = omega arith in absurd none
not_full false false true a t e = let none : ⊥ = omega arith in absurd none
not_full false false false a t e = refl

line-within : (q t : ℕ) (l : Line) (b : Bool) → took l ≡ b → t ≤ limit q → Answered q t (l ∷ []) → t + cond b l.quantity 0 ≤ limit q
line-within q t l false e h a = omega arith
line-within q t l true e h a =
    let zero : l.answer.0 ≡ 0 = eqb-true _ 0 e in
    omega (arith, ltb-false (limit q) (t + l.quantity) (not_full (eqb l.code 0 || leb q l.code) (eqb l.quantity 0) _ (l.code ∷ []) (t ∷ []) (sym (ap (λ x. x.0) a.0) ∙ zero)))

log_within : (q t : ℕ) (log : Log) → t ≤ limit q → Answered q t log → t + moved log ≤ limit q
log_within q t [] h a = omega arith
log_within q t (l ∷ ls) h a =
    let one = line-within q t l (took l) refl h (a.0, tt) in
    omega (arith, log_within q (t + cond (took l) l.quantity 0) ls one a.1)

pub kept_within : (o : Ops) (q : ℕ) (at : ℕ → o.V) (log : Log) (c : Contents o.V) → Kept o q at log c → c.turnover ≤ limit q
kept_within o q at log c k = omega (arith, log_within q 0 log (omega arith) k.answered, k.turnover)

module _ {P : Type 0} (o : Ops) (q : ℕ) (at : ℕ → o.V) (bs : List ℕ) (name rest : P → List ℕ) (c : Contents o.V) where
  pub reads_log : (r : Result P SheetFault) → ReadsBack q at bs name rest r c → ReadsLog o q at bs r c
  reads_log (Ok p) back = λ log b codes named more kept framed coded names is.
      let h = (back b.width b.spare b.turnover codes named more (record { framed = framed; turnover = kept_within o q at log b kept; coded = coded.coded; named = names }) is).2 in
      record {
        answered = kept.answered;
        turnover = h.turnover ∙ kept.turnover;
        sums = λ k l. let lb : k < count b = omega (arith, h.width, h.spare) in sym (h.coded.means k l) ∙ coded.means k lb ∙ kept.sums k lb;
      }
  reads_log (Err e) back = λ log b codes named more kept framed coded names is.
      back b.width b.spare b.turnover codes named more (record { framed = framed; turnover = kept_within o q at log b kept; coded = coded.coded; named = names }) is

-- the name and the rest, as parts of the bytes
abbrev pub Parts : Type 0
Parts = Bor (List ℕ) × Bor (List ℕ)

abbrev pub Read : (o : Ops) (q : ℕ) (at : ℕ → o.V) (bs : List ℕ) (c : Contents o.V) → Parts → Type 0
Read o q at bs c p = Taken q at bs p.0.now p.1.now c

module _ (o : Ops) (q : ℕ) (at : ℕ → o.V) (bs : List ℕ) (c : Contents o.V) (bounded : Bounded q) where
  pub both_laws : (Q : SheetFault → Type 0) (r : Result Parts SheetFault) → sheet_reply r ≡ reading q bs → MatchResult r (Read o q at bs c) Q
      → ReadsBack q at bs (λ (p : Parts). p.0.now) (λ (p : Parts). p.1.now) r c × ReadsLog o q at bs r c
  both_laws Q r answers taken =
      let back = reads_back q at bs (λ (p : Parts). p.0.now) (λ (p : Parts). p.1.now) c (omega arith) bounded.high Q r answers taken in
      (back, reads_log o q at bs (λ (p : Parts). p.0.now) (λ (p : Parts). p.1.now) c r back)

  -- the laws where a fault is answered
  pub refused_laws : (Q : SheetFault → Type 0) → ((e : SheetFault) → Q e) → (r : Result Parts SheetFault) → IsErr r → sheet_reply r ≡ reading q bs
      → MatchResult r (Read o q at bs c) Q × ReadsBack q at bs (λ (p : Parts). p.0.now) (λ (p : Parts). p.1.now) r c × ReadsLog o q at bs r c
  refused_laws Q stays r h answers =
      let taken = MatchResult-from_err r (Read o q at bs c) Q h stays in
      let laws = both_laws Q r answers taken in
      (taken, laws.0, laws.1)
