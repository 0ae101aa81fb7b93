-- What reading and writing a sheet do, and what a tally holds in terms of the codes of its sums.
use Rattle.std.specs.Prelude.{◌≡◌, ℕ, ◌+◌, ◌*◌, ◌<◌, ◌≤◌, List, ◌++◌, length, take, drop, Result, MatchResult, slice_index}
use Rattle.algebra.specs.Rings.{Ops}
use Rattle.algebra.specs.declared.refusal.Refusal.{Refusal}
use Rattle.tally.specs.Contents.{Contents, count, limit}
use Rattle.tally.specs.Logs.{Log, Kept}
use Rattle.sheet.specs.declared.fault.SheetFault.{SheetFault}
use Rattle.sheet.specs.Sheets.{sheet_bytes, sheet_long, told_codes}

-- a job name: at most 40 bytes, each from 32 to 126
pub record Named (name : List ℕ) : Type 0 where
  pub most : length name ≤ 40
  pub letters : (k : ℕ) → k < length name → (32 ≤ slice_index name k) × (slice_index name k ≤ 126)

-- a width and a spare that a frame may have
pub record Framed (w s : ℕ) : Type 0 where
  pub some : 1 ≤ w
  pub width : w ≤ 32
  pub spare : s ≤ 32

-- n codes, each below q
pub record Codes (q n : ℕ) (codes : List ℕ) : Type 0 where
  pub long : length codes ≡ n
  pub small : (k : ℕ) → k < n → slice_index codes k < q

-- what a sheet may hold
pub record Sound (q w s t : ℕ) (codes name : List ℕ) : Type 0 where
  pub framed : Framed w s
  pub turnover : t ≤ limit q
  pub coded : Codes q (2 * w + s) codes
  pub named : Named name

-- the codes of all sums of a tally
pub record CodesOf {V : Type 0} (q : ℕ) (at : ℕ → V) (c : Contents V) (codes : List ℕ) : Type 0 where
  pub coded : Codes q (count c) codes
  pub means : (k : ℕ) → k < count c → at (slice_index codes k) ≡ c.sum k

-- a tally of this frame and turnover, whose sums have these codes
pub record Holds {V : Type 0} (q : ℕ) (at : ℕ → V) (w s t : ℕ) (codes : List ℕ) (c : Contents V) : Type 0 where
  pub width : c.width ≡ w
  pub spare : c.spare ≡ s
  pub turnover : c.turnover ≡ t
  pub coded : CodesOf q at c codes

-- the bytes begin with the sheet of the tally and the name, and `rest` comes after it
pub record Taken {V : Type 0} (q : ℕ) (at : ℕ → V) (bs name rest : List ℕ) (c : Contents V) : Type 0 where
  pub whole : bs ≡ sheet_bytes q c.width c.spare c.turnover (told_codes bs (count c)) name ++ rest
  pub sound : Sound q c.width c.spare c.turnover (told_codes bs (count c)) name
  pub coded : CodesOf q at c (told_codes bs (count c))

-- a sheet that stands at the start of the bytes is read as what it was made of, whatever comes after it
abbrev pub ReadsBack : {V P : Type 0} (q : ℕ) (at : ℕ → V) (bs : List ℕ) (name rest : P → List ℕ) → Result P SheetFault → Contents V → Type 0
ReadsBack q at bs name rest r c =
    (w s t : ℕ) (codes named more : List ℕ) → Sound q w s t codes named → bs ≡ sheet_bytes q w s t codes named ++ more
    → MatchResult r (λ p. (name p ≡ named) × (rest p ≡ more) × Holds q at w s t codes c) (λ _. ⊥)

-- a tally that is read has every log of a tally of which the sheet was written
abbrev pub ReadsLog : {P : Type 0} (o : Ops) (q : ℕ) (at : ℕ → o.V) (bs : List ℕ) → Result P SheetFault → Contents o.V → Type 0
ReadsLog o q at bs r c =
    (log : Log) (b : Contents o.V) (codes named more : List ℕ) → Kept o q at log b → Framed b.width b.spare → CodesOf q at b codes → Named named
    → bs ≡ sheet_bytes q b.width b.spare b.turnover codes named ++ more → MatchResult r (λ _. Kept o q at log c) (λ _. ⊥)

-- the sheet of the tally and the name stands in the first n bytes, and what comes after it is as it was; the tally has no other codes
pub record Written {V : Type 0} (q : ℕ) (at : ℕ → V) (c : Contents V) (name before after : List ℕ) (n : ℕ) : Type 0 where
  pub named : Named name
  pub long : n ≡ sheet_long (count c) (length name)
  pub codes : List ℕ
  pub coded : CodesOf q at c codes
  pub only : (other : List ℕ) → CodesOf q at c other → other ≡ codes
  pub sheet : take n after ≡ sheet_bytes q c.width c.spare c.turnover codes name
  pub tail : drop n after ≡ drop n before

-- a tally and a name that were read from bytes are written as the same bytes, where there is room
abbrev pub WritesAgain : {V : Type 0} (q : ℕ) (at : ℕ → V) (c : Contents V) (name before after : List ℕ) → Result ℕ Refusal → Type 0
WritesAgain q at c name before after r =
    (bs rest : List ℕ) → Taken q at bs name rest c → MatchResult r (λ n. bs ≡ take n after ++ rest) (λ _. length before < sheet_long (count c) (length name))
