-- What a section of a sheet tells where each of its items is good, what its reader answers where one is not, and what is written.
use Rattle.std.specs.Prelude.{◌≡◌, ℕ, ◌+◌, ◌-◌, ◌*◌, ◌/◌, ◌<◌, ◌≤◌, Bool, false, ◌⊎◌, List, ◌++◌, length, take, drop}
use Rattle.tally.specs.Contents.{Contents}
use Rattle.sheet.specs.declared.fault.NumberFault.{NumberFault}
use Rattle.sheet.specs.declared.fault.NumberFault.TheVariants.{Cut}
use Rattle.sheet.specs.Reads.{Named, CodesOf}
use Rattle.sheet.specs.Sheets.{sums_bytes, Good}

-- the section of the frame
pub record FrameTold (q : ℕ) (bs : List ℕ) (w s t : ℕ) : Type 0 where
  pub count : Good bs 0 4 4 4
  pub order : Good bs 4 q q q
  pub width : Good bs 8 1 32 w
  pub spare : Good bs 12 0 32 s
  pub turnover : Good bs 16 0 ((q - 1) / 4) t

-- the section of n sums, whose codes are `code`
pub record SumsTold (q n : ℕ) (bs : List ℕ) (code : ℕ → ℕ) : Type 0 where
  pub count : Good bs 20 n n n
  pub codes : (k : ℕ) → k < n → Good bs (24 + 4 * k) 0 (q - 1) (code k)

-- the section of the job name, from place p to place r
pub record NameTold (p : ℕ) (bs name : List ℕ) (r : ℕ) : Type 0 where
  pub count : Good bs p 0 40 (length name)
  pub named : Named name
  pub cut : drop (p + 4) bs ≡ name ++ drop r bs

-- an item of `size` bytes at a place was refused: the bytes end before it does, or it is not good, and the fault is as told
pub record Refused (told : NumberFault → Type 0) (bs : List ℕ) (place size : ℕ) (good : Bool) (e : NumberFault) : Type 0 where
  pub why : ((length bs < place + size) × (e ≡ Cut place)) ⊎ ((place + size ≤ length bs) × (good ≡ false) × told e)

-- bytes were put from place p to place r, and all other bytes are as they were
pub record Puts (bytes before : List ℕ) (p : ℕ) (after : List ℕ) (r : ℕ) : Type 0 where
  pub place : r ≡ p + length bytes
  pub long : length after ≡ length before
  pub front : take r after ≡ take p before ++ bytes
  pub back : drop r after ≡ drop r before

-- the section of the sums was put, with codes of all sums
pub record SumsPut {V : Type 0} (q : ℕ) (at : ℕ → V) (c : Contents V) (before : List ℕ) (p : ℕ) (after : List ℕ) (r : ℕ) : Type 0 where
  pub codes : List ℕ
  pub coded : CodesOf q at c codes
  pub puts : Puts (sums_bytes codes) before p after r
