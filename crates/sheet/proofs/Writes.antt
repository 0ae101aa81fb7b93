-- What writing answers, and what stands in the bytes after it.
use Rattle.std.proofs.Common.{◌≡◌, ℕ, ◌+◌, ◌*◌, ◌<◌, ◌≤◌, List, [], ◌∷◌, ◌++◌, length, get_or, take, sym, refl, ap, subst, ◌∙◌, arith, le-ltb}
use Rattle.std.specs.List.{flat_map}
use Rattle.std.proofs.lemmas.List.{length-append, ext_get_or}
use Rattle.algebra.specs.Refusals.{accepted, answer, or_else}
use Rattle.algebra.specs.declared.refusal.Refusal.{Refusal}
use Rattle.algebra.specs.declared.refusal.Refusal.TheVariants.{Frame, Code, Quantity, Full, Unlike, Short, Length, Coefficient, Top, Level, Job}
use Rattle.tally.specs.Contents.{Contents, count}
use Rattle.sheet.specs.Sheets.{word, frame_bytes, sums_bytes, name_bytes, sheet_bytes, sheet_long, told_codes, naming, writing}
use Rattle.sheet.specs.Sections.{Puts, SumsPut}
use Rattle.sheet.specs.Reads.{Named, Taken, Written}
use Rattle.sheet.proofs.Words.{word_long}
use Rattle.sheet.proofs.Items.{passed}
use Rattle.sheet.proofs.Puts.{put_both}

-- a refusal stays whatever comes after it
refusal_stays : (e : Refusal) (b : ℕ × List ℕ) → or_else (answer e) b ≡ answer e
refusal_stays Frame b = refl
refusal_stays (Code c) b = refl
refusal_stays Quantity b = refl
refusal_stays (Full t) b = refl
refusal_stays Unlike b = refl
refusal_stays (Short n) b = refl
refusal_stays (Length n) b = refl
refusal_stays (Coefficient i) b = refl
refusal_stays Top b = refl
refusal_stays (Level k) b = refl
refusal_stays (Job i) b = refl

pub refusal_stops : (e : Refusal) (a b : ℕ × List ℕ) → answer e ≡ a → answer e ≡ or_else a b
refusal_stops e a b h = sym (refusal_stays e b) ∙ ap (λ x. or_else x b) h

-- no refusal tells that the call was accepted
pub refusal_refuses : (e : Refusal) → answer e ≡ accepted → ⊥
refusal_refuses e h =
    let z : ◌≡◌ {A = ℕ} 1 0 = ap (λ x. x.0) (sym (refusal_stops e accepted (1, []) h) ∙ h) in
    omega arith

pub writing-all : (n long : ℕ) (name : List ℕ) → accepted ≡ naming name → sheet_long n (length name) ≤ long → accepted ≡ writing n long name
writing-all n long name p h = sym (passed (naming name) _ (sym p) ∙ rw (le-ltb long (sheet_long n (length name)) h))

pub frame_long : (q w s t : ℕ) → length (frame_bytes q w s t) ≡ 20
unfolding word frame_bytes
frame_long q w s t = refl

pub sums_long : (codes : List ℕ) → length (sums_bytes codes) ≡ 4 * (1 + length codes)
unfolding word sums_bytes
sums_long [] = refl
sums_long (x ∷ xs) = omega (arith, length-append (word x) (flat_map word xs), word_long x, sums_long xs)

name_long : (name : List ℕ) → length (name_bytes name) ≡ 4 + length name
unfolding word name_bytes
name_long name = omega arith

-- the three sections, put one after the other, are the sheet
module _ {V : Type 0} (q : ℕ) (at : ℕ → V) (c : Contents V) (name before framed summed after : List ℕ) (i j n : ℕ)
    (frame : Puts (frame_bytes q c.width c.spare c.turnover) before 0 framed i) (sums : SumsPut q at c framed i summed j) (named : Puts (name_bytes name) summed j after n) where
  pub sheet_put : Puts (sheet_bytes q c.width c.spare c.turnover sums.codes name) before 0 after n
  unfolding sheet_bytes
  sheet_put =
      put_both (frame_bytes q c.width c.spare c.turnover) (sums_bytes sums.codes ++ name_bytes name) before framed after 0 i n frame
      (put_both (sums_bytes sums.codes) (name_bytes name) framed summed after i j n sums.puts named)

  pub sheet_end : n ≡ sheet_long (count c) (length name)
  sheet_end =
      omega (arith, named.place, sums.puts.place, frame.place, frame_long q c.width c.spare c.turnover, sums_long sums.codes, name_long name, sums.coded.coded.long)

  pub written_all : ((a b : ℕ) → a < q → b < q → at a ≡ at b → a ≡ b) → Named name → Written q at c name before after n
  written_all once good =
      let codes = sums.codes in
      record {
        named = good;
        long = sheet_end;
        codes = codes;
        coded = sums.coded;
        only = λ other h.
            let total = sums.coded.coded.long in
            let same : length other ≡ length codes = h.coded.long ∙ sym total in
            ext_get_or 0 other codes same
            (λ k l. let inside : k < count c = omega arith in once (get_or other k 0) (get_or codes k 0) (h.coded.small k inside) (sums.coded.coded.small k inside) (h.means k inside ∙ sym (sums.coded.means k inside)));
        sheet = sheet_put.front;
        tail = sheet_put.back;
      }

-- what was read is written again
pub again : {V : Type 0} (q : ℕ) (at : ℕ → V) (c : Contents V) (name before after bs rest : List ℕ) (n : ℕ) → Written q at c name before after n → Taken q at bs name rest c
    → bs ≡ take n after ++ rest
again q at c name before after bs rest n w t =
    t.whole ∙ ap (λ x. sheet_bytes q c.width c.spare c.turnover x name ++ rest) (w.only (told_codes bs (count c)) t.coded) ∙ ap (λ x. x ++ rest) (sym w.sheet)

pub written_as : {V : Type 0} (q : ℕ) (at : ℕ → V) (c : Contents V) (name before now after : List ℕ) (n : ℕ) → Written q at c name before now n → now ≡ after → Written q at c name before after n
written_as q at c name before now after n w e = subst (λ x. Written q at c name before x n) e w
