-- What a `?` answers with, and one item after another.
use Rattle.std.proofs.Common.{◌≡◌, ℕ, ◌≤◌, List, length, IsErrAnd, Result, sym, ap, ◌∙◌, subst, MatchResult}
use Rattle.std.proofs.lemmas.Result.{err_from_is_err_and}
use Rattle.algebra.specs.Refusals.{accepted, or_else}
use Rattle.sheet.specs.declared.fault.NumberFault.{NumberFault}
use Rattle.sheet.specs.Faults.{item_answer}
use Rattle.sheet.specs.Sheets.{item, within, number_at, Good}
use Rattle.sheet.proofs.Items.{item_good, within_true, passed}

pub exits : {T E : Type 0} (of : E → NumberFault) (P : T → Type 0) (s : ℕ) (d : NumberFault) (x : ℕ × List ℕ) (r : Result T E)
    → IsErrAnd r (λ y. of y ≡ d) → item_answer s d ≡ x → MatchResult r P (λ y. item_answer s (of y) ≡ x)
exits of P s d x r h e =
    let p = err_from_is_err_and r h in
    rw p.1 (ap (item_answer s) p.2 ∙ e)

pub good_item : (bs : List ℕ) (place a b n s number : ℕ) → Good bs place a b n → item (length bs) s place 4 number (within a b (number_at bs place)) ≡ accepted
good_item bs place a b n s number g =
    item_good (length bs) s place 4 number _ g.whole (within_true a b (number_at bs place) (subst (λ m. a ≤ m) g.is g.low) (subst (λ m. m ≤ b) g.is g.high))

pub after : {x : ℕ × List ℕ} (a b : ℕ × List ℕ) → a ≡ accepted → x ≡ b → x ≡ or_else a b
after a b p q = q ∙ sym (passed a b p)

-- an answer after a good item
pub after_good : (s number : ℕ) {bs : List ℕ} {place a b n : ℕ} (x rest : ℕ × List ℕ) → Good bs place a b n → x ≡ rest
    → x ≡ or_else (item (length bs) s place 4 number (within a b (number_at bs place))) rest
after_good s number x rest g e = after _ _ (good_item _ _ _ _ _ s number g) e
