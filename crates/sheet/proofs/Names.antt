-- The answer to a job name.
use Rattle.std.proofs.Common.{◌≡◌, ℕ, zero, suc, ◌<◌, ◌≤◌, true, false, cond, List, [], ◌∷◌, length, get_or, sym, ap, ◌∙◌, subst, inl, inr, arith, le-ltb, lt-ltb}
use Rattle.algebra.specs.Refusals.{accepted, or_else}
use Rattle.sheet.specs.Sheets.{first, within, naming}
use Rattle.sheet.specs.Reads.{Named}
use Rattle.sheet.proofs.Items.{below, passed, first-all, within_true}

letter_answer : List ℕ → ℕ → ℕ × List ℕ
letter_answer name k = cond (within 32 126 (get_or name k 0)) accepted (15, k ∷ [])

pub name_long : (name : List ℕ) → 40 < length name → (15, 40 ∷ []) ≡ naming name
unfolding naming
name_long name h = rw (lt-ltb 40 (length name) h)

first_bad : (f : ℕ → ℕ × List ℕ) (k n : ℕ) → first f k ≡ accepted → f k ≡ (15, k ∷ []) → k < n → first f n ≡ (15, k ∷ [])
unfolding first
first_bad f k zero p q h = let none : ⊥ = omega arith in absurd none
first_bad f k (suc n) p q h = elim (below k n h) [
  | inl i ↦ let P : ℕ → Type 0 = λ j. or_else (first f j) (f j) ≡ (15, k ∷ []) in subst P i (passed (first f k) (f k) p ∙ q)
  | inr l ↦ ap (λ x. or_else x (f n)) (first_bad f k n p q l)
]

pub name_bad : (name : List ℕ) (k : ℕ) → length name ≤ 40 → ((j : ℕ) → j < k → within 32 126 (get_or name j 0) ≡ true) → k < length name
    → within 32 126 (get_or name k 0) ≡ false → (15, k ∷ []) ≡ naming name
unfolding naming letter_answer
name_bad name k long good inside bad =
    rw (le-ltb 40 (length name) long)
    (sym (first_bad (letter_answer name) k (length name) (first-all (letter_answer name) k (λ j l. rw (good j l))) (rw bad) inside))

pub name_good : (name : List ℕ) → Named name → accepted ≡ naming name
unfolding naming letter_answer
name_good name n =
    rw (le-ltb 40 (length name) n.most)
    (sym (first-all (letter_answer name) (length name) (λ k h. rw (within_true 32 126 (get_or name k 0) (n.letters k h).0 (n.letters k h).1))))
