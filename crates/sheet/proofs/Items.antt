-- The answer to an item, and the first of several.
use Rattle.std.proofs.Common.{◌≡◌, ℕ, zero, suc, ◌+◌, ◌<◌, ◌≤◌, Bool, true, false, ◌⊎◌, List, [], ◌∷◌, length, sym, refl, ap, ◌∙◌, subst, inl, inr, eq-or-lt_of_le, arith, le-ltb, lt-ltb, le-leb}
use Rattle.std.proofs.lemmas.Bool.Decides.{nat_tests}
use Rattle.algebra.specs.Refusals.{accepted, or_else}
use Rattle.sheet.specs.declared.fault.NumberFault.{NumberFault}
use Rattle.sheet.specs.declared.fault.NumberFault.TheVariants.{Cut, Count, Value}
use Rattle.sheet.specs.Faults.{item_answer}
use Rattle.sheet.specs.Sheets.{item, first, within, Good}
use Rattle.sheet.specs.Sections.{Refused}

pub within_true : (a b n : ℕ) → a ≤ n → n ≤ b → within a b n ≡ true
within_true a b n l h = rw (le-leb a n l, le-leb n b h)

module _ (long section place size number : ℕ) (good : Bool) where
  pub item-cut : long < place + size → (12, section ∷ place ∷ []) ≡ item long section place size number good
  unfolding item
  item-cut h = rw (lt-ltb long (place + size) h)

  pub item_bad : place + size ≤ long → good ≡ false → (number, section ∷ place ∷ []) ≡ item long section place size number good
  unfolding item
  item_bad h e = rw (le-ltb long (place + size) h, e)

  pub item_good : place + size ≤ long → good ≡ true → item long section place size number good ≡ accepted
  unfolding item
  item_good h e = rw (le-ltb long (place + size) h, e)

pub passed : (a b : ℕ × List ℕ) → a ≡ accepted → or_else a b ≡ b
passed a b e = rw e

-- a fault stays whatever comes after it
pub stays : (s : ℕ) (f : NumberFault) (b : ℕ × List ℕ) → or_else (item_answer s f) b ≡ item_answer s f
stays s (Cut p) b = refl
stays s (Count p) b = refl
stays s (Value p) b = refl

pub stops : (s : ℕ) (f : NumberFault) (a b : ℕ × List ℕ) → item_answer s f ≡ a → item_answer s f ≡ or_else a b
stops s f a b e = sym (stays s f b) ∙ ap (λ x. or_else x b) e

pub below : (k n : ℕ) → k < suc n → (k ≡ n) ⊎ (k < n)
below k n h = let l : k ≤ n = omega arith in eq-or-lt_of_le l

-- the first fault is the answer
pub first_stops : (s : ℕ) (e : NumberFault) (f : ℕ → ℕ × List ℕ) (k n : ℕ) → first f k ≡ accepted → item_answer s e ≡ f k → k < n → item_answer s e ≡ first f n
unfolding first
first_stops s e f k zero p q h = let none : ⊥ = omega arith in absurd none
first_stops s e f k (suc n) p q h = elim (below k n h) [
  | inr l ↦ stops s e (first f n) (f n) (first_stops s e f k n p q l)
  | inl i ↦ let P : ℕ → Type 0 = λ j. item_answer s e ≡ or_else (first f j) (f j) in subst P i (q ∙ sym (passed (first f k) (f k) p))
]

pub first-all : (f : ℕ → ℕ × List ℕ) (n : ℕ) → ((k : ℕ) → k < n → f k ≡ accepted) → first f n ≡ accepted
unfolding first
first-all f zero h = refl
first-all f (suc n) h = passed (first f n) (f n) (first-all f n (λ k l. h k (omega arith))) ∙ h n (omega arith)

pub within_low : (a b n : ℕ) → within a b n ≡ true → a ≤ n
within_low a b n e = grind (arith, nat_tests)

pub within_high : (a b n : ℕ) → within a b n ≡ true → n ≤ b
within_high a b n e = grind (arith, nat_tests)

module _ (s size number : ℕ) (good : Bool) (bs : List ℕ) (p : ℕ) (told : NumberFault → Type 0) (e : NumberFault) (is : told e → item_answer s e ≡ (number, s ∷ p ∷ [])) where
  why_refused : ((length bs < p + size) × (e ≡ Cut p)) ⊎ ((p + size ≤ length bs) × (good ≡ false) × told e) → item_answer s e ≡ item (length bs) s p size number good
  why_refused (inl h) = ap (item_answer s) h.1 ∙ item-cut (length bs) s p size number good h.0
  why_refused (inr h) = is h.2 ∙ item_bad (length bs) s p size number good h.0 h.1

  -- an item that was refused is so answered
  pub refused : Refused told bs p size good e → item_answer s e ≡ item (length bs) s p size number good
  refused h = why_refused h.why

-- a number that had to be a is a
pub exactly : (bs : List ℕ) (p a n : ℕ) → Good bs p a a n → Good bs p a a a
exactly bs p a n g = let e : n ≡ a = omega (arith, g.low, g.high) in subst (Good bs p a a) e g
