-- What `parse` answers is what a word stands for.
use Rattle.std.proofs.Common.{◌≡◌, ℕ, ◌^◌, ◌<◌, true, false, ◌&&◌, ltb, List, [], ◌∷◌, length, get_or, Some, None, Ok, Err, Result, sym, refl, ap, ◌∙◌, inl, inr, rules}
use Rattle.std.specs.Result.{OkIff, result_ok}
use Rattle.std.specs.Str.Parse.{ParsesUnsigned}
use Rattle.std.specs.Str.{all_ascii_digits, bytes_eq}
use Rattle.std.proofs.lemmas.Str.Parse.{IsNumeralModel, numerals_by_fold, parse_plain}
use Rattle.std.proofs.lemmas.Bool.{and_right, cases_Bool, cond-true, cond-false}
use borrow.Author.Tests.{tests}
use Rattle.text.specs.Numbers.{read_on, numeral, number_of, length_of}

own : IsNumeralModel (λ ds. all_ascii_digits ds ≡ true) (read_on 0)
own = numerals_by_fold _ (search rules) read_on (search rules)

abbrev Fit : List ℕ → Type 0
Fit w = (all_ascii_digits w ≡ true) × (0 < length w) × (read_on 0 w < 2 ^ 32)

numeral_from : (w : List ℕ) → Fit w → numeral w ≡ true
numeral_from w h = search (rules, tests)

fit_from : (w : List ℕ) → numeral w ≡ true → Fit w
fit_from w h = search (rules, tests)

of_converted : {E : Type 0} (w : List ℕ) (r : Result ℕ E) → OkIff r (Fit w) (read_on 0 w) → result_ok r ≡ number_of w
unfolding number_of
of_converted w (Ok x) h = ap Some h.1 ∙ sym (cond-true (numeral w) (Some (read_on 0 w)) None (numeral_from w h.0))
of_converted w (Err e) h =
    elim (cases_Bool (numeral w)) [
      | inl t ↦ absurd (h (fit_from w t))
      | inr f ↦ sym (cond-false (numeral w) (Some (read_on 0 w)) None f)
    ]

pub number_parsed : {E : Type 0} (w : List ℕ) (r : Result ℕ E) → ParsesUnsigned 32 10 w r → (get_or w 0 0 ≡ 43 → ⊥) → result_ok r ≡ number_of w
number_parsed w r h plain = of_converted w r (parse_plain own 32 w r h plain)

pub number-signed : (w : List ℕ) → get_or w 0 0 ≡ 43 → None ≡ number_of w
unfolding number_of
number-signed [] e = refl
number-signed (c ∷ cs) e =
    sym (cond-false (numeral (c ∷ cs)) (Some (read_on 0 (c ∷ cs))) None
    (and_right (ltb 0 (length (c ∷ cs))) (all_ascii_digits (c ∷ cs) && ltb (read_on 0 (c ∷ cs)) (2 ^ 32)) (rw e refl)))

-- a word that is no hyphen stands for the length that it is the number of
pub length-number : (w : List ℕ) (needed : ℕ) → false ≡ bytes_eq w (45 ∷ []) → length_of w needed ≡ number_of w
length-number w needed h =
    cond-false (bytes_eq w (45 ∷ [])) (Some needed) (number_of w) (sym h)
