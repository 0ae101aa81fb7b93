-- A word cut at its first colon.
use Rattle.std.proofs.Common.{◌≡◌, ℕ, suc, ◌<◌, eqb, List, [], ◌∷◌, ◌++◌, length, get_or, Some, None, sym, refl, ap, ◌∙◌, arith, Bor}
use Rattle.std.proofs.lemmas.Bool.{ne_eqb, cond-false}
use Rattle.std.proofs.lemmas.Str.Pattern.{IsSplitOnceResult, split_parts}
use Rattle.text.specs.Numbers.{before_colon, cut, both, both_of, number_of, pair_of}

abbrev Plain : List ℕ → Type 0
Plain bs = (i : ℕ) → i < length bs → get_or bs i 0 ≡ 58 → ⊥

cut-past : (c : ℕ) (cs : List ℕ) → (c ≡ 58 → ⊥) → cut (c ∷ cs) ≡ before_colon c (cut cs)
cut-past c cs h = cond-false (eqb c 58) (Some ([], cs)) (before_colon c (cut cs)) (ne_eqb c 58 h)

cut_found : (xs ys : List ℕ) → Plain xs → cut (xs ++ (58 ∷ ys)) ≡ Some (xs, ys)
cut_found [] ys h = refl
cut_found (c ∷ cs) ys h = cut-past c (cs ++ (58 ∷ ys)) (h 0 (omega arith)) ∙ ap (before_colon c) (cut_found cs ys (λ i l. h (suc i) (omega arith)))

cut_none : (bs : List ℕ) → Plain bs → cut bs ≡ None
cut_none [] h = refl
cut_none (c ∷ cs) h = cut-past c cs (h 0 (omega arith)) ∙ ap (before_colon c) (cut_none cs (λ i l. h (suc i) (omega arith)))

pair-at : (bs xs ys : List ℕ) → (bs ≡ xs ++ (58 ∷ ys)) × Plain xs → pair_of bs ≡ both_of (Some (xs, ys))
unfolding pair_of
pair-at bs xs ys h = ap (λ b. both_of (cut b)) h.0 ∙ ap both_of (cut_found xs ys h.1)

-- what `split_once` answers, as the pair
pub pair_parts : (bs : List ℕ) (x y : Bor (List ℕ)) → IsSplitOnceResult 58 bs (Some (x, y)) → pair_of bs ≡ both (number_of x.now) (number_of y.now)
pair_parts bs x y h = pair-at bs x.now y.now (split_parts 58 bs (Some (x, y)) h (omega arith))

pub pair_none : (bs : List ℕ) → IsSplitOnceResult 58 bs None → None ≡ pair_of bs
unfolding pair_of
pair_none bs h = sym (ap both_of (cut_none bs (split_parts 58 bs None h (omega arith))))
