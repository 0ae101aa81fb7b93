-- The worked figures, each by tests that are computed.
use Rattle.std.proofs.Common.{◌≡◌, ℕ, suc, ◌+◌, ◌-◌, ◌*◌, ◌<◌, Bool, true, not, eqb, ◌≢◌, ◌↔◌, List, [], ◌∷◌, map, length, get_or, ℤ, pos, negsuc, refl, ap, inl, inr}
use Rattle.std.proofs.lemmas.Bool.{both_ways, not-true, eq-eqb}
use Rattle.fields.specs.Tables.{all, all-below}
use Rattle.roots.specs.Lists.{In, added}
use Rattle.roots.specs.Roots.{Root}
use Rattle.tally.specs.Logs.{Log, net}
use Rattle.figures.specs.Figures.{R17, F17, o17, value, entered, coefficients, seventeenth, RootFigure, Figures}
use Rattle.figures.proofs.Tests.{same_pair, differ, each_in}
use Rattle.figures.proofs.RootTests.{laws, lists_same, all_rooted, all_roots, each_times, each_multiplicity, times_multiplicity, all_repeats, trials_from, lift_from, not_simple}

-- ps are the repeated roots of the levels, each a level and a code
figure : (cs : List ℕ) (roots ps : List (ℕ × ℕ))
    → all_rooted (coefficients cs) (map (λ r. r.0) roots) ≡ true → each_times (coefficients cs) roots ≡ true
    → differ same_pair ps ≡ true → all_repeats (coefficients cs) ps ≡ true
    → RootFigure cs roots (eqb (added (map (λ r. r.1) roots)) (length (coefficients cs) - 1)) (1 + 2 * length ps)
figure cs roots ps a m d t = record {
  all = all_roots (coefficients cs) (map (λ r. r.0) roots) a;
  multiplicities = each_multiplicity (coefficients cs) roots m;
  splitting = refl;
  tried = trials_from (coefficients cs) ps d t;
}

only_three : (c : ℕ) → (c ≡ 3) ↔ Root R17 F17 (coefficients seventeenth) c
only_three c =
    let h = all_roots (coefficients seventeenth) (3 ∷ []) refl c in
    (λ e. h.0 (inl e), λ r. elim (h.1 r) [ inl e ↦ e | inr none ↦ absurd none ])

-- the sums by a test of all of them
sums_same : (f : ℕ → o17.V) (sums : List ℕ) → all (λ k. o17.alike (f k) (value (get_or sums k 0))) (length sums) ≡ true
    → (k : ℕ) → k < length sums → f k ≡ value (get_or sums k 0)
sums_same f sums e k h = laws.alike_same _ _ (all-below (λ k. o17.alike (f k) (value (get_or sums k 0))) (length sums) e k h)

abbrev size : ℤ → ℕ
size (pos n) = n
size (negsuc n) = suc n

abbrev left_log : Log
left_log = entered 1 1 ∷ entered 3 1 ∷ []

abbrev right_log : Log
right_log = entered 2 2 ∷ []

abbrev unequal : ℕ → Bool
unequal c = not (eqb (size (net left_log c)) (size (net right_log c)))

apart : (c : ℕ) → In c (1 ∷ 2 ∷ 3 ∷ []) → net left_log c ≢ net right_log c
apart c i e = both_ways _ (not-true _ (each_in unequal (1 ∷ 2 ∷ 3 ∷ []) refl c i)) (eq-eqb _ _ (ap size e))

pub worked : Figures
worked = record {
  transform_quadratic = lists_same _ _ refl;
  transform-linear = lists_same _ _ refl;
  transform_padded = lists_same _ _ refl;
  tangent-reals = lists_same _ _ refl;
  tangent-epsilons = lists_same _ _ refl;
  roots_apart = figure (2 ∷ 14 ∷ 1 ∷ []) ((1, 1) ∷ (2, 1) ∷ []) ((3, 1) ∷ (4, 1) ∷ []) refl refl refl refl;
  roots_opposite = figure (1 ∷ 0 ∷ 1 ∷ []) ((4, 1) ∷ (13, 1) ∷ []) ((1, 16) ∷ (2, 1) ∷ (3, 1) ∷ (4, 1) ∷ []) refl refl refl refl;
  roots_none = figure (14 ∷ 0 ∷ 1 ∷ []) [] [] refl refl refl refl;
  roots_twice = figure (9 ∷ 1 ∷ 6 ∷ 1 ∷ []) ((1, 1) ∷ (5, 2) ∷ []) ((1, 8) ∷ (2, 13) ∷ (3, 16) ∷ (4, 1) ∷ []) refl refl refl refl;
  roots_zero = figure (0 ∷ 0 ∷ 0 ∷ 1 ∷ []) ((0, 3) ∷ []) [] refl refl refl refl;
  lift_one = lift_from (coefficients (2 ∷ 14 ∷ 1 ∷ [])) 1 (value 4) 2 refl refl refl;
  lift_none = not_simple (coefficients (1 ∷ 0 ∷ 1 ∷ [])) 1 (value 16) refl;
  all_roots_three = only_three;
  seventeen_times = times_multiplicity (coefficients seventeenth) (value 3) 17 refl;
  log_three_five = record { answered = (refl, (refl, tt)); turnover = refl; codes = sums_same _ (3 ∷ 13 ∷ 8 ∷ 5 ∷ 5 ∷ []) refl };
  two_more_full = refl;
  one_more_taken = refl;
  log_three_four = record { answered = (refl, (refl, tt)); turnover = refl; codes = sums_same _ (3 ∷ 11 ∷ 7 ∷ 2 ∷ 15 ∷ []) refl };
  log_one_three = record { answered = (refl, (refl, tt)); turnover = refl; codes = sums_same _ (2 ∷ 4 ∷ []) refl };
  log_two_two = record { answered = (refl, tt); turnover = refl; codes = sums_same _ (2 ∷ 4 ∷ []) refl };
  out_of_reach = apart;
}
