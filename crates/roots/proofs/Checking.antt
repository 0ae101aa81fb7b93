-- What the check of a row of codes answers.
use Rattle.std.proofs.Common.{◌≡◌, ℕ, suc, ◌+◌, ◌-◌, ◌<◌, ◌≤◌, Bool, true, false, not, cond, leb, ltb, List, [], ◌∷◌, Option, Some, None, length, get_or, sym, refl, ap, ◌∙◌, ⊎_elim, arith}
use Rattle.std.specs.List.{position_or_len}
use Rattle.std.proofs.lemmas.List.{get_or-map}
use Rattle.std.proofs.lemmas.Bool.{lt-ltb, le-ltb, cases_lt}
use Rattle.std.proofs.lemmas.Bool.Decides.{nat_tests}
use Rattle.algebra.specs.Refusals.{accepted}
use Rattle.algebra.specs.declared.code.Code.{Code}
use Rattle.roots.specs.Codes.{past, top, coded}

past-position : (q : ℕ) (cs : List Code) → past q cs ≡ position_or_len (λ c. leb q c.0) cs
past-position q [] = refl
past-position q (c ∷ cs) = turned (leb q c.0) (past-position q cs)
  where
    turned : (b : Bool) {m n : ℕ} → m ≡ n → cond b 0 (suc m) ≡ cond (not b) (1 + n) 0
    turned true e = refl
    turned false e = omega arith

-- what a search for that place answers
module _ (q m : ℕ) (cs : List Code) (same : m ≡ q) (r : Option ℕ)
    (is : r ≡ cond (ltb (position_or_len (λ c. leb m c.0) cs) (length cs)) (Some (position_or_len (λ c. leb m c.0) cs)) None) where
  place : position_or_len (λ c. leb m c.0) cs ≡ past q cs
  place = sym (past-position m cs) ∙ ap (λ n. past n cs) same

  answered : r ≡ cond (ltb (past q cs) (length cs)) (Some (past q cs)) None
  answered = is ∙ ap (λ n. cond (ltb n (length cs)) (Some n) None) place

  pub past_found : (i : ℕ) → r ≡ Some i → (i ≡ past q cs) × (past q cs < length cs)
  past_found i e = ⊎_elim
      (λ inside. (let z : Some i ≡ Some (past q cs) = sym e ∙ answered ∙ ap (λ b. cond b (Some (past q cs)) None) (lt-ltb (past q cs) (length cs) inside) in (cc, inside)))
      (λ out. (let z : Some i ≡ None = sym e ∙ answered ∙ ap (λ b. cond b (Some (past q cs)) None) (le-ltb (past q cs) (length cs) out) in absurd cc))
      (cases_lt (past q cs) (length cs))

  pub past_none : r ≡ None → length cs ≤ past q cs
  past_none e = ⊎_elim
      (λ inside. (let z : None ≡ Some (past q cs) = sym e ∙ answered ∙ ap (λ b. cond b (Some (past q cs)) None) (lt-ltb (past q cs) (length cs) inside) in absurd cc))
      (λ out. out)
      (cases_lt (past q cs) (length cs))

pub top_is : (cs : List Code) (c : Code) → 0 < length cs → c ≡ get_or cs (length cs - 1) c → c.0 ≡ top cs
top_is cs c some is = ap (λ x. x.0) is ∙ sym (get_or-map (λ x. x.0) cs (length cs - 1) c 0 (omega arith))

-- the answers of the check
module _ (q : ℕ) (cs : List Code) where
  pub coded-long : 257 < length cs → (8, length cs ∷ []) ≡ coded q cs
  coded-long long = grind (arith, nat_tests)

  pub coded-place : 0 < length cs → length cs ≤ 257 → past q cs < length cs → (9, past q cs ∷ []) ≡ coded q cs
  coded-place some few bad = grind (arith, nat_tests)

  pub coded-top : 0 < length cs → length cs ≤ 257 → length cs ≤ past q cs → top cs ≡ 0 → (10, []) ≡ coded q cs
  coded-top some few good zero = grind (arith, nat_tests)

  pub coded_good : 0 < length cs → length cs ≤ 257 → length cs ≤ past q cs → (top cs ≡ 0 → ⊥) → coded q cs ≡ accepted
  coded_good some few good other = grind (arith, nat_tests)
