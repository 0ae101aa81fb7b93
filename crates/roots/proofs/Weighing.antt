-- Records with their multiplicities.
use Rattle.std.proofs.Common.{◌≡◌, ℕ, zero, suc, ◌+◌, List, [], ◌∷◌, map, get_or, set, refl, ap, ◌∙◌}
use Rattle.std.specs.List.{sum_by}
use Rattle.std.proofs.lemmas.List.Sums.{sum_by-cons}
use Rattle.roots.specs.Lists.{added}
use Rattle.roots.specs.Roots.{codes}
use Rattle.roots.specs.declared.record.RootRecord.{RootRecord}

-- a write that keeps the code keeps all codes
pub codes_kept : (xs : List RootRecord) (i : ℕ) (r d : RootRecord) → r.code ≡ (get_or xs i d).code → codes (set xs i r) ≡ codes xs
codes_kept [] i r d e = refl
codes_kept (x ∷ xs) zero r d e = ap (λ c. c.0 ∷ codes xs) e
codes_kept (x ∷ xs) (suc i) r d e = ap (λ l. x.code.0 ∷ l) (codes_kept xs i r d e)

pub sum_by-added : {X : Type 0} (f : X → ℕ) (xs : List X) → sum_by f xs ≡ added (map f xs)
sum_by-added f [] = refl
sum_by-added f (x ∷ xs) = sum_by-cons f x xs ∙ ap (λ n. f x + n) (sum_by-added f xs)
