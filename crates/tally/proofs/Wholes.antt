-- The elements of a ring for which whole numbers of either sign stand.
use Rattle.std.proofs.Common.{◌≡◌, ℕ, zero, suc, ◌+◌, ◌-◌, ◌<◌, ◌≤◌, ltb, ◌≢◌, [], ◌∷◌, ℤ, pos, negsuc, ◌+ℤ◌, ◌-ℤ◌, neg_ℤ, nat_abs, sym, refl, ap, ◌∙◌, arith}
use lib.IntN.{sub_ℕ}
use Rattle.std.proofs.lemmas.Bool.{cond_both, ltb-true, ltb-false}
use Rattle.algebra.specs.Rings.{Ops, Lawful, number}
use Rattle.algebra.specs.Fields.{IsField}
use Rattle.tally.specs.Nets.{whole}
use Rattle.algebra.specs.RingsLemmas.{number-add, minus-nought, minus_minus, minus_plus}
use Rattle.algebra.proofs.Fields.{number_nonzero}
use Rattle.algebra.proofs.Solver.{v, 𝟏, ◌⊕◌, ⊖◌, ◌⊝◌, solve₁}

module _ (o : Ops) (L : Lawful o) where
  whole_sub : (a b : ℕ) → whole o (sub_ℕ a b) ≡ o.plus (number o a) (o.minus (number o b))
  whole_sub a b = cond_both (ltb a b) (negsuc (b - suc a)) (pos (a - b)) (λ z. whole o z ≡ o.plus (number o a) (o.minus (number o b)))
      (λ t. (let h : a < b = ltb-true a b t in let d : b ≡ a + suc (b - suc a) = omega arith in
      solve₁ o L (number o a ∷ number o b ∷ number o (suc (b - suc a)) ∷ []) (⊖ v 2) (v 0 ⊝ v 1) 𝟏 (v 1) (v 0 ⊕ v 2)
      (ap (number o) d ∙ number-add o L a (suc (b - suc a))) refl))
      (λ t. (let h : b ≤ a = ltb-false a b t in let d : a ≡ b + (a - b) = omega arith in
      solve₁ o L (number o a ∷ number o b ∷ number o (a - b) ∷ []) (v 2) (v 0 ⊝ v 1) (⊖ 𝟏) (v 0) (v 1 ⊕ v 2)
      (ap (number o) d ∙ number-add o L b (a - b)) refl))

  pub whole-plus : (x y : ℤ) → whole o (x +ℤ y) ≡ o.plus (whole o x) (whole o y)
  whole-plus (pos a) (pos b) = number-add o L a b
  whole-plus (pos a) (negsuc b) = whole_sub a (suc b)
  whole-plus (negsuc a) (pos b) = whole_sub b (suc a) ∙ L.plus_comm (number o b) (o.minus (number o (suc a)))
  whole-plus (negsuc a) (negsuc b) =
      let d : suc (suc (a + b)) ≡ suc a + suc b = omega arith in
      ap (λ n. o.minus (number o n)) d ∙ ap o.minus (number-add o L (suc a) (suc b)) ∙ minus_plus o L (number o (suc a)) (number o (suc b))

  whole_neg : (x : ℤ) → whole o (neg_ℤ x) ≡ o.minus (whole o x)
  whole_neg (pos zero) = sym (minus-nought o L)
  whole_neg (pos (suc n)) = refl
  whole_neg (negsuc n) = sym (minus_minus o L (number o (suc n)))

  pub whole-minus : (x y : ℤ) → whole o (x -ℤ y) ≡ o.plus (whole o x) (o.minus (whole o y))
  whole-minus x y = whole-plus x (neg_ℤ y) ∙ ap (o.plus (whole o x)) (whole_neg y)

module _ (o : Ops) (L : Lawful o) (q M m : ℕ) (at : ℕ → o.V) (z : o.V) (F : IsField o q M m at z) where
  pub whole_nonzero : (x : ℤ) → x ≢ pos 0 → nat_abs x < q → whole o x ≢ o.nought
  whole_nonzero (pos zero) n h e = n refl
  whole_nonzero (pos (suc k)) n h e = number_nonzero o L q M m at z F (suc k) (omega arith) h e
  whole_nonzero (negsuc k) n h e = number_nonzero o L q M m at z F (suc k) (omega arith) h
      (sym (minus_minus o L (number o (suc k))) ∙ ap o.minus e ∙ minus-nought o L)
