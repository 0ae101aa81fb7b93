-- A ring with a square root of y adjoined: u + v r with r r = y.
use Rattle.std.proofs.Common.{◌≡◌, ◌&&◌, List, [], ◌∷◌, map, refl, ap, ◌∙◌}
use Rattle.std.proofs.lemmas.Bool.{and_parts, and_from}
use Rattle.algebra.specs.Rings.{Ops, Lawful}
use Rattle.algebra.specs.Polynomials.{eval}
use Rattle.algebra.proofs.Solver.{v, 𝟎, 𝟏, ◌⊕◌, ◌⊗◌, ⊖◌, solve}
use Rattle.roots.proofs.Homs.{Hom}
use Rattle.roots.proofs.Slopes.{pair_path}

abbrev pub extension : (o : Ops) → o.V → Ops
extension o y = record {
  V = (o.V × o.V);
  nought = (o.nought, o.nought);
  unit = (o.unit, o.nought);
  plus = λ a b. (o.plus a.0 b.0, o.plus a.1 b.1);
  times = λ a b. (o.plus (o.times a.0 b.0) (o.times y (o.times a.1 b.1)), o.plus (o.times a.0 b.1) (o.times a.1 b.0));
  minus = λ a. (o.minus a.0, o.minus a.1);
  alike = λ a b. o.alike a.0 b.0 && o.alike a.1 b.1;
}

-- f(x) = even(x²) + x odd(x²): the values of both parts at y
abbrev pub even_odd : (o : Ops) → o.V → List o.V → o.V × o.V
even_odd o y [] = (o.nought, o.nought)
even_odd o y (a ∷ f) = (o.plus a (o.times y (even_odd o y f).1), (even_odd o y f).0)

module _ (o : Ops) (L : Lawful o) (y : o.V) where
  pub extension_lawful : Lawful (extension o y)
  extension_lawful = record {
    plus_assoc = λ a b c. pair_path (L.plus_assoc a.0 b.0 c.0) (L.plus_assoc a.1 b.1 c.1);
    plus_comm = λ a b. pair_path (L.plus_comm a.0 b.0) (L.plus_comm a.1 b.1);
    plus-nought = λ a. pair_path (L.plus-nought a.0) (L.plus-nought a.1);
    plus-minus = λ a. pair_path (L.plus-minus a.0) (L.plus-minus a.1);
    times_assoc = λ a b c.
        let env = y ∷ a.0 ∷ a.1 ∷ b.0 ∷ b.1 ∷ c.0 ∷ c.1 ∷ [] in
        pair_path
        (solve o L env ((v 1 ⊗ v 3 ⊕ v 0 ⊗ (v 2 ⊗ v 4)) ⊗ v 5 ⊕ v 0 ⊗ ((v 1 ⊗ v 4 ⊕ v 2 ⊗ v 3) ⊗ v 6))
        (v 1 ⊗ (v 3 ⊗ v 5 ⊕ v 0 ⊗ (v 4 ⊗ v 6)) ⊕ v 0 ⊗ (v 2 ⊗ (v 3 ⊗ v 6 ⊕ v 4 ⊗ v 5))) refl)
        (solve o L env ((v 1 ⊗ v 3 ⊕ v 0 ⊗ (v 2 ⊗ v 4)) ⊗ v 6 ⊕ (v 1 ⊗ v 4 ⊕ v 2 ⊗ v 3) ⊗ v 5)
        (v 1 ⊗ (v 3 ⊗ v 6 ⊕ v 4 ⊗ v 5) ⊕ v 2 ⊗ (v 3 ⊗ v 5 ⊕ v 0 ⊗ (v 4 ⊗ v 6))) refl);
    times_comm = λ a b.
        let env = y ∷ a.0 ∷ a.1 ∷ b.0 ∷ b.1 ∷ [] in
        pair_path (solve o L env (v 1 ⊗ v 3 ⊕ v 0 ⊗ (v 2 ⊗ v 4)) (v 3 ⊗ v 1 ⊕ v 0 ⊗ (v 4 ⊗ v 2)) refl)
        (solve o L env (v 1 ⊗ v 4 ⊕ v 2 ⊗ v 3) (v 3 ⊗ v 2 ⊕ v 4 ⊗ v 1) refl);
    times-unit = λ a.
        let env = y ∷ a.0 ∷ a.1 ∷ [] in
        pair_path (solve o L env (v 1 ⊗ 𝟏 ⊕ v 0 ⊗ (v 2 ⊗ 𝟎)) (v 1) refl) (solve o L env (v 1 ⊗ 𝟎 ⊕ v 2 ⊗ 𝟏) (v 2) refl);
    times-plus = λ a b c.
        let env = y ∷ a.0 ∷ a.1 ∷ b.0 ∷ b.1 ∷ c.0 ∷ c.1 ∷ [] in
        pair_path
        (solve o L env (v 1 ⊗ (v 3 ⊕ v 5) ⊕ v 0 ⊗ (v 2 ⊗ (v 4 ⊕ v 6))) ((v 1 ⊗ v 3 ⊕ v 0 ⊗ (v 2 ⊗ v 4)) ⊕ (v 1 ⊗ v 5 ⊕ v 0 ⊗ (v 2 ⊗ v 6))) refl)
        (solve o L env (v 1 ⊗ (v 4 ⊕ v 6) ⊕ v 2 ⊗ (v 3 ⊕ v 5)) ((v 1 ⊗ v 4 ⊕ v 2 ⊗ v 3) ⊕ (v 1 ⊗ v 6 ⊕ v 2 ⊗ v 5)) refl);
    alike_same = λ a b e. let p = and_parts _ _ e in pair_path (L.alike_same a.0 b.0 p.0) (L.alike_same a.1 b.1 p.1);
    same_alike = λ a b e. and_from _ _ (L.same_alike a.0 b.0 (ap (λ t. t.0) e)) (L.same_alike a.1 b.1 (ap (λ t. t.1) e));
  }

  pub extend_hom : Hom o (extension o y) (λ x. (x, o.nought))
  extend_hom = record {
    nought = refl;
    unit = refl;
    plus = λ a b. pair_path refl (solve o L [] 𝟎 (𝟎 ⊕ 𝟎) refl);
    times = λ a b. pair_path (solve o L (y ∷ a ∷ b ∷ []) (v 1 ⊗ v 2) (v 1 ⊗ v 2 ⊕ v 0 ⊗ (𝟎 ⊗ 𝟎)) refl) (solve o L (a ∷ b ∷ []) 𝟎 (v 0 ⊗ 𝟎 ⊕ 𝟎 ⊗ v 1) refl);
    minus = λ a. pair_path refl (solve o L [] 𝟎 (⊖ 𝟎) refl);
  }

  -- at the root r, and at -r
  pub eval_root : (f : List o.V) → eval (extension o y) (map (λ x. (x, o.nought)) f) (o.nought, o.unit) ≡ even_odd o y f
  eval_root [] = refl
  eval_root (a ∷ f) =
      ap (λ t. (extension o y).plus (a, o.nought) ((extension o y).times (o.nought, o.unit) t)) (eval_root f)
      ∙ (let env = y ∷ a ∷ (even_odd o y f).0 ∷ (even_odd o y f).1 ∷ [] in
      pair_path (solve o L env (v 1 ⊕ (𝟎 ⊗ v 2 ⊕ v 0 ⊗ (𝟏 ⊗ v 3))) (v 1 ⊕ v 0 ⊗ v 3) refl) (solve o L env (𝟎 ⊕ (𝟎 ⊗ v 3 ⊕ 𝟏 ⊗ v 2)) (v 2) refl))

  pub eval_other : (f : List o.V) → eval (extension o y) (map (λ x. (x, o.nought)) f) (o.minus o.nought, o.minus o.unit) ≡ ((even_odd o y f).0, o.minus (even_odd o y f).1)
  eval_other [] = pair_path refl (solve o L [] 𝟎 (⊖ 𝟎) refl)
  eval_other (a ∷ f) =
      ap (λ t. (extension o y).plus (a, o.nought) ((extension o y).times (o.minus o.nought, o.minus o.unit) t)) (eval_other f)
      ∙ (let env = y ∷ a ∷ (even_odd o y f).0 ∷ (even_odd o y f).1 ∷ [] in
      pair_path (solve o L env (v 1 ⊕ (⊖ 𝟎 ⊗ v 2 ⊕ v 0 ⊗ (⊖ 𝟏 ⊗ ⊖ v 3))) (v 1 ⊕ v 0 ⊗ v 3) refl) (solve o L env (𝟎 ⊕ (⊖ 𝟎 ⊗ ⊖ v 3 ⊕ ⊖ 𝟏 ⊗ v 2)) (⊖ v 2) refl))

  -- at a square root of y in the ring itself
  pub eval_square : (f : List o.V) (x : o.V) → o.times x x ≡ y → eval o f x ≡ o.plus (even_odd o y f).0 (o.times x (even_odd o y f).1)
  eval_square [] x e = solve o L (x ∷ []) 𝟎 (𝟎 ⊕ v 0 ⊗ 𝟎) refl
  eval_square (a ∷ f) x e =
      ap (λ t. o.plus a (o.times x t)) (eval_square f x e)
      ∙ solve o L (x ∷ a ∷ (even_odd o y f).0 ∷ (even_odd o y f).1 ∷ []) (v 1 ⊕ v 0 ⊗ (v 2 ⊕ v 0 ⊗ v 3)) (v 1 ⊕ v 0 ⊗ v 0 ⊗ v 3 ⊕ v 0 ⊗ v 2) refl
      ∙ ap (λ t. o.plus (o.plus a (o.times t (even_odd o y f).1)) (o.times x (even_odd o y f).0)) e
