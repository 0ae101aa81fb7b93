-- Roots of a polynomial and of its Graeffe transform, over a field in which two is not zero.
use Rattle.std.proofs.Common.{◌≡◌, ◌-◌, ◌≢◌, ◌⊎◌, List, [], ◌∷◌, map, length, sym, refl, ap, ◌∙◌, subst, ap₂, inl, ⊎_elim}
use Rattle.algebra.specs.Rings.{Ops, Lawful}
use Rattle.algebra.specs.Fields.{Invertible}
use Rattle.algebra.specs.Duals.{dual}
use Rattle.algebra.specs.Polynomials.{eval}
use Rattle.algebra.specs.Graeffe.{transform}
use Rattle.algebra.specs.DualsLemmas.{dual_lawful}
use Rattle.algebra.proofs.Fields.{no_divisors, times_nonzero, square_roots}
use Rattle.algebra.proofs.GraeffeLaws.{sign_square}
use Rattle.algebra.proofs.Solver.{v, 𝟎, 𝟏, ◌⊕◌, ◌⊗◌, ⊖◌, ◌⊝◌, solve, solve₁, solve₂, solve₃}
use Rattle.roots.proofs.Homs.{Hom, map-transform, map-sign}
use Rattle.roots.specs.Slopes.{slope, epsilons}
use Rattle.roots.proofs.Slopes.{eval-dual, real_hom, embed_hom}
use Rattle.roots.proofs.Extensions.{even_odd, eval_square}
use Rattle.roots.proofs.GraeffeSteps.{turn, reals_embed, transform_square, transform-value, slope_step}

even_odd_map : (o p : Ops) (φ : o.V → p.V) → Hom o p φ → (y : o.V) (f : List o.V)
    → (φ (even_odd o y f).0 ≡ (even_odd p (φ y) (map φ f)).0) × (φ (even_odd o y f).1 ≡ (even_odd p (φ y) (map φ f)).1)
even_odd_map o p φ h y [] = (h.nought, h.nought)
even_odd_map o p φ h y (a ∷ f) =
    let rec = even_odd_map o p φ h y f in
    (h.plus a (o.times y (even_odd o y f).1) ∙ ap (p.plus (φ a)) (h.times y (even_odd o y f).1 ∙ ap (p.times (φ y)) rec.1), rec.0)

module _ (o : Ops) (L : Lawful o) where
  eval_noughts : (f : List o.V) (x : o.V) → eval o (epsilons (map (λ c. (c, o.nought)) f)) x ≡ o.nought
  eval_noughts [] x = refl
  eval_noughts (a ∷ f) x = ap (λ t. o.plus o.nought (o.times x t)) (eval_noughts f x) ∙ solve o L (x ∷ []) (𝟎 ⊕ v 0 ⊗ 𝟎) 𝟎 refl

  -- where both parts of f vanish at y, the transform has a root of multiplicity 2 or more there
  both_vanish : (f : List o.V) (y : o.V) → (even_odd o y f).0 ≡ o.nought → (even_odd o y f).1 ≡ o.nought → slope o (transform o f) y ≡ o.nought
  both_vanish f y none-even none-odd =
      sym left ∙ right
    where
      φ : o.V → o.V × o.V
      φ = λ x. (x, o.nought)

      F : List (o.V × o.V)
      F = map φ f

      g : List o.V
      g = transform o f

      D : Ops
      D = dual o

      z : o.V × o.V
      z = (y, o.unit)

      E : (o.V × o.V) × (o.V × o.V)
      E = even_odd (dual o) (y, o.unit) (map (λ x. (x, o.nought)) f)

      even_first : E.0.0 ≡ o.nought
      even_first = (even_odd_map D o (λ x. x.0) (real_hom o L) z F).0 ∙ ap (λ t. (even_odd o y t).0) (reals_embed o.nought f) ∙ none-even

      odd_first : E.1.0 ≡ o.nought
      odd_first = (even_odd_map D o (λ x. x.0) (real_hom o L) z F).1 ∙ ap (λ t. (even_odd o y t).1) (reals_embed o.nought f) ∙ none-odd

      left : (eval D (transform D F) z).1 ≡ slope o g y
      left = ap (λ t. (eval D t z).1) (sym (map-transform o D φ (embed_hom o L) f))
          ∙ ap (λ t. t.1) (eval-dual o L (map φ g) y o.unit)
          ∙ ap₂ (λ s t. o.plus s (o.times o.unit (slope o t y))) (eval_noughts g y) (reals_embed o.nought g)
          ∙ solve o L (slope o g y ∷ []) (𝟎 ⊕ 𝟏 ⊗ v 0) (v 0) refl

      right : (eval D (transform D F) z).1 ≡ o.nought
      right = ap (λ t. t.1) (transform-value D (dual_lawful o L) F z
          ∙ ap (λ s. D.times s (D.plus (D.times E.0 E.0) (D.minus (D.times z (D.times E.1 E.1)))))
          (sym (map-sign o D φ (embed_hom o L) (length F - 1))))
          ∙ solve₂ o L (turn o F ∷ E.0.0 ∷ E.0.1 ∷ E.1.0 ∷ E.1.1 ∷ y ∷ [])
          (v 0 ⊗ ((v 1 ⊗ v 2 ⊕ v 2 ⊗ v 1) ⊕ ⊖ (v 5 ⊗ (v 3 ⊗ v 4 ⊕ v 4 ⊗ v 3) ⊕ 𝟏 ⊗ (v 3 ⊗ v 3))) ⊕ 𝟎 ⊗ (v 1 ⊗ v 1 ⊕ ⊖ (v 5 ⊗ (v 3 ⊗ v 3)))) 𝟎
          (v 0 ⊗ (v 2 ⊕ v 2)) (v 1) 𝟎 even_first
          (⊖ (v 0 ⊗ (v 5 ⊗ (v 4 ⊕ v 4) ⊕ v 3))) (v 3) 𝟎 odd_first refl

  -- a root's square is a root of the transform
  pub root_down : (f : List o.V) (a : o.V) → eval o f a ≡ o.nought → eval o (transform o f) (o.times a a) ≡ o.nought
  root_down f a e = transform_square o L f a
      ∙ solve₁ o L (turn o f ∷ eval o f a ∷ eval o f (o.minus a) ∷ []) (v 0 ⊗ (v 1 ⊗ v 2)) 𝟎 (v 0 ⊗ v 2) (v 1) 𝟎 e refl

  module _ (inv : Invertible o) (two : o.plus o.unit o.unit ≢ o.nought) where
    twice_nonzero : (a : o.V) → a ≢ o.nought → o.plus a a ≢ o.nought
    twice_nonzero a ne e = times_nonzero o L inv (o.plus o.unit o.unit) a two ne (solve o L (a ∷ []) ((𝟏 ⊕ 𝟏) ⊗ v 0) (v 0 ⊕ v 0) refl ∙ e)

    -- of multiplicity 2 or more, where the root is, or where its negative is a root too
    pub root_multiple : (f : List o.V) (a : o.V) → eval o f a ≡ o.nought → a ≢ o.nought
        → (slope o f a ≡ o.nought) ⊎ (eval o f (o.minus a) ≡ o.nought) → slope o (transform o f) (o.times a a) ≡ o.nought
    root_multiple f a e ne h =
        let S = slope o (transform o f) (o.times a a) in
        let zero : o.times (o.plus a a) S ≡ o.nought = slope_step o L f a ∙ ⊎_elim
        (λ s. solve₂ o L env whole 𝟎 (v 0 ⊗ v 2) (v 1) 𝟎 s (⊖ (v 0 ⊗ v 4)) (v 3) 𝟎 e refl)
        (λ n. solve₂ o L env whole 𝟎 (v 0 ⊗ v 1) (v 2) 𝟎 n (⊖ (v 0 ⊗ v 4)) (v 3) 𝟎 e refl) h in
        ⊎_elim (λ z. absurd (twice_nonzero a ne z)) (λ z. z) (no_divisors o L inv (o.plus a a) S zero)
      where
        env : List o.V
        env = turn o f ∷ slope o f a ∷ eval o f (o.minus a) ∷ eval o f a ∷ slope o f (o.minus a) ∷ []

        whole : Rattle.algebra.proofs.Solver.Expr
        whole = v 0 ⊗ (v 1 ⊗ v 2 ⊕ ⊖ (v 3 ⊗ v 4))

    -- what a simple nonzero root b of the transform comes from
    pub record Lifted (f : List o.V) (b : o.V) : Type 0 where
      pub root : o.V
      pub vanishes : eval o f root ≡ o.nought
      pub squares : o.times root root ≡ b
      pub alone : eval o f (o.minus root) ≢ o.nought
      pub simple : slope o f root ≢ o.nought

    pub root_lift : (f : List o.V) (b : o.V) → b ≢ o.nought → eval o (transform o f) b ≡ o.nought → slope o (transform o f) b ≢ o.nought → Lifted f b
    root_lift f b ne vanish simple = record { root = a; vanishes = here; squares = square; alone = other; simple = steep }
      where
        A : o.V
        A = (even_odd o b f).0

        B : o.V
        B = (even_odd o b f).1

        equal : o.times A A ≡ o.times b (o.times B B)
        equal = solve₂ o L (A ∷ B ∷ b ∷ turn o f ∷ []) (v 0 ⊗ v 0) (v 2 ⊗ (v 1 ⊗ v 1))
            (v 3) (v 3 ⊗ (v 0 ⊗ v 0 ⊕ ⊖ (v 2 ⊗ (v 1 ⊗ v 1)))) 𝟎 (sym (transform-value o L f b) ∙ vanish)
            (⊖ (v 0 ⊗ v 0 ⊝ v 2 ⊗ (v 1 ⊗ v 1))) (v 3 ⊗ v 3) 𝟏 (sign_square o L (length f - 1)) refl

        odd_nonzero : B ≢ o.nought
        odd_nonzero e =
            let AA : o.times A A ≡ o.nought = equal ∙ solve₁ o L (b ∷ B ∷ []) (v 0 ⊗ (v 1 ⊗ v 1)) 𝟎 (v 0 ⊗ v 1) (v 1) 𝟎 e refl in
            simple (both_vanish f b (⊎_elim (λ z. z) (λ z. z) (no_divisors o L inv A A AA)) e)

        C : o.V
        C = (inv B).0

        inverse : o.times B C ≡ o.unit
        inverse = (inv B).1.of_other odd_nonzero

        a : o.V
        a = o.minus (o.times A C)

        square : o.times a a ≡ b
        square = solve₂ o L (A ∷ B ∷ b ∷ C ∷ []) (⊖ (v 0 ⊗ v 3) ⊗ ⊖ (v 0 ⊗ v 3)) (v 2)
            (v 3 ⊗ v 3) (v 0 ⊗ v 0) (v 2 ⊗ (v 1 ⊗ v 1)) equal
            (v 2 ⊗ (v 1 ⊗ v 3 ⊕ 𝟏)) (v 1 ⊗ v 3) 𝟏 inverse refl

        even_nonzero : A ≢ o.nought
        even_nonzero e = times_nonzero o L inv b (o.times B B) ne (times_nonzero o L inv B B odd_nonzero odd_nonzero)
            (sym equal ∙ solve₁ o L (A ∷ []) (v 0 ⊗ v 0) 𝟎 (v 0) (v 0) 𝟎 e refl)

        here : eval o f a ≡ o.nought
        here = eval_square o L b f a square ∙ solve₁ o L (A ∷ B ∷ C ∷ []) (v 0 ⊕ ⊖ (v 0 ⊗ v 2) ⊗ v 1) 𝟎 (⊖ v 0) (v 1 ⊗ v 2) 𝟏 inverse refl

        minus_square : o.times (o.minus a) (o.minus a) ≡ b
        minus_square = solve o L (a ∷ []) (⊖ v 0 ⊗ ⊖ v 0) (v 0 ⊗ v 0) refl ∙ square

        other : eval o f (o.minus a) ≢ o.nought
        other e = twice_nonzero A even_nonzero
            (sym (eval_square o L b f (o.minus a) minus_square ∙ solve₁ o L (A ∷ B ∷ C ∷ []) (v 0 ⊕ ⊖ (⊖ (v 0 ⊗ v 2)) ⊗ v 1) (v 0 ⊕ v 0) (v 0) (v 1 ⊗ v 2) 𝟏 inverse refl) ∙ e)

        a_nonzero : a ≢ o.nought
        a_nonzero e = ne (sym square ∙ solve₁ o L (a ∷ []) (v 0 ⊗ v 0) 𝟎 (v 0) (v 0) 𝟎 e refl)

        steep : slope o f a ≢ o.nought
        steep e = simple (subst (λ y. slope o (transform o f) y ≡ o.nought) square (root_multiple f a here a_nonzero (inl e)))

    -- and no other root has that square
    pub lift_once : (f : List o.V) (b : o.V) (l : Lifted f b) (x : o.V) → eval o f x ≡ o.nought → o.times x x ≡ b → x ≡ l.root
    lift_once f b l x vanish square =
        ⊎_elim (λ e. e) (λ e. absurd (l.alone (ap (eval o f) (sym e) ∙ vanish)))
        (square_roots o L inv x l.root (square ∙ sym l.squares))
