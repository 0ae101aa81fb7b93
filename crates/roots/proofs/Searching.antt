-- The search, visit after visit of the top level.
use Rattle.std.proofs.Common.{◌≡◌, ℕ, ◌+◌, ◌-◌, ◌*◌, ◌^◌, ◌<◌, ◌≢◌, ◌⊎◌, ◌↔◌, List, [], ◌∷◌, ◌++◌, length, sym, refl, subst, inl, inr, ⊎_elim, add-mul, one-mul, arith, length-append}
use Rattle.std.proofs.lemmas.Bool.{cases_eq}
use Rattle.algebra.specs.Rings.{Lawful}
use Rattle.algebra.specs.Fields.{IsField}
use Rattle.algebra.specs.Polynomials.{coefficient}
use Rattle.algebra.specs.declared.ring.Ring.{Ghosts as RingOf}
use Rattle.algebra.specs.declared.field.Field.{Ghosts as FieldOf}
use Rattle.roots.specs.Lists.{In}
use Rattle.roots.specs.Roots.{Root, Trials}
use Rattle.roots.specs.Reaching.{Reach, Below}
use Rattle.roots.specs.Searches.{Ready, Visited, Searched}
use Rattle.roots.proofs.ListLaws.{in_append, append_in, distinct_append}
use Rattle.roots.proofs.SearchLaws.{reach_nonzero}
use Rattle.roots.proofs.SearchStarts.{top_exponent, top_reach, top_below, reach_apart, below_apart}

module _ {S : Type 0} (R : RingOf S) (F : FieldOf S) (L : Lawful R.ring)
    (I : IsField R.ring F.order F.odd F.levels (λ c. R.value (F.at c)) (R.value F.zeta)) (f : List R.ring.V) where
  none_yet : (j : ℕ) → j < 0 → ⊥
  none_yet j h = omega arith

  -- before the first visit there is zero at most
  pub searched_none : (Root R F f 0 → ⊥) → Searched R F f 0 [] 0
  searched_none not_zero = record {
    ascending = tt;
    roots = λ c. (λ i. absurd i, λ s. ⊎_elim (λ z. not_zero (subst (Root R F f) z s.0)) (λ j. none_yet j.0 j.1) s.1);
    tried = ([], tt, λ p. (λ i. absurd i, λ b. none_yet b.0 b.1), omega arith);
    few = omega arith;
  }

  pub searched_zero : Root R F f 0 → Searched R F f 0 (0 ∷ []) 0
  searched_zero root = record {
    ascending = (λ y i. absurd i, tt);
    roots = λ c. (λ i. ⊎_elim (λ z. (subst (Root R F f) (sym z) root, inl z)) (λ n. absurd n) i, λ s. ⊎_elim (λ z. inl z) (λ j. absurd (none_yet j.0 j.1)) s.1);
    tried = ([], tt, λ p. (λ i. absurd i, λ b. none_yet b.0 b.1), omega arith);
    few = omega arith;
  }

  pub searched_ready : (i t : ℕ) (xs : List ℕ) → Searched R F f i xs t → i < F.odd → 0 < length f → coefficient R.ring f (length f - 1) ≢ R.ring.nought
      → Ready R F f F.levels (i * 2 ^ F.levels) xs
  searched_ready i t xs s inside some top = record {
    some = some;
    top = top;
    low = omega arith;
    multiple = (i, refl);
    below = top_exponent R F L I f i inside;
    ascending = s.ascending;
    roots = λ c h. ((s.roots c).0 h).0;
    fresh = λ c h r. ⊎_elim (λ z. reach_nonzero R F L I f F.levels (i * 2 ^ F.levels) c r z)
        (λ j. let same : j.0 ≡ i = reach_apart R F L I f j.0 i c (omega (arith, j.1)) inside j.2 r in let lt : j.0 < i = j.1 in omega arith)
        ((s.roots c).0 h).1;
  }

  -- below i + 1 is below i, or i
  split : (P : ℕ → Type 0) (i : ℕ) → ((j : ℕ) × (j < i + 1) × P j) → ((j : ℕ) × (j < i) × P j) ⊎ P i
  split P i h = ⊎_elim (λ e. inr (subst P e h.2)) (λ ne. inl (h.0, below h.0 i h.1 ne, h.2)) (cases_eq h.0 i)
    where
      below : (j i : ℕ) → j < i + 1 → (j ≡ i → ⊥) → j < i
      below j i lt ne = omega arith

  join : (P : ℕ → Type 0) (i : ℕ) → ((j : ℕ) × (j < i) × P j) ⊎ P i → (j : ℕ) × (j < i + 1) × P j
  join P i h = ⊎_elim (λ b. (b.0, later b.0 i b.1, b.2)) (λ p. (i, here i, p)) h
    where
      later : (j i : ℕ) → j < i → j < i + 1
      later j i lt = omega arith

      here : (i : ℕ) → i < i + 1
      here i = omega arith

  pub searched_more : (i t u : ℕ) (xs ys : List ℕ) → i < F.odd → Searched R F f i xs t → Visited R F f F.levels (i * 2 ^ F.levels) xs ys t u → Searched R F f (i + 1) ys u
  searched_more i t u xs ys inside s w = record {
    ascending = w.ascending;
    roots = λ c. (
      λ h. ⊎_elim
          (λ o. let b = (s.roots c).0 o in (b.0, ⊎_elim (λ z. inl z) (λ j. inr (join (at c) i (inl j))) b.1))
          (λ r. (r.root, inr (join (at c) i (inr r)))) ((w.found c).0 h),
      λ st. (w.found c).1 (⊎_elim
          (λ z. inl ((s.roots c).1 (st.0, inl z)))
          (λ j. ⊎_elim (λ b. inl ((s.roots c).1 (st.0, inr b))) (λ r. inr r) (split (at c) i j)) st.1),
    );
    tried = (
      ps ++ rs,
      distinct_append ps rs s.tried.1 w.tried.1 (λ p a b.
          let j = (s.tried.2 p).0 a in
          let same : j.0 ≡ i = below_apart R F L I f j.0 i p (omega (arith, j.1)) inside j.2 ((w.tried.2 p).0 b) in
          let lt : j.0 < i = j.1 in omega arith),
      λ p. (
        λ h. join (under p) i (⊎_elim (λ a. inl ((s.tried.2 p).0 a)) (λ b. inr ((w.tried.2 p).0 b)) (in_append p ps rs h)),
        λ h. append_in p ps rs (⊎_elim (λ a. inl ((s.tried.2 p).1 a)) (λ b. inr ((w.tried.2 p).1 b)) (split (under p) i h)),
      ),
      omega (arith, s.tried.3, w.tried.3, length-append ps rs),
    );
    few = omega (arith, s.few, w.few, add-mul i 1 (2 ^ (F.levels + 1)), one-mul (2 ^ (F.levels + 1)));
  }
    where
      ps : List (ℕ × ℕ)
      ps = s.tried.0

      rs : List (ℕ × ℕ)
      rs = w.tried.0

      at : ℕ → ℕ → Type 0
      at c j = Reach R F f F.levels (j * 2 ^ F.levels) c

      under : ℕ × ℕ → ℕ → Type 0
      under p j = Below R F f F.levels (j * 2 ^ F.levels) p

  -- after all visits
  pub searched_all : (t : ℕ) (xs : List ℕ) → Searched R F f F.odd xs t → ((c : ℕ) → In c xs ↔ Root R F f c) × Trials R F f t
  searched_all t xs s = (
    λ c. (λ h. ((s.roots c).0 h).0, λ r. (s.roots c).1 (r, ⊎_elim (λ z. inl z) (λ ne. inr (top_reach R F L I f c r ne)) (cases_eq c 0))),
    (s.tried.0, s.tried.1, λ p. (λ h. ((s.tried.2 p).0 h).2.repeated, λ b. (s.tried.2 p).1 (top_below R F L I f p b)), s.tried.3),
  )

  -- the same at equal numbers
  pub ready_moved : (k l p r : ℕ) (xs : List ℕ) → k ≡ l → p ≡ r → Ready R F f l r xs → Ready R F f k p xs
  ready_moved k l p r xs e h a = subst (λ n. Ready R F f n p xs) (sym e) (subst (λ n. Ready R F f l n xs) (sym h) a)

  pub visited_moved : (k l p r t u : ℕ) (xs ys : List ℕ) → k ≡ l → p ≡ r → Visited R F f k p xs ys t u → Visited R F f l r xs ys t u
  visited_moved k l p r t u xs ys e h a = subst (λ n. Visited R F f n r xs ys t u) e (subst (λ n. Visited R F f k n xs ys t u) h a)

  pub searched_moved : (i j t u : ℕ) (xs ys : List ℕ) → i ≡ j → t ≡ u → xs ≡ ys → Searched R F f i xs t → Searched R F f j ys u
  searched_moved i j t u xs ys e h l a = subst (λ n. Searched R F f n ys u) e (subst (λ n. Searched R F f i ys n) h (subst (λ n. Searched R F f i n t) l a))
