-- What a visit finds, from its verdict and the visits below it.
use Rattle.std.proofs.Common.{◌≡◌, ℕ, zero, suc, ◌+◌, ◌-◌, ◌*◌, ◌/◌, ◌^◌, ◌<◌, ◌≤◌, ◌≢◌, ◌↔◌, List, [], ◌∷◌, ◌++◌, length, take, drop, sym, refl, ap, ◌∙◌, subst, inl, inr, ⊎_elim, mul-add, add-one, arith, length-append, pow_pos}
use lib.ListN.{length-map}
use Rattle.std.proofs.lemmas.List.{drop-drop, length-take-le}
use Rattle.algebra.specs.Rings.{Lawful, power, raised}
use Rattle.algebra.specs.Fields.{IsField}
use Rattle.algebra.specs.Polynomials.{eval}
use Rattle.algebra.specs.Graeffe.{tower}
use Rattle.algebra.specs.declared.ring.Ring.{Ghosts as RingOf}
use Rattle.algebra.specs.declared.field.Field.{Ghosts as FieldOf}
use Rattle.roots.specs.Slopes.{slope}
use Rattle.roots.specs.Lists.{In, put}
use Rattle.roots.specs.Codes.{element}
use Rattle.algebra.proofs.Raised.{raised-power}
use Rattle.roots.specs.Roots.{Root, codes}
use Rattle.roots.specs.declared.record.RootRecord.{RootRecord}
use Rattle.roots.specs.Verdicts.{Alone, Judged}
use Rattle.roots.specs.declared.verdict.Verdict.{Verdict}
use Rattle.roots.specs.Reaching.{zeta_power, Reach, Below}
use Rattle.roots.specs.Searches.{Ready, Visited}
use Rattle.roots.proofs.Towers.{twice_power, power_one}
use Rattle.roots.proofs.ListLaws.{in_put, put_ascending, length-put}
use Rattle.roots.proofs.SearchLaws.{Split, Halves, none_here, bottom_here, simple_here, split_here, half_multiple, node_pairs}
use Rattle.roots.proofs.SearchStarts.{roots_fit}

module _ {S : Type 0} (R : RingOf S) (F : FieldOf S) (L : Lawful R.ring)
    (I : IsField R.ring F.order F.odd F.levels (λ c. R.value (F.at c)) (R.value F.zeta)) (f : List R.ring.V) where
  -- the leaves count one trial
  leaf_few : (k t : ℕ) → (t + 1) + 1 ≤ t + 2 ^ (k + 1)
  leaf_few k t = omega (arith, ap (λ n. 2 ^ n) (add-one k), twice_power k, pow_pos k)

  -- what an only root adds, with nothing repeated
  alone_reach : (k e c : ℕ) → Alone R F f k (zeta_power R F e) c → ((x : ℕ) → Reach R F f k e x ↔ (x ≡ c)) × ((p : ℕ × ℕ) → Below R F f k e p → ⊥)
  alone_reach k e c a = ⊎_elim
      (λ steep. simple_here R F L I f k e c (element R F c) steep a.root a.powers a.once a.code refl)
      (λ zero-level.
      let P : ℕ → Type 0 = λ n. ((x : ℕ) → Reach R F f n e x ↔ (x ≡ c)) × ((p : ℕ × ℕ) → Below R F f n e p → ⊥) in
      let is : element R F c ≡ zeta_power R F e =
      sym (power_one R.ring L (element R F c)) ∙ ap (λ n. power R.ring (element R F c) (2 ^ n)) (sym zero-level) ∙ a.powers in
      subst P (sym zero-level) (bottom_here R F L I f e c (ap (eval R.ring f) (sym is) ∙ a.root) a.code is))
      a.simple

  alone_fresh : (k e c : ℕ) (xs : List ℕ) → Ready R F f k e xs → Alone R F f k (zeta_power R F e) c → In c xs → ⊥
  alone_fresh k e c xs r a i = r.fresh c i (((alone_reach k e c a).0 c).1 refl)

  put_roots : (k e c : ℕ) (xs : List ℕ) → Ready R F f k e xs → Alone R F f k (zeta_power R F e) c → (x : ℕ) → In x (put c xs) → Root R F f x
  put_roots k e c xs r a x i = ⊎_elim (λ same. subst (Root R F f) (sym same) (a.code, a.root)) (λ old. r.roots x old) ((in_put c xs x).0 i)

  -- there is a record for the root that is found
  pub put_fits : (k e c : ℕ) (xs : List ℕ) → Ready R F f k e xs → Alone R F f k (zeta_power R F e) c → suc (length xs) ≤ length f - 1
  put_fits k e c xs r a =
      let long : length f ≡ suc (length f - 1) = omega (arith, r.some) in
      omega (arith, length-put c xs, roots_fit R F L I f (length f - 1) long r.top (put c xs) (put_ascending c xs r.ascending (alone_fresh k e c xs r a)) (put_roots k e c xs r a))

  pub visited_nothing : (k e t : ℕ) (xs : List ℕ) → Ready R F f k e xs → eval R.ring (tower R.ring f k) (zeta_power R F e) ≢ R.ring.nought → Visited R F f k e xs xs t (t + 1)
  visited_nothing k e t xs r ne =
      let none = none_here R F L I f k e ne in
      record {
        ascending = r.ascending;
        found = λ c. (inl, λ s. ⊎_elim (λ i. i) (λ h. absurd (none.0 c h)) s);
        tried = ([], tt, λ p. (λ i. absurd i, λ b. none.1 p b), omega arith);
        few = leaf_few k t;
      }

  pub visited_root : (k e c t : ℕ) (xs : List ℕ) → Ready R F f k e xs → Alone R F f k (zeta_power R F e) c → Visited R F f k e xs (put c xs) t (t + 1)
  visited_root k e c t xs r a =
      let only = alone_reach k e c a in
      record {
        ascending = put_ascending c xs r.ascending (alone_fresh k e c xs r a);
        found = λ x. (λ i. ⊎_elim (λ s. inr ((only.0 x).1 s)) (λ o. inl o) ((in_put c xs x).0 i), λ s. (in_put c xs x).1 (⊎_elim (λ o. inr o) (λ h. inl ((only.0 x).0 h)) s));
        tried = ([], tt, λ p. (λ i. absurd i, λ b. only.1 p b), omega arith);
        few = leaf_few k t;
      }

  module _ (k e t : ℕ) (xs : List ℕ) (r : Ready R F f (suc k) e xs)
      (vanish : eval R.ring (tower R.ring f (suc k)) (zeta_power R F e) ≡ R.ring.nought) (flat : slope R.ring (tower R.ring f (suc k)) (zeta_power R F e) ≡ R.ring.nought) where
    half : ℕ
    half = (F.order - 1) / 2

    twice : e ≡ e / 2 + e / 2
    twice =
        let a = r.multiple.0 in
        let both : e ≡ a * 2 ^ k + a * 2 ^ k = r.multiple.1 ∙ ap (λ n. a * n) (twice_power k) ∙ mul-add a (2 ^ k) (2 ^ k) in
        omega arith

    halves : Halves F.order k (e / 2)
    halves = half_multiple R F L I f k e (e / 2) r.multiple.0 r.low twice r.multiple.1 r.below

    code : (c : ℕ) × (c < F.order) × (element R F c ≡ zeta_power R F e)
    code = I.coded.every (zeta_power R F e)

    parts : Split R F f k e (e / 2) code.0
    parts = split_here R F L I f k e (e / 2) code.0 r.low twice r.multiple.0 r.multiple.1 r.below vanish flat code.1 code.2

    pub first_ready : Ready R F f k (e / 2) xs
    first_ready = record {
      some = r.some;
      top = r.top;
      low = omega (arith, r.low);
      multiple = halves.low;
      below = halves.low_below;
      ascending = r.ascending;
      roots = r.roots;
      fresh = λ c i h. r.fresh c i ((parts.reach c).1 (inl h));
    }

    pub second_ready : (u : ℕ) (ys : List ℕ) → Visited R F f k (e / 2) xs ys (t + 1) u → Ready R F f k (e / 2 + (F.order - 1) / 2) ys
    second_ready u ys w = record {
      some = r.some;
      top = r.top;
      low = omega (arith, r.low);
      multiple = halves.high;
      below = halves.high-below;
      ascending = w.ascending;
      roots = λ c i. ⊎_elim (λ o. r.roots c o) (λ h. h.root) ((w.found c).0 i);
      fresh = λ c i h. ⊎_elim (λ o. r.fresh c o ((parts.reach c).1 (inr h))) (λ l. parts.apart c l h) ((w.found c).0 i);
    }

    pub visited_both : (u v : ℕ) (ys zs : List ℕ) → Visited R F f k (e / 2) xs ys (t + 1) u → Visited R F f k (e / 2 + (F.order - 1) / 2) ys zs u v → Visited R F f (suc k) e xs zs t v
    visited_both u v ys zs w z =
        let ps = w.tried.0 in
        let rs = z.tried.0 in
        let pairs = node_pairs R F L I f k e (e / 2) code.0 parts ps rs w.tried.1 w.tried.2 z.tried.1 z.tried.2 in
        record {
          ascending = z.ascending;
          found = λ c. (
            λ i. ⊎_elim (λ y. ⊎_elim (λ o. inl o) (λ h. inr ((parts.reach c).1 (inl h))) ((w.found c).0 y)) (λ h. inr ((parts.reach c).1 (inr h))) ((z.found c).0 i),
            λ s. (z.found c).1 (⊎_elim (λ o. inl ((w.found c).1 (inl o))) (λ h. ⊎_elim (λ l. inl ((w.found c).1 (inr l))) (λ q. inr q) ((parts.reach c).0 h)) s),
          );
          tried = ((suc k, code.0) ∷ (ps ++ rs), pairs.0, pairs.1, omega (arith, length-append ps rs, w.tried.3, z.tried.3));
          few = omega (arith, w.few, z.few, twice_power (k + 1), ap (λ n. 2 ^ n) (next k));
        }
      where
        next : (k : ℕ) → suc k + 1 ≡ suc (k + 1)
        next k = omega arith

  -- the same at a level k above 0, whose next is k - 1
  less : (j : ℕ) → j ≡ suc j - 1
  less j = omega arith

  not_below : (n : ℕ) → 0 < 0 → ⊥
  not_below n h = omega arith

  abbrev pub Vanishes : ℕ → ℕ → Type 0
  Vanishes k e = (eval R.ring (tower R.ring f k) (zeta_power R F e) ≡ R.ring.nought) × (slope R.ring (tower R.ring f k) (zeta_power R F e) ≡ R.ring.nought)

  pub both_first : (k e : ℕ) (xs : List ℕ) → 0 < k → Ready R F f k e xs → Vanishes k e → Ready R F f (k - 1) (e / 2) xs
  both_first zero e xs pos r v = absurd (not_below 0 pos)
  both_first (suc j) e xs pos r v = subst (λ i. Ready R F f i (e / 2) xs) (less j) (first_ready j e 0 xs r v.0 v.1)

  pub both_second : (k e t u : ℕ) (xs ys : List ℕ) → 0 < k → Ready R F f k e xs → Vanishes k e
      → Visited R F f (k - 1) (e / 2) xs ys (t + 1) u → Ready R F f (k - 1) (e / 2 + (F.order - 1) / 2) ys
  both_second zero e t u xs ys pos r v w = absurd (not_below 0 pos)
  both_second (suc j) e t u xs ys pos r v w =
      subst (λ i. Ready R F f i (e / 2 + (F.order - 1) / 2) ys) (less j)
      (second_ready j e t xs r v.0 v.1 u ys (subst (λ i. Visited R F f i (e / 2) xs ys (t + 1) u) (sym (less j)) w))

  pub both_visited : (k e t u v : ℕ) (xs ys zs : List ℕ) → 0 < k → Ready R F f k e xs → Vanishes k e
      → Visited R F f (k - 1) (e / 2) xs ys (t + 1) u → Visited R F f (k - 1) (e / 2 + (F.order - 1) / 2) ys zs u v → Visited R F f k e xs zs t v
  both_visited zero e t u v xs ys zs pos r h w z = absurd (not_below 0 pos)
  both_visited (suc j) e t u v xs ys zs pos r h w z =
      visited_both j e t xs r h.0 h.1 u v ys zs
      (subst (λ i. Visited R F f i (e / 2) xs ys (t + 1) u) (sym (less j)) w)
      (subst (λ i. Visited R F f i (e / 2 + (F.order - 1) / 2) ys zs u v) (sym (less j)) z)

-- the element tried is the power of the primitive one
pub tried_power : {S : Type 0} (R : RingOf S) (F : FieldOf S) (x z : R.ring.V) (e : ℕ) → z ≡ R.value F.zeta → x ≡ raised R.ring z e → x ≡ zeta_power R F e
tried_power R F x z e ez ex = ex ∙ ap (λ b. raised R.ring b e) ez ∙ raised-power R.ring (R.value F.zeta) e

-- so what a trial told there is said of that power
pub judged_power : {S : Type 0} (R : RingOf S) (F : FieldOf S) (x z : R.ring.V) (e : ℕ) → z ≡ R.value F.zeta → x ≡ raised R.ring z e
    → (f : List R.ring.V) (k : ℕ) (w : Verdict) → Judged R F f k x w → Judged R F f k (zeta_power R F e) w
judged_power R F x z e ez ex f k w j = subst (λ b. Judged R F f k b w) (tried_power R F x z e ez ex) j

-- room for the trials of the two visits below
pub few_first : (t k : ℕ) → 0 < k → t + 2 ^ (k + 1) ≤ 2 ^ 63 → (t + 1) + 2 ^ (k - 1 + 1) ≤ 2 ^ 63
few_first t k pos h =
    let one : k - 1 + 1 ≡ k = omega arith in
    omega (arith, ap (λ n. 2 ^ n) one, ap (λ n. 2 ^ n) (add-one k), twice_power k, pow_pos k)

pub few_second : (t u k : ℕ) → 0 < k → t + 2 ^ (k + 1) ≤ 2 ^ 63 → u + 1 ≤ (t + 1) + 2 ^ (k - 1 + 1) → u + 2 ^ (k - 1 + 1) ≤ 2 ^ 63
few_second t u k pos h few =
    let one : k - 1 + 1 ≡ k = omega arith in
    omega (arith, ap (λ n. 2 ^ n) one, ap (λ n. 2 ^ n) (add-one k), twice_power k)

-- what stays behind two visits
pub drop_on : {X : Type 0} (xs ys : List X) (a b : ℕ) → a ≤ b → drop a ys ≡ drop a xs → drop b ys ≡ drop b xs
drop_on xs ys a b le e =
    let more : a + (b - a) ≡ b = omega arith in
    ap (λ n. drop n ys) (sym more) ∙ sym (drop-drop (b - a) a ys) ∙ ap (drop (b - a)) e ∙ drop-drop (b - a) a xs ∙ ap (λ n. drop n xs) more

pub length-codes : (n : ℕ) (xs : List RootRecord) → n ≤ length xs → length (codes (take n xs)) ≡ n
length-codes n xs h = length-map (take n xs) (λ r. r.code.0) ∙ length-take-le n xs h
