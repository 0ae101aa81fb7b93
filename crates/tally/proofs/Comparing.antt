-- How far comparing the sums of two tallies reaches.
use Rattle.std.proofs.Common.{◌≡◌, ℕ, zero, suc, ◌<◌, ◌≤◌, Bool, true, ◌≢◌, ◌↔◌, List, [], ◌∷◌, map, length, ℤ, pos, ◌-ℤ◌, nat_abs, ◌≤ℤ◌, sym, refl, ap, ◌∙◌, subst, inl, inr, arith}
use lib.IntN.{ℤ_discrete}
use lib.ListN.{length-map}
use Rattle.std.proofs.lemmas.Simd.{map-map}
use Rattle.std.proofs.lemmas.Int.{ints}
use Rattle.std.proofs.lemmas.Bool.{cases_eq}
use Rattle.algebra.specs.Rings.{Ops, Lawful}
use Rattle.algebra.specs.Fields.{IsField}
use Rattle.algebra.proofs.Solver.{v, 𝟎, 𝟏, ◌⊝◌, solve₁}
use Rattle.roots.specs.Lists.{In, Distinct}
use Rattle.roots.proofs.ListLaws.{distinct_map, ascending_distinct}
use Rattle.tally.specs.Contents.{Contents, count, limit, Agree}
use Rattle.tally.specs.Logs.{Log, Answered, net, moment}
use Rattle.tally.specs.Reach.{Differing, Reaches}
use Rattle.tally.specs.Nets.{weighted_sum}
use Rattle.tally.proofs.PowerSums.{weighing, first, independent, weighted_same, weighted-minus, weighted-within}
use Rattle.tally.specs.Nets.{whole}
use Rattle.tally.proofs.Wholes.{whole-minus, whole_nonzero}
use Rattle.tally.proofs.Nets.{took_code, net_outside, net_low, net-high, moment-net}

-- the numbers below n
abbrev below : ℕ → List ℕ
below zero = []
below (suc n) = n ∷ below n

below_in : (n c : ℕ) → In c (below n) → c < n
below_in zero c i = absurd i
below_in (suc n) c (inl e) = omega arith
below_in (suc n) c (inr i) = let h = below_in n c i in omega arith

in_below : (n c : ℕ) → c < n → In c (below n)
in_below zero c h = absurd (omega arith)
in_below (suc n) c h = elim (cases_eq c n) [ inl e ↦ inl e | inr d ↦ inr (in_below n c (omega arith)) ]

below_distinct : (n : ℕ) → Distinct (below n)
below_distinct zero = tt
below_distinct (suc n) = (λ i. (let h = below_in n n i in omega arith), below_distinct n)

no_difference : (x y : ℤ) → x ≡ y → x -ℤ y ≡ pos 0
no_difference x y e = omega (arith, ints)

some_difference : (x y : ℤ) → x ≢ y → x -ℤ y ≢ pos 0
some_difference x y n e = n (omega (arith, ints))

-- the difference of two net counts is below the order
small_difference : (q : ℕ) (x y : ℤ) → 5 ≤ q → (pos 0 -ℤ pos (limit q)) ≤ℤ x → x ≤ℤ pos (limit q) → (pos 0 -ℤ pos (limit q)) ≤ℤ y → y ≤ℤ pos (limit q)
    → nat_abs (x -ℤ y) < q
small_difference q x y b xl xh yl yh = omega (arith, ints)

-- outside the list the net counts agree
same_net : (q : ℕ) (l r : Log) → Answered q 0 l → Answered q 0 r → (cs : List ℕ) → Differing q l r cs → (c : ℕ) → c < q → (In c cs → ⊥) → net l c ≡ net r c
same_net q l r A B cs d c h out = elim (cases_eq c 0) [
  | inl e ↦ net_outside q l A c (inl e) ∙ sym (net_outside q r B c (inl e))
  | inr n ↦ elim (ℤ_discrete (net l c) (net r c)) [ yes e ↦ e | no w ↦ absurd (out ((d.exactly c).1 (omega arith, h, w))) ]
]

-- the element of the difference of two net counts
abbrev pub gap : (o : Ops) → Log → Log → ℕ → o.V
gap o l r c = whole o (net l c -ℤ net r c)

module _ (o : Ops) (L : Lawful o) (at : ℕ → o.V) where
  -- the difference of two sums in terms of the codes that differ
  pub difference : (q : ℕ) (l r : Log) → Answered q 0 l → Answered q 0 r → (cs : List ℕ) → Differing q l r cs → (k : ℕ)
      → o.plus (moment o at l k) (o.minus (moment o at r k)) ≡ weighted_sum o (weighing o at (gap o l r) cs) k
  difference q l r A B cs d k =
      let f : ℕ → o.V = λ c. whole o (net l c) in
      let g : ℕ → o.V = λ c. whole o (net r c) in
      ap (λ x. o.plus x (o.minus (moment o at r k))) (moment-net o L at l (below q) k (below_distinct q) (λ x i t. in_below q x.code (took_code q l A x i t).1))
      ∙ ap (λ x. o.plus (weighted_sum o (weighing o at f (below q)) k) (o.minus x))
      (moment-net o L at r (below q) k (below_distinct q) (λ x i t. in_below q x.code (took_code q r B x i t).1))
      ∙ sym (weighted_same o L at (gap o l r) (λ c. o.plus (f c) (o.minus (g c))) (below q) k (λ c i. whole-minus o L (net l c) (net r c)) ∙ weighted-minus o L at f g (below q) k)
      ∙ weighted-within o L at (below q) (below_distinct q) k cs (ascending_distinct cs d.ascending) (λ c i. in_below q c ((d.exactly c).0 i).1) (gap o l r)
      (λ c i out. ap (whole o) (no_difference (net l c) (net r c) (same_net q l r A B cs d c (below_in q c i) out)))

module _ (o : Ops) (L : Lawful o) (q M m : ℕ) (at : ℕ → o.V) (z : o.V) (F : IsField o q M m at z) where
  -- where no net counts differ, every sum agrees
  pub agree_from_none : (l r : Log) → Answered q 0 l → Answered q 0 r → Differing q l r [] → (k : ℕ) → moment o at l k ≡ moment o at r k
  agree_from_none l r A B d k =
      solve₁ o L (moment o at l k ∷ moment o at r k ∷ []) (v 0) (v 1) 𝟏 (v 0 ⊝ v 1) 𝟎 (difference o L at q l r A B [] d k) refl

  -- where as many sums agree as net counts differ, none differs
  pub none_from_agree : (l r : Log) → Answered q 0 l → Answered q 0 r → (cs : List ℕ) → Differing q l r cs → (N : ℕ) → length cs ≤ N
      → ((k : ℕ) → k < N → moment o at l k ≡ moment o at r k) → cs ≡ []
  none_from_agree l r A B [] d N h same = refl
  none_from_agree l r A B (a ∷ others) d N h same = absurd
      (whole_nonzero o L q M m at z F (net l a -ℤ net r a) (some_difference (net l a) (net r a) ((d.exactly a).0 (inl refl)).2)
      (small_difference q (net l a) (net r a) F.bounded.low (net_low q l A a) (net-high q l A a) (net_low q r B a) (net-high q r B a))
      (independent o L F.invertible (weighing o at (gap o l r) (a ∷ others)) distinct none (at a, gap o l r a) (inl refl)))
    where
      distinct : Distinct (map first (weighing o at (gap o l r) (a ∷ others)))
      distinct = subst (λ (x : List o.V). Distinct x) (sym (map-map {B = o.V × o.V} first (λ c. (at c, gap o l r c)) (a ∷ others)))
          (distinct_map at (a ∷ others) (λ b c i j. F.coded.once b c ((d.exactly b).0 i).1 ((d.exactly c).0 j).1) (ascending_distinct (a ∷ others) d.ascending))

      none : (k : ℕ) → k < length (weighing o at (gap o l r) (a ∷ others)) → weighted_sum o (weighing o at (gap o l r) (a ∷ others)) k ≡ o.nought
      none k b = sym (difference o L at q l r A B (a ∷ others) d k)
          ∙ solve₁ o L (moment o at l k ∷ moment o at r k ∷ []) (v 0 ⊝ v 1) 𝟎 𝟏 (v 0) (v 1)
          (same k (omega (arith, length-map {B = o.V × o.V} (a ∷ others) (λ c. (at c, gap o l r c))))) refl

  pub reaches : (s t : Contents o.V) (b : Bool) → count t ≡ count s → (b ≡ true) ↔ Agree s t → Reaches o q at s t b
  reaches s t b w both l r K J cs d h = (
    λ e. none_from_agree l r K.answered J.answered cs d (count s) h (λ k i. sym (K.sums k i) ∙ both.0 e k i ∙ J.sums k (subst (λ (n : ℕ). k < n) (sym w) i)),
    λ e. both.1 (λ k i. K.sums k i
        ∙ agree_from_none l r K.answered J.answered (subst (λ (x : List ℕ). Differing q l r x) e d) k
        ∙ sym (J.sums k (subst (λ (n : ℕ). k < n) (sym w) i))),
  )
