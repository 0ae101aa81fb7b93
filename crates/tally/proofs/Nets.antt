-- What a log moved, its net counts and its moments.
use Rattle.std.proofs.Common.{◌≡◌, ℕ, ◌+◌, ◌<◌, ◌≤◌, Bool, true, false, cond, ◌&&◌, eqb, ◌≢◌, ◌⊎◌, List, [], ◌∷◌, ◌++◌, map, pos, ◌+ℤ◌, ◌-ℤ◌, ◌≤ℤ◌, sym, refl, ap, ◌∙◌, subst, inl, inr, add-zero, add_assoc, zero-add, arith}
use Rattle.std.proofs.lemmas.Int.{ints}
use Rattle.std.proofs.lemmas.Bool.Decides.{nat_tests}
use Rattle.std.proofs.lemmas.Bool.{cond_both, cond-true, cond-false, cases_Bool, eq-eqb, ne_eqb}
use Rattle.algebra.specs.Rings.{Ops, Lawful, power, number}
use Rattle.algebra.specs.Refusals.{accepted}
use Rattle.algebra.proofs.Solver.{v, 𝟎, ◌⊗◌, ⊖◌, ◌⊝◌, solve}
use Rattle.roots.specs.Lists.{In, Distinct}
use Rattle.tally.specs.declared.call.Call.{Call}
use Rattle.tally.specs.declared.call.Call.TheVariants.{Enter, Withdraw}
use Rattle.tally.specs.Contents.{Contents, count, signed, limit, answering, Moved}
use Rattle.tally.specs.Logs.{Line, Log, line, took, moved, Answered, same_call, counted, net, moment, Kept}
use Rattle.tally.specs.Nets.{weighted_sum}
use Rattle.tally.proofs.PowerSums.{weighing, weighted_same, weighted-nought, weighted-plus, weighted_one}
use Rattle.tally.specs.Nets.{whole}
use Rattle.tally.proofs.Wholes.{whole-plus, whole-minus}

-- what one line moved, of all codes and of the code a, and what it adds to the sum k
abbrev pub gain : Line → ℕ
gain l = cond (took l) l.quantity 0

abbrev pub share : Call → Line → ℕ → ℕ
share c l a = cond (took l && (same_call c l.call && eqb l.code a)) l.quantity 0

abbrev pub part : (o : Ops) → (ℕ → o.V) → Line → ℕ → o.V
part o at l k = cond (took l) (signed o l.call (o.times (number o l.quantity) (power o (at l.code) k))) o.nought

pub moved_push : (log : Log) (l : Line) → moved (log ++ (l ∷ [])) ≡ moved log + gain l
moved_push [] l = omega arith
moved_push (x ∷ log) l = let h = moved_push log l in omega arith

pub counted_push : (c : Call) (log : Log) (l : Line) (a : ℕ) → counted c (log ++ (l ∷ [])) a ≡ counted c log a + share c l a
counted_push c [] l a = omega arith
counted_push c (x ∷ log) l a = let h = counted_push c log l a in omega arith

answered_from : (q t : ℕ) (log : Log) (l : Line) → Answered q t log → l.answer ≡ answering q (t + moved log) l.code l.quantity
    → Answered q t (log ++ (l ∷ []))
answered_from q t [] l A e = (rw add-zero at e, tt)
answered_from q t (x ∷ log) l A e = (A.0, answered_from q (t + gain x) log l A.1 (e ∙ ap (λ (u : ℕ). answering q u l.code l.quantity) (sym (add_assoc t (gain x) (moved log)))))

pub answered_push : (q : ℕ) (log : Log) (l : Line) → Answered q 0 log → l.answer ≡ answering q (moved log) l.code l.quantity
    → Answered q 0 (log ++ (l ∷ []))
answered_push q log l A e = answered_from q 0 log l A (e ∙ ap (λ (u : ℕ). answering q u l.code l.quantity) (sym (zero-add (moved log))))

pub answering-took : (q t a n : ℕ) → eqb (answering q t a n).0 0 ≡ true → (1 ≤ a) × (a < q) × (1 ≤ n) × (t + n ≤ limit q)
answering-took q t a n e = grind (arith, nat_tests)

-- an accepted line that is answered as defined
line-took : (q t : ℕ) (l : Line) → l.answer ≡ answering q t l.code l.quantity → took l ≡ true
    → (1 ≤ l.code) × (l.code < q) × (1 ≤ l.quantity) × (t + l.quantity ≤ limit q)
line-took q t l e k = answering-took q t l.code l.quantity (subst (λ (r : ℕ × List ℕ). eqb r.0 0 ≡ true) e k)

moved-limit_from : (q t : ℕ) (log : Log) → t ≤ limit q → Answered q t log → t + moved log ≤ limit q
moved-limit_from q t [] h A = omega arith
moved-limit_from q t (l ∷ log) h A =
    let next : t + gain l ≤ limit q = cond_both (took l) l.quantity 0 (λ n. t + n ≤ limit q) (λ k. (line-took q t l A.0 k).3) (λ k. omega arith) in
    let i = moved-limit_from q (t + gain l) log next A.1 in omega arith

pub moved-limit : (q : ℕ) (log : Log) → Answered q 0 log → moved log ≤ limit q
moved-limit q log A = let h = moved-limit_from q 0 log (omega arith) A in omega arith

shares : (b e : Bool) (c : Call) (n : ℕ)
    → cond (b && (same_call Enter c && e)) n 0 + cond (b && (same_call Withdraw c && e)) n 0 ≤ cond b n 0
shares b e c n = grind arith

counted-moved : (log : Log) (a : ℕ) → counted Enter log a + counted Withdraw log a ≤ moved log
counted-moved [] a = omega arith
counted-moved (l ∷ log) a = let h = counted-moved log a in let s = shares (took l) (eqb l.code a) l.call l.quantity in omega arith

pub net_bound : (q : ℕ) (log : Log) → Answered q 0 log → (a : ℕ) → counted Enter log a + counted Withdraw log a ≤ limit q
net_bound q log A a = omega (arith, counted-moved log a, moved-limit q log A)

pub net_low : (q : ℕ) (log : Log) → Answered q 0 log → (a : ℕ) → (pos 0 -ℤ pos (limit q)) ≤ℤ net log a
net_low q log A a = let h = net_bound q log A a in omega (arith, ints)

pub net-high : (q : ℕ) (log : Log) → Answered q 0 log → (a : ℕ) → net log a ≤ℤ pos (limit q)
net-high q log A a = let h = net_bound q log A a in omega (arith, ints)

took_code_from : (q t : ℕ) (log : Log) → Answered q t log → (l : Line) → In l log → took l ≡ true → (1 ≤ l.code) × (l.code < q)
took_code_from q t [] A l i k = absurd i
took_code_from q t (x ∷ log) A l (inl e) k =
    let p = line-took q t x A.0 (subst (λ (y : Line). took y ≡ true) e k) in
    subst (λ (y : Line). (1 ≤ y.code) × (y.code < q)) (sym e) (p.0, p.1)
took_code_from q t (x ∷ log) A l (inr i) k = took_code_from q (t + gain x) log A.1 l i k

pub took_code : (q : ℕ) (log : Log) → Answered q 0 log → (l : Line) → In l log → took l ≡ true → (1 ≤ l.code) × (l.code < q)
took_code q log A l i k = took_code_from q 0 log A l i k

share_absent : (c : Call) (l : Line) (a : ℕ) → (took l ≡ true → l.code ≢ a) → share c l a ≡ 0
share_absent c l a h = grind (arith, nat_tests)

counted_absent : (c : Call) (log : Log) (a : ℕ) → ((l : Line) → In l log → took l ≡ true → l.code ≢ a) → counted c log a ≡ 0
counted_absent c [] a h = refl
counted_absent c (l ∷ log) a h =
    let s = share_absent c l a (h l (inl refl)) in
    let r = counted_absent c log a (λ x i. h x (inr i)) in omega arith

-- a code of no accepted line
pub net_absent : (log : Log) (a : ℕ) → ((l : Line) → In l log → took l ≡ true → l.code ≢ a) → net log a ≡ pos 0
net_absent log a h = let e = counted_absent Enter log a h in let w = counted_absent Withdraw log a h in omega (arith, ints)

pub net_outside : (q : ℕ) (log : Log) → Answered q 0 log → (a : ℕ) → (a ≡ 0) ⊎ (q ≤ a) → net log a ≡ pos 0
net_outside q log A a out = net_absent log a (λ l i k e. (let t = took_code q log A l i k in elim out [ inl z ↦ omega arith | inr z ↦ omega arith ]))

module _ (o : Ops) (L : Lawful o) (at : ℕ → o.V) where
  pub moment_push : (log : Log) (l : Line) (k : ℕ) → moment o at (log ++ (l ∷ [])) k ≡ o.plus (moment o at log k) (part o at l k)
  moment_push [] l k = L.plus_comm (part o at l k) o.nought
  moment_push (x ∷ log) l k = ap (o.plus (part o at x k)) (moment_push log l k) ∙ sym (L.plus_assoc (part o at x k) (moment o at log k) (part o at l k))

  -- a tally in which nothing was moved has kept the empty log
  pub kept_none : (q : ℕ) (s : Contents o.V) → s.turnover ≡ 0 → ((k : ℕ) → k < count s → s.sum k ≡ o.nought) → Kept o q at [] s
  kept_none q s e h = record { answered = tt; turnover = e; sums = h }

  -- a refused line changes nothing
  pub kept_refused : (q : ℕ) (log : Log) (s : Contents o.V) (l : Line) → Kept o q at log s
      → l.answer ≡ answering q s.turnover l.code l.quantity → took l ≡ false → Kept o q at (log ++ (l ∷ [])) s
  kept_refused q log s l K e r = record {
    answered = answered_push q log l K.answered (e ∙ ap (λ (u : ℕ). answering q u l.code l.quantity) K.turnover);
    turnover = (let g : gain l ≡ 0 = cond-false (took l) l.quantity 0 r in omega (arith, K.turnover, moved_push log l));
    sums = λ k h. K.sums k h ∙ sym (moment_push log l k
        ∙ ap (o.plus (moment o at log k)) (cond-false (took l) (signed o l.call (o.times (number o l.quantity) (power o (at l.code) k))) o.nought r)
        ∙ L.plus-nought (moment o at log k));
  }

  -- an accepted line
  pub kept_moved : (q : ℕ) (log : Log) (s t : Contents o.V) (call : Call) (a n : ℕ) → Kept o q at log s → Moved o call (at a) n s t
      → accepted ≡ answering q s.turnover a n → Kept o q at (log ++ (line call a n accepted ∷ [])) t
  kept_moved q log s t call a n K m e =
      let l : Line = line call a n accepted in
      record {
        answered = answered_push q log l K.answered (e ∙ ap (λ (u : ℕ). answering q u a n) K.turnover);
        turnover = m.turnover ∙ ap (λ (u : ℕ). u + n) K.turnover ∙ sym (moved_push log l);
        sums = λ k h. (let b : k < count s = omega arith in
            m.sum k b ∙ ap (λ x. o.plus x (signed o call (o.times (number o n) (power o (at a) k)))) (K.sums k b) ∙ sym (moment_push log l k));
      }

  -- the weight of one line at a code
  single : (b e : Bool) (c : Call) (n : ℕ)
      → o.plus (number o (cond (b && (same_call Enter c && e)) n 0 + 0)) (o.minus (number o (cond (b && (same_call Withdraw c && e)) n 0 + 0)))
      ≡ cond (b && e) (signed o c (number o n)) o.nought
  single false e c n = solve o L [] (𝟎 ⊝ 𝟎) 𝟎 refl
  single true true Enter n = rw add-zero (solve o L (number o n ∷ []) (v 0 ⊝ 𝟎) (v 0) refl)
  single true true Withdraw n = rw add-zero (solve o L (number o n ∷ []) (𝟎 ⊝ v 0) (⊖ v 0) refl)
  single true false Enter n = solve o L [] (𝟎 ⊝ 𝟎) 𝟎 refl
  single true false Withdraw n = solve o L [] (𝟎 ⊝ 𝟎) 𝟎 refl

  pub signed-times : (c : Call) (x y : o.V) → o.times (signed o c x) y ≡ signed o c (o.times x y)
  signed-times Enter x y = refl
  signed-times Withdraw x y = solve o L (x ∷ y ∷ []) ((⊖ v 0) ⊗ v 1) (⊖ (v 0 ⊗ v 1)) refl

  net_single : (l : Line) (a : ℕ) → whole o (net (l ∷ []) a) ≡ cond (took l && eqb l.code a) (signed o l.call (number o l.quantity)) o.nought
  net_single l a = whole-minus o L (pos (counted Enter (l ∷ []) a)) (pos (counted Withdraw (l ∷ []) a)) ∙ single (took l) (eqb l.code a) l.call l.quantity

  net_more : (l : Line) (log : Log) (a : ℕ) → net (l ∷ log) a ≡ net (l ∷ []) a +ℤ net log a
  net_more l log a = omega (arith, ints)

  moment_single : (l : Line) (cs : List ℕ) (k : ℕ) → Distinct cs → (took l ≡ true → In l.code cs)
      → weighted_sum o (weighing o at (λ c. whole o (net (l ∷ []) c)) cs) k ≡ part o at l k
  moment_single l cs k D h =
      let s : o.V = signed o l.call (number o l.quantity) in
      let P : o.V = power o (at l.code) k in
      let f : ℕ → o.V = λ c. cond (took l && eqb l.code c) s o.nought in
      weighted_same o L at (λ c. whole o (net (l ∷ []) c)) f cs k (λ c i. net_single l c)
      ∙ elim (cases_Bool (took l)) [
        | inl t ↦ weighted_one o L at f cs k D l.code (h t) (λ c i n. cond-false (took l && eqb l.code c) s o.nought
            (ap (λ b. b && eqb l.code c) t ∙ ne_eqb l.code c (λ z. n (sym z))))
            ∙ ap (λ x. o.times x P) (cond-true (took l && eqb l.code l.code) s o.nought (ap (λ b. b && eqb l.code l.code) t ∙ eq-eqb l.code l.code refl))
            ∙ signed-times l.call (number o l.quantity) P
            ∙ sym (cond-true (took l) (signed o l.call (o.times (number o l.quantity) P)) o.nought t)
        | inr t ↦ weighted-nought o L at f cs k (λ c i. cond-false (took l && eqb l.code c) s o.nought (ap (λ b. b && eqb l.code c) t))
            ∙ sym (cond-false (took l) (signed o l.call (o.times (number o l.quantity) P)) o.nought t)
      ]

  -- each sum is that of the net counts times the powers, over any codes that include those of the accepted lines
  pub moment-net : (log : Log) (cs : List ℕ) (k : ℕ) → Distinct cs → ((l : Line) → In l log → took l ≡ true → In l.code cs)
      → moment o at log k ≡ weighted_sum o (map (λ c. (at c, whole o (net log c))) cs) k
  moment-net [] cs k D h = sym (weighted-nought o L at (λ c. whole o (net [] c)) cs k (λ c i. refl))
  moment-net (l ∷ log) cs k D h =
      let f : ℕ → o.V = λ c. whole o (net (l ∷ []) c) in
      let g : ℕ → o.V = λ c. whole o (net log c) in
      sym (weighted_same o L at (λ c. whole o (net (l ∷ log) c)) (λ c. o.plus (f c) (g c)) cs k (λ c i. ap (whole o) (net_more l log c) ∙ whole-plus o L (net (l ∷ []) c) (net log c))
      ∙ weighted-plus o L at f g cs k
      ∙ ap (λ x. o.plus x (weighted_sum o (weighing o at g cs) k)) (moment_single l cs k D (h l (inl refl)))
      ∙ ap (o.plus (part o at l k)) (sym (moment-net log cs k D (λ x i. h x (inr i)))))
