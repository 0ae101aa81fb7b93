-- Bytes that are put one after another.
use Rattle.std.proofs.Common.{◌≡◌, ℕ, ◌+◌, ◌<◌, ◌≤◌, List, [], ◌∷◌, ◌++◌, length, get_or, take, drop, sym, refl, ap, ◌∙◌, subst, arith, below_more}
use borrow.Rule.Slice.PartMut.{put_mid}
use Rattle.std.specs.List.{flat_map}
use Rattle.std.proofs.lemmas.List.{append_assoc, drop-drop, drop_at, take_at, get_or_append_left, get_or_push, length-append, length_push, length-take-le, length-drop, flat_map_more}
use Rattle.tally.specs.Contents.{Contents, count}
use Rattle.sheet.specs.Sheets.{word, sums_bytes}
use Rattle.sheet.specs.Sections.{Puts, SumsPut}

-- bytes that were copied into the middle
pub put_middle : (ys before zs : List ℕ) (p k : ℕ) → zs ≡ ys → k ≡ length ys → p + length ys ≤ length before → Puts ys before p (put_mid p k before zs) (p + length ys)
put_middle ys before zs p k e ek h =
    let done = take p before ++ ys in
    let rest = drop (p + length ys) before in
    let at : length done ≡ p + length ys = omega (arith, length-append (take p before) ys, length-take-le p before (omega arith)) in
    let is : put_mid p k before zs ≡ done ++ rest =
    ap (λ j. put_mid p j before zs) ek ∙ ap (λ z. put_mid p (length ys) before z) e ∙ ap (λ z. take p before ++ (ys ++ z)) (drop-drop (length ys) p before) ∙ sym (append_assoc (take p before) ys rest) in
    record {
      place = refl;
      long = omega (arith, ap length is, length-append done rest, length-drop (p + length ys) before);
      front = ap (take (p + length ys)) is ∙ take_at done rest (p + length ys) at;
      back = ap (drop (p + length ys)) is ∙ drop_at done rest (p + length ys) at;
    }

pub put_both : (xs ys a b c : List ℕ) (p q r : ℕ) → Puts xs a p b q → Puts ys b q c r → Puts (xs ++ ys) a p c r
put_both xs ys a b c p q r one two = record {
  place = omega (arith, one.place, two.place, length-append xs ys);
  long = two.long ∙ one.long;
  front = two.front ∙ ap (λ x. x ++ ys) one.front ∙ append_assoc (take p a) xs ys;
  back =
      let on : (x : List ℕ) → drop r x ≡ drop (length ys) (drop q x) = λ x. ap (λ n. drop n x) two.place ∙ sym (drop-drop (length ys) q x) in
      two.back ∙ on b ∙ ap (drop (length ys)) one.back ∙ sym (on a);
}

-- the codes of the first k sums were put
pub record SumsSoFar {V : Type 0} (q : ℕ) (at : ℕ → V) (c : Contents V) (before : List ℕ) (p : ℕ) (after : List ℕ) (r k : ℕ) : Type 0 where
  pub codes : List ℕ
  pub long : length codes ≡ k
  pub small : (j : ℕ) → j < k → get_or codes j 0 < q
  pub means : (j : ℕ) → j < k → at (get_or codes j 0) ≡ c.sum j
  pub puts : Puts (flat_map word codes) before p after r

module _ {V : Type 0} (q : ℕ) (at : ℕ → V) (c : Contents V) (before : List ℕ) (p : ℕ) where
  pub more_sums : (out out' : List ℕ) (r s k x : ℕ) → x < q → at x ≡ c.sum k → Puts (word x) out r out' s → SumsSoFar q at c before p out r k → SumsSoFar q at c before p out' s (k + 1)
  more_sums out out' r s k x small means put so =
      let xs = so.codes in
      let old : (j : ℕ) → j < k → get_or (xs ++ (x ∷ [])) j 0 ≡ get_or xs j 0 = λ j h. get_or_append_left xs (x ∷ []) 0 j (omega (arith, so.long)) in
      let new : get_or (xs ++ (x ∷ [])) k 0 ≡ x = get_or_push xs x 0 k so.long in
      record {
        codes = xs ++ (x ∷ []);
        long = length_push xs x ∙ ap (λ n. n + 1) so.long;
        small = below_more (λ j. get_or (xs ++ (x ∷ [])) j 0 < q) k (λ j h. subst (λ v. v < q) (sym (old j h)) (so.small j h)) (subst (λ v. v < q) (sym new) small);
        means = below_more (λ j. at (get_or (xs ++ (x ∷ [])) j 0) ≡ c.sum j) k (λ j h. ap at (old j h) ∙ so.means j h) (ap at new ∙ means);
        puts = subst (λ ys. Puts ys before p out' s) (flat_map_more word [] xs x) (put_both (flat_map word xs) (word x) before out out' p r s so.puts put);
      }

  pub all_sums : (start out : List ℕ) (o r k : ℕ) → k ≡ count c → Puts (word k) start o before p → SumsSoFar q at c before p out r k → SumsPut q at c start o out r
  unfolding sums_bytes
  all_sums start out o r k e put so = record {
    codes = so.codes;
    coded = record {
      coded = record { long = so.long ∙ e; small = λ j h. so.small j (omega arith) };
      means = λ j h. so.means j (omega arith);
    };
    puts = put_both (word (length so.codes)) (flat_map word so.codes) start before out o p r (subst (λ n. Puts (word n) start o before p) (sym so.long) put) so.puts;
  }
