-- A sheet that stands at the start of the bytes is read as what it was made of.
use Rattle.std.proofs.Common.{◌≡◌, ℕ, zero, suc, ◌+◌, ◌-◌, ◌*◌, ◌/◌, ◌^◌, ◌<◌, ◌≤◌, List, [], ◌∷◌, ◌++◌, length, get_or, take, drop, sym, refl, ap, ◌∙◌, subst, inl, inr, add-zero, arith}
use Rattle.std.specs.List.{flat_map}
use Rattle.std.proofs.lemmas.List.{append_assoc, drop-drop, drop_at, take_at, get_or_append_left, length-append, length-drop, get_or_push, ext_get_or}
use Rattle.algebra.specs.Refusals.{accepted, or_else}
use Rattle.sheet.specs.Sheets.{number_at, told_codes, told_count, word, Good, frame_bytes, sums_items, sums_bytes, name_items, name_bytes, sheet_bytes, reading}
use Rattle.sheet.specs.Reads.{Sound}
use Rattle.sheet.proofs.Words.{number-drop, number_of, word_long}
use Rattle.sheet.proofs.Items.{below, passed, exactly}
use Rattle.sheet.proofs.Sections.{told_long, frame_accepted, sums_accepted, name_accepted}

pub next : (bs : List ℕ) (p n : ℕ) (post : List ℕ) → drop p bs ≡ word n ++ post → drop (p + 4) bs ≡ post
next bs p n post e = sym (drop-drop 4 p bs) ∙ ap (drop 4) e ∙ drop_at (word n) post 4 (word_long n)

pub good_at : (bs : List ℕ) (p a b n : ℕ) (post : List ℕ) → drop p bs ≡ word n ++ post → n < 2 ^ 32 → a ≤ n → n ≤ b → Good bs p a b n
good_at bs p a b n post e h l m = record {
  is = sym (number-drop bs p ∙ ap (λ x. number_at x 0) e ∙ number_of n post h);
  whole = omega (arith, length-drop p bs, ap length e, length-append (word n) post, word_long n);
  cut = e ∙ ap (λ x. word n ++ x) (sym (next bs p n post e));
  low = l;
  high = m;
}

-- the code k among the words of codes, and what comes after all of them
pub sum-at : (codes : List ℕ) (z bs : List ℕ) (p k : ℕ) → drop p bs ≡ flat_map word codes ++ z → k < length codes
    → (post : List ℕ) × (drop (p + 4 * k) bs ≡ word (get_or codes k 0) ++ post)
sum-at [] z bs p k e h = let none : ⊥ = omega arith in absurd none
sum-at (x ∷ xs) z bs p zero e h = (flat_map word xs ++ z, ap (λ n. drop n bs) (add-zero p) ∙ e ∙ append_assoc (word x) (flat_map word xs) z)
sum-at (x ∷ xs) z bs p (suc k) e h =
    let r = sum-at xs z bs (p + 4) k (next bs p x _ (e ∙ append_assoc (word x) (flat_map word xs) z)) (omega arith) in
    let same : p + 4 * suc k ≡ p + 4 + 4 * k = omega arith in
    (r.0, ap (λ n. drop n bs) same ∙ r.1)

pub sums_end : (codes : List ℕ) (z bs : List ℕ) (p : ℕ) → drop p bs ≡ flat_map word codes ++ z → drop (p + 4 * length codes) bs ≡ z
sums_end [] z bs p e = ap (λ n. drop n bs) (add-zero p) ∙ e
sums_end (x ∷ xs) z bs p e =
    let same : p + 4 * suc (length xs) ≡ p + 4 + 4 * length xs = omega arith in
    ap (λ n. drop n bs) same ∙ sums_end xs z bs (p + 4) (next bs p x _ (e ∙ append_assoc (word x) (flat_map word xs) z))

pub told_at : (bs : List ℕ) (n k : ℕ) → k < n → get_or (told_codes bs n) k 0 ≡ number_at bs (24 + 4 * k)
unfolding told_codes
told_at bs zero k h = let none : ⊥ = omega arith in absurd none
told_at bs (suc n) k h = elim (below k n h) [
  | inl i ↦ get_or_push (told_codes bs n) _ 0 k (told_long bs n ∙ sym i) ∙ ap (λ j. number_at bs (24 + 4 * j)) (sym i)
  | inr l ↦ get_or_append_left (told_codes bs n) _ 0 k (omega (arith, told_long bs n)) ∙ told_at bs n k l
]

-- a list of told codes is known by its places
pub told_same : (bs codes : List ℕ) (n : ℕ) → length codes ≡ n → ((k : ℕ) → k < n → number_at bs (24 + 4 * k) ≡ get_or codes k 0) → told_codes bs n ≡ codes
told_same bs codes n long at =
    ext_get_or 0 (told_codes bs n) codes (told_long bs n ∙ sym long)
    (λ k h. let l : k < n = omega (arith, told_long bs n) in told_at bs n k l ∙ at k l)

-- what bytes that begin with a sheet tell
pub record Told (q w s t : ℕ) (codes name rest bs : List ℕ) : Type 0 where
  pub accepts : reading q bs ≡ accepted
  pub width : number_at bs 8 ≡ w
  pub spare : number_at bs 12 ≡ s
  pub turnover : number_at bs 16 ≡ t
  pub coded : told_codes bs (2 * w + s) ≡ codes
  pub named : take (number_at bs (24 + 4 * (2 * w + s))) (drop (24 + 4 * (2 * w + s) + 4) bs) ≡ name
  pub after : drop (number_at bs (24 + 4 * (2 * w + s))) (drop (24 + 4 * (2 * w + s) + 4) bs) ≡ rest

flat : (q w s t : ℕ) (codes name rest : List ℕ) → sheet_bytes q w s t codes name ++ rest
    ≡ word 4 ++ (word q ++ (word w ++ (word s ++ (word t ++ (word (length codes) ++ (flat_map word codes ++ (word (length name) ++ (name ++ rest))))))))
unfolding sheet_bytes frame_bytes sums_bytes name_bytes
flat q w s t codes name rest = simp append_assoc

module _ (q w s t : ℕ) (codes name rest bs : List ℕ) (some : 1 ≤ q) (low : q < 2 ^ 31) (sound : Sound q w s t codes name)
    (is : bs ≡ sheet_bytes q w s t codes name ++ rest) where
  pub told : Told q w s t codes name rest bs
  unfolding reading
  told =
      let count : length codes ≡ 2 * w + s = sound.coded.long in
      let small : 2 * w + s ≤ 96 = omega (arith, sound.framed) in
      let e0 = is ∙ flat q w s t codes name rest in
      let e4 = next bs 0 4 _ e0 in
      let e8 = next bs 4 q _ e4 in
      let e12 = next bs 8 w _ e8 in
      let e16 = next bs 12 s _ e12 in
      let e20 = next bs 16 t _ e16 in
      let e24 = next bs 20 (length codes) _ e20 in
      let ez = ap (λ m. drop (24 + 4 * m) bs) (sym count) ∙ sums_end codes _ bs 24 e24 in
      let place = 24 + 4 * (2 * w + s) in
      let en = next bs place (length name) _ ez in
      let g0 = good_at bs 0 4 4 4 _ e0 (omega arith) (omega arith) (omega arith) in
      let g4 = good_at bs 4 q q q _ e4 (omega arith) (omega arith) (omega arith) in
      let g8 = good_at bs 8 1 32 w _ e8 (omega (arith, sound.framed)) sound.framed.some sound.framed.width in
      let g12 = good_at bs 12 0 32 s _ e12 (omega (arith, sound.framed)) (omega arith) sound.framed.spare in
      let g16 = good_at bs 16 0 ((q - 1) / 4) t _ e16 (omega (arith, sound.turnover)) (omega arith) sound.turnover in
      let g20 = good_at bs 20 (2 * w + s) (2 * w + s) (length codes) _ e20 (omega arith) (omega arith) (omega arith) in
      let gz = good_at bs place 0 40 (length name) _ ez (omega (arith, sound.named.most)) (omega arith) sound.named.most in
      let coded : (k : ℕ) → k < 2 * w + s → Good bs (24 + 4 * k) 0 (q - 1) (get_or codes k 0) = λ k l.
      let small = sound.coded.small k l in
      let at = sum-at codes _ bs 24 k e24 (omega arith) in
      good_at bs (24 + 4 * k) 0 (q - 1) (get_or codes k 0) at.0 at.1 (omega arith) (omega arith) (omega arith) in
      let end : drop (place + 4 + length name) bs ≡ rest = sym (drop-drop (length name) (place + 4) bs) ∙ ap (drop (length name)) en ∙ drop_at name rest (length name) refl in
      let frames = frame_accepted q w s t bs (record { count = g0; order = g4; width = g8; spare = g12; turnover = g16 }) in
      let sums = sums_accepted q (2 * w + s) bs (λ k. get_or codes k 0) (record { count = exactly bs 20 _ _ g20; codes = coded }) in
      let names = name_accepted place (place + 4 + length name) bs name (record { count = gz; named = sound.named; cut = en ∙ ap (λ x. name ++ x) (sym end) }) in
      let total : told_count bs ≡ 2 * w + s = omega (arith, g8.is, g12.is) in
      record {
        accepts = passed _ _ frames ∙ subst (λ m. or_else (sums_items q m bs) (name_items (24 + 4 * m) bs) ≡ accepted) (sym total) (passed _ _ sums ∙ names);
        width = sym g8.is;
        spare = sym g12.is;
        turnover = sym g16.is;
        coded = told_same bs codes (2 * w + s) count (λ k l. sym (coded k l).is);
        named = ap (λ m. take m (drop (place + 4) bs)) (sym gz.is) ∙ ap (take (length name)) en ∙ take_at name rest (length name) refl;
        after = ap (λ m. drop m (drop (place + 4) bs)) (sym gz.is) ∙ ap (drop (length name)) en ∙ drop_at name rest (length name) refl;
      }
