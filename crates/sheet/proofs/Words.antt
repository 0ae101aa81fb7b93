-- A number and its 4 bytes.
use Rattle.std.proofs.Common.{◌≡◌, ℕ, ◌+◌, ◌*◌, ◌/◌, ◌%◌, ◌^◌, ◌<◌, ◌≤◌, List, [], ◌∷◌, ◌++◌, length, get_or, take, drop, sym, refl, ap, ◌∙◌, add-zero, mod-eq_of_lt, arith}
use Rattle.std.proofs.lemmas.List.{take-append-drop, drop-drop, get_or-drop, length-drop, length-take-le}
use Rattle.std.proofs.lemmas.Nat.{shr-shr}
use Rattle.sheet.specs.Sheets.{word, number_at}

pub bytes_of : (a b c d : ℕ) → a < 256 → b < 256 → c < 256 → d < 256 → word (a * 16777216 + b * 65536 + c * 256 + d) ≡ a ∷ b ∷ c ∷ d ∷ []
unfolding word
bytes_of a b c d ha hb hc hd =
    let n = a * 16777216 + b * 65536 + c * 256 + d in
    let p : n / 16777216 % 256 ≡ a = omega arith in
    let q : n / 65536 % 256 ≡ b = omega arith in
    let r : n / 256 % 256 ≡ c = omega arith in
    let s : n % 256 ≡ d = omega arith in
    cc

-- the quotient and the remainder of a quotient
digit : (n m : ℕ) → n / 256 ≡ m → n ≡ 256 * m + n % 256
digit n m e = omega arith

put : (a b c n x y z : ℕ) → b ≡ 256 * a + x → c ≡ 256 * b + y → n ≡ 256 * c + z → a * 16777216 + x * 65536 + y * 256 + z ≡ n
put a b c n x y z p q r = omega arith

pub number_of : (n : ℕ) (bs : List ℕ) → n < 2 ^ 32 → number_at (word n ++ bs) 0 ≡ n
unfolding word number_at
number_of n bs h =
    let one = digit n (n / 256) refl in
    let two = digit (n / 256) (n / 65536) (shr-shr n 8 8) in
    let three = digit (n / 65536) (n / 16777216) (shr-shr n 16 8) in
    let four : n / 16777216 % 256 ≡ n / 16777216 = mod-eq_of_lt (omega arith) in
    ap (λ top. top * 16777216 + n / 65536 % 256 * 65536 + n / 256 % 256 * 256 + n % 256) four
    ∙ put (n / 16777216) (n / 65536) (n / 256) n (n / 65536 % 256) (n / 256 % 256) (n % 256) three two one

pub word_long : (n : ℕ) → length (word n) ≡ 4
unfolding word
word_long n = refl

pub number-drop : (bs : List ℕ) (p : ℕ) → number_at bs p ≡ number_at (drop p bs) 0
unfolding number_at
number-drop bs p = simp (get_or-drop, add-zero)

number-take : (bs : List ℕ) → number_at (take 4 bs) 0 ≡ number_at bs 0
unfolding number_at
number-take [] = refl
number-take (a ∷ []) = refl
number-take (a ∷ b ∷ []) = refl
number-take (a ∷ b ∷ c ∷ []) = refl
number-take (a ∷ b ∷ c ∷ d ∷ bs) = refl

word-number : (xs : List ℕ) → length xs ≡ 4 → ((k : ℕ) → get_or xs k 0 < 256) → word (number_at xs 0) ≡ xs
unfolding number_at
word-number [] e h = let none : ⊥ = omega arith in absurd none
word-number (a ∷ []) e h = let none : ⊥ = omega arith in absurd none
word-number (a ∷ b ∷ []) e h = let none : ⊥ = omega arith in absurd none
word-number (a ∷ b ∷ c ∷ []) e h = let none : ⊥ = omega arith in absurd none
word-number (a ∷ b ∷ c ∷ d ∷ []) e h = bytes_of a b c d (h 0) (h 1) (h 2) (h 3)
word-number (a ∷ b ∷ c ∷ d ∷ f ∷ xs) e h = let none : ⊥ = omega arith in absurd none

-- four bytes that stand at a place are the number there
pub number_of_four : (bs : List ℕ) (p : ℕ) (xs : List ℕ) → xs ≡ take 4 (drop p bs) → number_at bs p ≡ number_at xs 0
number_of_four bs p xs e = number-drop bs p ∙ sym (number-take (drop p bs)) ∙ ap (λ x. number_at x 0) (sym e)

-- the bytes from a place on begin with the number there
pub word_first : (bs : List ℕ) (p : ℕ) (xs : List ℕ) → xs ≡ take 4 (drop p bs) → p + 4 ≤ length bs → ((k : ℕ) → get_or xs k 0 < 256)
    → drop p bs ≡ word (number_at bs p) ++ drop (p + 4) bs
word_first bs p xs e l h =
    let long : length xs ≡ 4 = ap length e ∙ length-take-le 4 (drop p bs) (omega (arith, length-drop p bs)) in
    let w : word (number_at bs p) ≡ take 4 (drop p bs) = ap word (number_of_four bs p xs e) ∙ word-number xs long h ∙ e in
    sym (take-append-drop 4 (drop p bs)) ∙ ap (λ x. x ++ drop 4 (drop p bs)) (sym w) ∙ ap (λ x. word (number_at bs p) ++ x) (drop-drop 4 p bs)
