-- The bytes of a sheet, and what reading them answers.
use Rattle.std.specs.Prelude.{◌≡◌, ℕ, zero, suc, ◌+◌, ◌-◌, ◌*◌, ◌/◌, ◌%◌, ◌≤◌, Bool, cond, ◌&&◌, List, [], ◌∷◌, ◌++◌, length, drop, nat_le, nat_lt, slice_index}
use Rattle.algebra.specs.Refusals.{accepted, or_else, short}
use Rattle.std.specs.List.{flat_map}

-- a number below 2 to the power 32 in 4 bytes, the most significant first
unfoldable pub word : ℕ → List ℕ
word n = n / 16777216 % 256 ∷ n / 65536 % 256 ∷ n / 256 % 256 ∷ n % 256 ∷ []

-- the number of which the 4 bytes stand at a place
unfoldable pub number_at : List ℕ → ℕ → ℕ
number_at bs p = slice_index bs p * 16777216 + slice_index bs (p + 1) * 65536 + slice_index bs (p + 2) * 256 + slice_index bs (p + 3)

-- the section of the frame: its count, the field's order q, the width, the spare and the turnover
unfoldable pub frame_bytes : (q w s t : ℕ) → List ℕ
frame_bytes q w s t = word 4 ++ (word q ++ (word w ++ (word s ++ word t)))

-- the section of the sums: their count, and the code of each
unfoldable pub sums_bytes : List ℕ → List ℕ
sums_bytes codes = word (length codes) ++ flat_map word codes

-- the section of the job name: its length, and its bytes
unfoldable pub name_bytes : List ℕ → List ℕ
name_bytes name = word (length name) ++ name

unfoldable pub sheet_bytes : (q w s t : ℕ) (codes name : List ℕ) → List ℕ
sheet_bytes q w s t codes name = frame_bytes q w s t ++ (sums_bytes codes ++ name_bytes name)

-- the answer to an item of `size` bytes at a place: 12 where the bytes, `long` of them, end before it does, and the number given
-- where what it holds is not good
unfoldable pub item : (long section place size number : ℕ) → Bool → ℕ × List ℕ
item long section place size number good =
    cond (nat_lt long (place + size)) (12, section ∷ place ∷ []) (cond good accepted (number, section ∷ place ∷ []))

-- the first refusal among the answers 0 to n - 1
unfoldable pub first : (ℕ → ℕ × List ℕ) → ℕ → ℕ × List ℕ
first f zero = accepted
first f (suc n) = or_else (first f n) (f n)

-- a number from a to b
abbrev pub within : (a b n : ℕ) → Bool
within a b n = nat_le a n && nat_le n b

-- the section of the frame, from place 0
unfoldable pub frame_items : ℕ → List ℕ → ℕ × List ℕ
frame_items q bs =
    or_else (item (length bs) 1 0 4 13 (within 4 4 (number_at bs 0)))
    (or_else (item (length bs) 1 4 4 14 (within q q (number_at bs 4)))
    (or_else (item (length bs) 1 8 4 14 (within 1 32 (number_at bs 8)))
    (or_else (item (length bs) 1 12 4 14 (within 0 32 (number_at bs 12)))
    (item (length bs) 1 16 4 14 (within 0 ((q - 1) / 4) (number_at bs 16))))))

-- the section of n sums, from place 20
unfoldable pub sums_items : (q n : ℕ) → List ℕ → ℕ × List ℕ
sums_items q n bs =
    or_else (item (length bs) 2 20 4 13 (within n n (number_at bs 20)))
    (first (λ k. item (length bs) 2 (24 + 4 * k) 4 14 (within 0 (q - 1) (number_at bs (24 + 4 * k)))) n)

-- the section of the job name, from place p
unfoldable pub name_items : (p : ℕ) → List ℕ → ℕ × List ℕ
name_items p bs =
    or_else (item (length bs) 3 p 4 13 (within 0 40 (number_at bs p)))
    (first (λ k. item (length bs) 3 (p + 4 + k) 1 14 (within 32 126 (slice_index bs (p + 4 + k)))) (number_at bs p))

-- the number of sums of the frame that the bytes tell
abbrev pub told_count : List ℕ → ℕ
told_count bs = 2 * number_at bs 8 + number_at bs 12

-- what reading answers: the first fault of the items in their order
unfoldable pub reading : ℕ → List ℕ → ℕ × List ℕ
reading q bs =
    or_else (frame_items q bs) (or_else (sums_items q (told_count bs) bs) (name_items (24 + 4 * told_count bs) bs))

-- n stands whole at a place, and lies from a to b
pub record Good (bs : List ℕ) (place a b n : ℕ) : Type 0 where
  pub is : n ≡ number_at bs place
  pub whole : place + 4 ≤ length bs
  pub cut : drop place bs ≡ word n ++ drop (place + 4) bs
  pub low : a ≤ n
  pub high : n ≤ b

-- the first n codes that the bytes tell
unfoldable pub told_codes : List ℕ → ℕ → List ℕ
told_codes bs zero = []
told_codes bs (suc n) = told_codes bs n ++ (number_at bs (24 + 4 * n) ∷ [])

-- the number of bytes of a sheet with n sums and a name of m bytes
abbrev pub sheet_long : ℕ → ℕ → ℕ
sheet_long n m = 4 * (7 + n) + m

-- the answer to a job name: the place 40 where it is longer than 40, else that of its first byte that is none
unfoldable pub naming : List ℕ → ℕ × List ℕ
naming name =
    or_else (cond (nat_lt 40 (length name)) (15, 40 ∷ []) accepted)
    (first (λ k. cond (within 32 126 (slice_index name k)) accepted (15, k ∷ [])) (length name))

-- the answer to writing n sums and a name to `long` bytes
abbrev pub writing : (n long : ℕ) → List ℕ → ℕ × List ℕ
writing n long name = or_else (naming name) (short (sheet_long n (length name)) long)
