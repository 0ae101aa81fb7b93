-- Bytes in hexadecimal digits.
use Rattle.std.specs.Prelude.{ℕ, ◌+◌, ◌/◌, ◌%◌, cond, List, [], ◌∷◌, nat_lt}
use Rattle.std.specs.List.{flat_map}

-- the digit of a number below 16: 0 to 9, then a to f
abbrev pub digit_text : ℕ → ℕ
digit_text d = cond (nat_lt d 10) (48 + d) (87 + d)

-- the two digits of a byte, the higher first
abbrev pub byte_text : ℕ → List ℕ
byte_text b = digit_text (b / 16) ∷ digit_text (b % 16) ∷ []

-- the digits of all bytes, and a hyphen where there is none
abbrev pub bytes_text : List ℕ → List ℕ
bytes_text [] = 45 ∷ []
bytes_text (b ∷ bs) = flat_map byte_text (b ∷ bs)
