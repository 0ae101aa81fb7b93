-- The digits that the crate hex writes are those of the contract.
use Rattle.std.proofs.Common.{◌≡◌, ℕ, suc, ◌/◌, ◌%◌, ◌<◌, List, [], ◌∷◌, length, get_or, refl, arith}
use Rattle.std.specs.List.{flat_map}
use Rattle.std.proofs.lemmas.List.FromFn.{get_or-map-range_with_len}
use Rattle.hex.specs.Hex.{encode_lower, encode_with, lower_digits}
use Rattle.text.specs.Bytes.{digit_text, byte_text, bytes_text}

digit : (d : ℕ) → d < 16 → get_or lower_digits d 0 ≡ digit_text d
digit d h = get_or-map-range_with_len digit_text 0 16 d d 0 h (omega arith)

encoded : (bs : List ℕ) → ((i : ℕ) → get_or bs i 0 < 256) → encode_lower bs ≡ flat_map byte_text bs
unfolding encode_with
encoded [] h = refl
encoded (b ∷ bs) h =
    let byte : b < 256 = h 0 in
    cc (digit (b / 16) (omega arith), digit (b % 16) (omega arith), encoded bs (λ i. h (suc i)))

pub hex_text : (bs : List ℕ) → ((i : ℕ) → get_or bs i 0 < 256) → 0 < length bs → encode_lower bs ≡ bytes_text bs
hex_text [] h some = let none : ⊥ = omega arith in absurd none
hex_text (b ∷ bs) h some = encoded (b ∷ bs) h
