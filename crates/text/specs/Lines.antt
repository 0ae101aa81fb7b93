-- What is written of a code, of two codes, and of a refusal.
use Rattle.std.specs.Prelude.{ℕ, List, ◌∷◌, ◌++◌, codes, decimal}
use Rattle.std.specs.List.{flat_map}

-- a blank and the number
abbrev pub code_text : ℕ → List ℕ
code_text c = 32 ∷ decimal c

-- a blank and the two numbers with a colon between
abbrev pub pair_text : ℕ × ℕ → List ℕ
pair_text p = 32 ∷ (decimal p.0 ++ (58 ∷ decimal p.1))

-- the word `refused`, the refusal's number and its values
abbrev pub refusal_text : ℕ × List ℕ → List ℕ
refusal_text a = codes "refused" ++ flat_map code_text (a.0 ∷ a.1)
