-- The number of each refusal and the values that it carries.
use Rattle.std.specs.Prelude.{ℕ, cond, List, [], ◌∷◌, ◌++◌, Ok, Err, Result, ◌==◌, nat_lt, codes, decimal}
use Rattle.algebra.specs.declared.refusal.Refusal.{Refusal}
use Rattle.algebra.specs.declared.refusal.Refusal.TheVariants.{Frame, Code, Quantity, Full, Unlike, Short, Length, Coefficient, Top, Level, Job}

abbrev pub answer : Refusal → ℕ × List ℕ
answer Frame = (1, [])
answer (Code c) = (2, c ∷ [])
answer Quantity = (3, [])
answer (Full t) = (4, t ∷ [])
answer Unlike = (5, [])
answer (Short n) = (6, n ∷ [])
answer (Length n) = (8, n ∷ [])
answer (Coefficient i) = (9, i ∷ [])
answer Top = (10, [])
answer (Level k) = (11, k ∷ [])
answer (Job i) = (15, i ∷ [])

-- the words that tell it to people
abbrev pub words : Refusal → List ℕ
words Frame = codes "a width is 1 to 32 and a spare 0 to 32"
words (Code c) = decimal c ++ codes " is no part code"
words Quantity = codes "nothing is moved"
words (Full t) = codes "the tally is full at a turnover of " ++ decimal t
words Unlike = codes "the frames differ"
words (Short n) = codes "too little room, where " ++ (decimal n ++ codes " are needed")
words (Length n) = decimal n ++ codes " coefficients, where 1 to 257 are taken"
words (Coefficient i) = codes "the coefficient at " ++ (decimal i ++ codes " is no code of this field")
words Top = codes "the top coefficient is zero"
words (Level k) = decimal k ++ codes " is no level of the tower"
words (Job i) = codes "the job name is wrong at " ++ decimal i

-- what an accepted call tells
abbrev pub accepted : ℕ × List ℕ
accepted = (0, [])

-- what a call told
abbrev pub reply : {T : Type 0} → Result T Refusal → ℕ × List ℕ
reply (Ok _) = accepted
reply (Err e) = answer e

-- the first of two that is a refusal
abbrev pub or_else : ℕ × List ℕ → ℕ × List ℕ → ℕ × List ℕ
or_else a b = cond (a.0 == 0) b a

-- where `needed` elements are asked for and `long` are lent
abbrev pub short : ℕ → ℕ → ℕ × List ℕ
short needed long = cond (nat_lt long needed) (6, needed ∷ []) accepted
