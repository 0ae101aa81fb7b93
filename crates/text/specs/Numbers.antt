-- Numbers in text. A text is the list of its bytes.
use Rattle.std.specs.Prelude.{ℕ, ◌+◌, ◌-◌, ◌*◌, ◌^◌, Bool, cond, ◌&&◌, List, [], ◌∷◌, length, Some, None, Option, ◌==◌, nat_lt}
use Rattle.std.specs.Str.{all_ascii_digits, bytes_eq}

-- the number that the digits after n write on
abbrev pub read_on : ℕ → List ℕ → ℕ
read_on n [] = n
read_on n (c ∷ cs) = read_on (10 * n + (c - 48)) cs

-- one or more decimal digits, whose number has at most 32 bits
abbrev pub numeral : List ℕ → Bool
numeral w = nat_lt 0 (length w) && (all_ascii_digits w && nat_lt (read_on 0 w) (2 ^ 32))

-- the number that a word stands for
unfoldable pub number_of : List ℕ → Option ℕ
number_of w = cond (numeral w) (Some (read_on 0 w)) None

-- the length that a word stands for: what is needed for a hyphen
abbrev pub length_of : List ℕ → ℕ → Option ℕ
length_of w needed = cond (bytes_eq w (45 ∷ [])) (Some needed) (number_of w)

-- c goes before the first part
abbrev pub before_colon : ℕ → Option (List ℕ × List ℕ) → Option (List ℕ × List ℕ)
before_colon c (Some p) = Some (c ∷ p.0, p.1)
before_colon c None = None

-- the parts before and after the first colon
abbrev pub cut : List ℕ → Option (List ℕ × List ℕ)
cut [] = None
cut (c ∷ cs) = cond (c == 58) (Some ([], cs)) (before_colon c (cut cs))

-- both, where there are both
abbrev pub both : {X Y : Type 0} → Option X → Option Y → Option (X × Y)
both (Some x) (Some y) = Some (x, y)
both (Some x) None = None
both None o = None

abbrev pub both_of : Option (List ℕ × List ℕ) → Option (ℕ × ℕ)
both_of (Some p) = both (number_of p.0) (number_of p.1)
both_of None = None

-- the two numbers that a word with a colon between them stands for
unfoldable pub pair_of : List ℕ → Option (ℕ × ℕ)
pair_of w = both_of (cut w)

-- a first before the others
abbrev pub put_first : {Y : Type 0} → Option (Y × List Y) → Option (List Y)
put_first (Some p) = Some (p.0 ∷ p.1)
put_first None = None

-- what each of the list stands for, where each stands for something
unfoldable pub all_of : {X Y : Type 0} → (X → Option Y) → List X → Option (List Y)
all_of f [] = Some []
all_of f (x ∷ xs) = put_first (both (f x) (all_of f xs))
