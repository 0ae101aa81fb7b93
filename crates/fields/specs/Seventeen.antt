-- The field of 17 elements: what the element held means.
use Rattle.std.specs.Prelude.{ℕ, ◌+◌, ◌-◌, ◌%◌, ◌<◌, cond, List, [], ◌∷◌, ◌==◌, Some, None, IfSome, nat_lt, slice_index}
use Rattle.std.specs.Option.{option_map_or}
use Rattle.std.proofs.Common.{lit<}
use Rattle.algebra.specs.Rings.{Ops}
use Rattle.algebra.specs.declared.code.Exponent.{Exponent}
use Rattle.fields.specs.Residues.{Residue, rest, residues}
use Rattle.fields.specs.declared.seventeen.Seventeen.{Seventeen}

abbrev pub positive : 0 < 17
positive = lit< tt

abbrev pub modulo_17 : Ops
modulo_17 = residues 17 positive

-- the powers of 3 modulo 17
abbrev pub power_codes : List ℕ
power_codes = 1 ∷ 3 ∷ 9 ∷ 10 ∷ 13 ∷ 5 ∷ 15 ∷ 11 ∷ 16 ∷ 14 ∷ 8 ∷ 7 ∷ 4 ∷ 12 ∷ 2 ∷ 6 ∷ []

-- the power number of each code but 0
abbrev pub power_numbers : List ℕ
power_numbers = 0 ∷ 0 ∷ 14 ∷ 1 ∷ 12 ∷ 5 ∷ 15 ∷ 11 ∷ 10 ∷ 2 ∷ 3 ∷ 7 ∷ 13 ∷ 4 ∷ 9 ∷ 6 ∷ 8 ∷ []

-- zero, and the power of 3 with a number
abbrev pub no_power : Seventeen
no_power = record { power = None }

abbrev pub power_of : ℕ → Seventeen
power_of e = record { power = Some (record { 0 = e }) }

-- the number of the product of two powers, and of the inverse of a power
abbrev pub added : Exponent → Exponent → Exponent
added a b = record { 0 = (a.0 + b.0) % 16 }

abbrev pub inverted : Exponent → Exponent
inverted a = record { 0 = (16 - a.0 % 16) % 16 }

-- the code of what an element means
abbrev pub coding : Seventeen → ℕ
coding x = option_map_or (λ e. slice_index power_codes (e.0 % 16)) x.power 0

abbrev pub meaning : Seventeen → Residue 17
meaning x = rest 17 positive (coding x)

-- zero, or a power number below 16
abbrev pub Least : Seventeen → Type 0
Least x = IfSome x.power (λ e. e.0 < 16)

-- the element of a code, and zero for what is none
abbrev pub element : ℕ → Seventeen
element c = cond (c == 0) no_power (cond (nat_lt c 17) (power_of (slice_index power_numbers c)) no_power)

-- the primitive element 3
abbrev pub three : Seventeen
three = power_of 1
