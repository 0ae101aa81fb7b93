-- Codes that a tally is filled from.
use Rattle.std.specs.Prelude.{ℕ, List, slice_index_or}
use Rattle.algebra.specs.declared.code.Code.{Code}

-- the code at k, and 0 past the end
abbrev pub code_at : List Code → ℕ → ℕ
code_at cs k = (slice_index_or cs k (record { 0 = 0 })).0
