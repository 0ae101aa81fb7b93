-- What the call that writes a Graeffe transform answers and leaves.
use Rattle.std.specs.Prelude.{◌≡◌, ℕ, ◌<◌, cond, ◌||◌, List, [], ◌∷◌, map, length, take, drop, ◌==◌, nat_lt, slice_index_or}
use Rattle.algebra.specs.Graeffe.{Graeffe}
use Rattle.algebra.specs.Refusals.{accepted, or_else, short}
use Rattle.algebra.specs.declared.ring.Ring.{Ghosts as RingOf}

-- what the elements of a list mean
abbrev pub values : {S : Type 0} (R : RingOf S) → List S → List R.ring.V
values R xs = map R.value xs

-- from 1 to 257 coefficients are taken
abbrev pub counted : ℕ → ℕ × List ℕ
counted n = cond (n == 0 || nat_lt 257 n) (8, n ∷ []) accepted

-- the answer for n coefficients and an output of k elements
abbrev pub transforming : ℕ → ℕ → ℕ × List ℕ
transforming n k = or_else (counted n) (short n k)

-- the front of the output is the transform of f, held canonically, and the rest is as before
pub record Transformed {S : Type 0} (R : RingOf S) (f before after : List S) : Type 0 where
  pub front : Graeffe R.ring (values R f) (values R (take (length f) after))
  pub held : (k : ℕ) (d : S) → k < length f → R.canonical (slice_index_or after k d)
  pub rest : drop (length f) after ≡ drop (length f) before
