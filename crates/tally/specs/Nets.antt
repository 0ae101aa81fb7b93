-- The sums of a tally by the net counts of its log.
use Rattle.std.specs.Prelude.{◌≡◌, ℕ, suc, ◌<◌, true, List, [], ◌∷◌, map, ℤ, pos, negsuc, ◌-ℤ◌, ◌≤ℤ◌}
use Rattle.algebra.specs.Rings.{Ops, power, number}
use Rattle.roots.specs.Lists.{In, Distinct}
use Rattle.tally.specs.Contents.{Contents, count, limit}
use Rattle.tally.specs.Logs.{Line, Log, took, net}

-- pairs of an element and its weight: the sum of the weights times the powers k of the elements
abbrev pub weighted_sum : (o : Ops) → List (o.V × o.V) → ℕ → o.V
weighted_sum o [] k = o.nought
weighted_sum o (x ∷ xs) k = o.plus (o.times x.1 (power o x.0 k)) (weighted_sum o xs k)

abbrev pub whole : (o : Ops) → ℤ → o.V
whole o (pos n) = number o n
whole o (negsuc n) = o.minus (number o (suc n))

-- what the net counts of a log tell of a tally that has kept it: they lie between -L and L, and over any codes that have those of
-- the accepted lines, each sum is that of net count times the power of the code
pub record Netted (o : Ops) (q : ℕ) (at : ℕ → o.V) (log : Log) (s : Contents o.V) : Type 0 where
  pub low : (a : ℕ) → (pos 0 -ℤ pos (limit q)) ≤ℤ net log a
  pub high : (a : ℕ) → net log a ≤ℤ pos (limit q)
  pub sums : (cs : List ℕ) → Distinct cs → ((l : Line) → In l log → took l ≡ true → In l.code cs)
      → (k : ℕ) → k < count s → s.sum k ≡ weighted_sum o (map (λ c. (at c, whole o (net log c))) cs) k
