-- The codes in which two logs differ, and how far comparing reaches.
use Rattle.std.specs.Prelude.{◌≡◌, ℕ, ◌<◌, ◌≤◌, Bool, true, ◌≢◌, ◌↔◌, List, [], length}
use Rattle.algebra.specs.Rings.{Ops}
use Rattle.roots.specs.Lists.{In}
use Rattle.roots.specs.Roots.{Ascending}
use Rattle.tally.specs.Contents.{Contents, count}
use Rattle.tally.specs.Logs.{Log, net, Kept}

-- cs lists, ascending, exactly the codes whose net counts differ
pub record Differing (q : ℕ) (l r : Log) (cs : List ℕ) : Type 0 where
  pub ascending : Ascending cs
  pub exactly : (c : ℕ) → In c cs ↔ ((1 ≤ c) × (c < q) × (net l c ≢ net r c))

-- whatever logs the two tallies have kept: where at most 2 w + s net counts differ, `equal` says exactly that none does
abbrev pub Reaches : (o : Ops) (q : ℕ) (at : ℕ → o.V) → Contents o.V → Contents o.V → Bool → Type 0
Reaches o q at s t equal =
    (l r : Log) → Kept o q at l s → Kept o q at r t → (cs : List ℕ) → Differing q l r cs → length cs ≤ count s → (equal ≡ true) ↔ (cs ≡ [])
