use Rattle.std.proofs.Common.{◌≡◌, ℕ, ◌+◌, ◌*◌, ◌%◌, ◌<◌, length, get_or}
use Rattle.algebra.specs.Duals.{dual}
use Rattle.algebra.specs.Graeffe.{tower}
use Rattle.roots.specs.Codes.{polynomial, duals, Held}
use Rattle.roots.specs.Tangents.{tangent}
use Rattle.roots.proofs.level.rise.Given as goal

-- the level that the front has
abbrev pub invariant-loop : goal.invariant-loop
invariant-loop g l = let R = g.F.Ring in
    (duals R l.front ≡ tower (dual R.ring) (tangent R.ring (polynomial R g.F.Field l.f.codes.now)) (l.k % 2 + 2 * l.counter))
    × ((i : ℕ) (d : _) → i < length l.front → Held R (get_or l.front i d))
