use Rattle.std.proofs.Common.{◌≡◌, ℕ, ◌*◌, ◌≤◌, take, drop}
use Rattle.algebra.specs.Duals.{dual}
use Rattle.algebra.specs.Graeffe.{tower}
use Rattle.roots.specs.Codes.{polynomial, duals}
use Rattle.roots.specs.Tangents.{tangent}
use Rattle.roots.proofs.build.build.Given as goal

abbrev pub invariant-loop-k : goal.invariant-loop-k
invariant-loop-k g l = let R = g.F.Ring in
    (j : ℕ) → j ≤ l.k → duals R (take l.n (drop (j * l.n) l.work)) ≡ tower (dual R.ring) (tangent R.ring (polynomial R g.F.Field l.f.codes.now)) j
