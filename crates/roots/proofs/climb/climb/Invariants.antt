use Rattle.std.proofs.Common.{◌≡◌, ℕ, ◌<◌, get_or}
use Rattle.algebra.specs.Duals.{dual}
use Rattle.algebra.specs.Polynomials.{coefficient}
use Rattle.algebra.specs.Graeffe.{transform}
use Rattle.roots.specs.Codes.{dualized, duals, Held}
use Rattle.roots.proofs.climb.climb.Given as goal

abbrev pub invariant-loop-j : goal.invariant-loop-j
invariant-loop-j g l = let R = g.F.Ring in let D = dual R.ring in
    (i : ℕ) (d : _) → i < l.j → (dualized R (get_or l.to i d) ≡ coefficient D (transform D (duals R l.from)) i) × Held R (get_or l.to i d)
