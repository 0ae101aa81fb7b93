use Rattle.std.proofs.Common.{◌≡◌, ℕ, suc, ◌<◌, get_or}
use Rattle.algebra.specs.Rings.{number}
use Rattle.algebra.specs.Polynomials.{coefficient}
use Rattle.roots.specs.Codes.{polynomial, dualized, Held}
use Rattle.roots.proofs.climb.start.Given as goal

abbrev pub invariant-loop-i : goal.invariant-loop-i
invariant-loop-i g l = let R = g.F.Ring in let o = R.ring in let f = polynomial R g.F.Field l.f.codes.now in
    (j : ℕ) (d : _) → j < l.i-counter → (dualized R (get_or l.level j d) ≡ (coefficient o f j, o.times (number o (suc j)) (coefficient o f (suc j)))) × Held R (get_or l.level j d)
