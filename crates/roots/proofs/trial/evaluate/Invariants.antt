use Rattle.std.proofs.Common.{◌≡◌, map}
use mathlib.Core.List.{reverse}
use Rattle.algebra.specs.Polynomials.{eval}
use Rattle.roots.specs.Slopes.{slope, reals, epsilons}
use Rattle.roots.specs.Codes.{duals}
use Rattle.roots.proofs.trial.evaluate.Given as goal

-- the dual numbers from the top down so far, turned round
abbrev pub invariant-loop-d : goal.invariant-loop-d
invariant-loop-d g l = let R = g.F.Ring in let o = R.ring in let x = R.value l.x in let level = duals R (reverse (map (λ d. d.now) l.yielded)) in
    (R.value l.value ≡ eval o (reals level) x) × (R.value l.slope ≡ slope o (reals level) x) × (R.value l.tangent ≡ eval o (epsilons level) x)
