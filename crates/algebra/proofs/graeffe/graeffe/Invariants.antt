use Rattle.std.proofs.Common.{◌≡◌, ℕ, ◌<◌, get_or}
use Rattle.algebra.specs.Polynomials.{coefficient}
use Rattle.algebra.specs.Graeffe.{transform}
use Rattle.algebra.specs.Transforms.{values}
use Rattle.algebra.proofs.graeffe.graeffe.Given as goal

abbrev pub invariant-loop-k : goal.invariant-loop-k
invariant-loop-k g l = let R = g.R.Ring in
    (j : ℕ) (d : _) → j < l.k → (R.value (get_or l.place-items j d) ≡ coefficient R.ring (transform R.ring (values R l.f)) j) × R.canonical (get_or l.place-items j d)
