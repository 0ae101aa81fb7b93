use Rattle.std.proofs.Common.{◌≡◌, ℕ, ◌<◌, ◌≤◌, length, get_or}
use Rattle.algebra.specs.Polynomials.{coefficient}
use Rattle.roots.specs.Rows.{row, partial}
use Rattle.roots.proofs.divide.divide.Given as goal

abbrev pub invariant-loop-i : goal.invariant-loop-i
invariant-loop-i g l = let R = g.F.Ring in let o = R.ring in let f = row R l.initial.level in
    ((j : ℕ) (d : _) → j < l.i → R.value (get_or l.level j d).re ≡ coefficient o f j)
    × ((j : ℕ) (d : _) → l.i ≤ j → j < length l.level → R.value (get_or l.level j d).re ≡ partial o (R.value l.a) f j)
    × (R.value l.above ≡ partial o (R.value l.a) f l.i)
