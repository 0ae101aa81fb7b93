use Rattle.std.proofs.Common.{◌≡◌, ℕ, suc, ◌-◌, ◌<◌, ◌≤◌, length, get_or, sym, refl, ap, ◌∙◌, arith, length-set}
use Rattle.algebra.specs.Polynomials.{coefficient}
use Rattle.algebra.specs.declared.dual.Dual.{Dual}
use lib.ListN.{length-map}
use Rattle.roots.specs.Rows.{row, partial}
use Rattle.roots.proofs.Dividing.{partial-end, row-coefficient, divided_here, divided_low, divided_high}
use Rattle.roots.proofs.divide.divide.Goals as goal

pub loop-i-init : goal.loop-i-init
loop-i-init g c =
    let R = g.F.Ring in
    let L = g.met.F.Ring.lawful in
    let xs = c.args.level.now in
    let f = row R xs in (
      λ j d h. row-coefficient R L xs j d h,
      λ j d le h. absurd (omega arith),
      c.zero-above.ensures.means ∙ sym (partial-end R.ring L (R.value c.args.a) f) ∙ ap (partial R.ring (R.value c.args.a) f) (length-map xs (λ x. R.value x.re)),
    )

pub loop-i-preserved : goal.loop-i-preserved
loop-i-preserved g c =
    let R = g.F.Ring in
    let L = g.met.F.Ring.lawful in
    let xs = c.loop-i.level in
    let i = c.loop-i.i - 1 in
    let a = R.value c.args.a in
    let f = row R c.args.level.now in
    let x : Dual _ = record { re = c.add-above.result; eps = (get_or xs i c.index-level-i-in-loop-i.result).eps } in
    let inside : i < length xs = omega arith in
    let inv = c.loop-i.invariant in
    let low : (j : ℕ) (d : _) → j < suc i → R.value (get_or xs j d).re ≡ coefficient R.ring f j = λ j d h. inv.0 j d (omega arith) in
    let high : (j : ℕ) (d : _) → suc i ≤ j → j < length xs → R.value (get_or xs j d).re ≡ partial R.ring a f j = λ j d le h. inv.1 j d (omega arith) h in
    let next : c.loop-i.i ≡ suc i = omega arith in
    let above = inv.2 ∙ ap (partial R.ring a f) next in
    let means = c.add-above.ensures.means ∙ ap (R.ring.plus _) c.mul.ensures.means in (
      divided_low R L f a xs i x inside low high _ _ means _ refl above,
      λ j d le h. divided_high R L f a xs i x inside low high _ _ means _ refl above j d le (omega (arith, length-set xs i x)),
      divided_here R L f a xs i x inside low high _ _ means _ refl above,
    )
