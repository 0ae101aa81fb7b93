use Rattle.std.proofs.Common.{ℕ, refl, ◌∙◌, subst, arith}
use Rattle.algebra.proofs.Places.{place_more}
use Rattle.roots.specs.Division.{Multiplicity}
use Rattle.roots.specs.Codes.{element, polynomial}
use Rattle.roots.specs.declared.record.RootRecord.{RootRecord}
use Rattle.roots.proofs.Weighing.{codes_kept}
use Rattle.roots.proofs.weigh.weigh.Goals as goal

pub loop-root-preserved : goal.loop-root-preserved
loop-root-preserved g c =
    let R = g.F.Ring in
    let F = g.F.Field in
    let f = polynomial R F c.args.f.codes.now in
    let P : ℕ → RootRecord → Type 0 = λ _ r. Multiplicity R.ring f (element R F r.code.0) r.multiplicity in
    let roots = c.loop-root.roots in
    let i = c.loop-root.root-index in (
      codes_kept roots i _ _ refl ∙ c.loop-root.invariant.0,
      place_more P roots i _ (omega arith) (subst (λ x. Multiplicity R.ring f x c.multiplicity-root.result) c.from_code.ensures.means c.multiplicity-root.ensures) c.loop-root.invariant.1,
    )
