use Rattle.std.proofs.Common.{◌≡◌, ◌≢◌, length, take, sym, ◌∙◌, subst, ⊎_elim, rules, arith}
use Rattle.algebra.specs.declared.code.Code.{Code}
use Rattle.algebra.specs.Duals.{dual}
use Rattle.algebra.specs.Graeffe.{tower}
use Rattle.roots.specs.Codes.{element, polynomial, duals}
use Rattle.roots.specs.Tangents.{tangent}
use Rattle.roots.specs.Roots.{Lift, Simple}
use Rattle.roots.specs.declared.verdict.Verdict.TheVariants.{Nothing, Root, Both}
use Rattle.roots.proofs.SearchLaws.{element_nonzero}
use Rattle.roots.proofs.Lifting.{lift_from, no_lift}
use Rattle.roots.proofs.lift.lift.Goals as goal

pub returns-in-Root : goal.returns-in-Root
returns-in-Root g c =
    let R = g.F.Ring in
    let F = g.F.Field in
    let L = g.met.F.Ring.lawful in
    let I = c.field_laws.ensures.laws in
    let f = polynomial R F c.args.f.now in
    let k = c.args.k in
    let written = subst (λ cs. duals R (take (length c.in_ok-f.f.codes.now) c.rise.new.work) ≡ tower (dual R.ring) (tangent R.ring (polynomial R F cs)) k) c.in_ok-f.ensures.kept c.rise.ensures.written in
    let ne : element R F c.args.code.0 ≢ R.ring.nought = element_nonzero R F L I f c.args.code.0 (omega (arith, c.field_laws.ensures.answer)) c.if-code-eq0.false in
    let same = c.from_code.ensures.means in
    let P : R.ring.V → Type 0 = λ b. Lift R F f k b c.in-Root.root.0 in
    record {
      answers = search rules;
      lifts = subst P same (lift_from R F L I f k _ c.in-Root.root.0 c.if-k-eq0.false (λ z. ne (sym same ∙ z)) (c.in-Root.ensures f written));
    }

pub returns-in-Nothing : goal.returns-in-Nothing
returns-in-Nothing g c =
    let R = g.F.Ring in
    let F = g.F.Field in
    let L = g.met.F.Ring.lawful in
    let I = c.field_laws.ensures.laws in
    let f = polynomial R F c.args.f.now in
    let k = c.args.k in
    let written = subst (λ cs. duals R (take (length c.in_ok-f.f.codes.now) c.rise.new.work) ≡ tower (dual R.ring) (tangent R.ring (polynomial R F cs)) k) c.in_ok-f.ensures.kept c.rise.ensures.written in
    let same = c.from_code.ensures.means in
    let P : R.ring.V → Type 0 = λ b. Simple R F f k b → ⊥ in
    let other : (x : Code) → c.judge.result ≡ Root x → ⊥ = λ x e. ⊎_elim
    (λ n. (let z : Nothing ≡ Root x = sym n ∙ e in absurd cc))
    (λ b. (let z : Both ≡ Root x = sym b ∙ e in absurd cc)) c.in-Nothing.is in
    record {
      answers = search rules;
      lifts = subst P same (no_lift R F L I f k _ c.judge.result (c.judge.ensures f written) other);
    }
