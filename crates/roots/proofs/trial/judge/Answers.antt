use Rattle.std.proofs.Common.{sym, ap, ◌∙◌, arith}
use Rattle.algebra.specs.Polynomials.{eval}
use Rattle.roots.specs.Slopes.{slope}
use Rattle.roots.specs.Codes.{duals}
use Rattle.roots.proofs.Judging.{is_nought, not_nought, level_reals, alone_bottom, alone_lifted}
use Rattle.roots.proofs.trial.judge.Goals as goal

pub returns-then-not-same : goal.returns-then-not-same
returns-then-not-same g c f e vanish =
    let R = g.F.Ring in
    let L = g.met.F.Ring.lawful in
    let x = R.value c.args.x in
    not_nought R.ring L c.same.result (R.value c.evaluate-tried.result.value) (R.value c.zero.result) c.zero.ensures.means c.same.ensures c.if-not-same.true
    (c.evaluate-tried.ensures.value ∙ ap (λ p. eval R.ring p x) (level_reals R.ring L f c.args.k (duals R c.args.level.now) e) ∙ vanish)

pub returns-then-k-eq0 : goal.returns-then-k-eq0
returns-then-k-eq0 g c f e =
    let R = g.F.Ring in
    let F = g.F.Field in
    let L = g.met.F.Ring.lawful in
    let x = R.value c.args.x in
    let none = is_nought R.ring L c.same.result (R.value c.evaluate-tried.result.value) (R.value c.zero.result) c.zero.ensures.means c.same.ensures c.if-not-same.false in
    alone_bottom R F L c.field_laws-order.ensures.laws f x c.to_code.result.0 c.args.k c.if-k-eq0.true
    (ap (λ p. eval R.ring p x) (sym (level_reals R.ring L f c.args.k (duals R c.args.level.now) e)) ∙ sym c.evaluate-tried.ensures.value ∙ none)
    c.to_code.ensures.below c.to_code.ensures.means

pub returns-then-same : goal.returns-then-same
returns-then-same g c f e =
    let R = g.F.Ring in
    let L = g.met.F.Ring.lawful in
    let x = R.value c.args.x in
    let level = level_reals R.ring L f c.args.k (duals R c.args.level.now) e in
    let none = is_nought R.ring L c.same.result (R.value c.evaluate-tried.result.value) (R.value c.zero.result) c.zero.ensures.means c.same.ensures c.if-not-same.false in
    let flat = is_nought R.ring L c.same-2.result (R.value c.evaluate-tried.result.slope) (R.value c.zero-2.result) c.zero-2.ensures.means c.same-2.ensures c.if-same.true in (
      omega arith,
      ap (λ p. eval R.ring p x) (sym level) ∙ sym c.evaluate-tried.ensures.value ∙ none,
      ap (λ p. slope R.ring p x) (sym level) ∙ sym c.evaluate-tried.ensures.slope ∙ flat,
    )

pub returns : goal.returns
returns g c f e =
    let R = g.F.Ring in
    let F = g.F.Field in
    let L = g.met.F.Ring.lawful in
    let x = R.value c.args.x in
    let t = c.evaluate-tried in
    let none = is_nought R.ring L c.same.result (R.value t.result.value) (R.value c.zero.result) c.zero.ensures.means c.same.ensures c.if-not-same.false in
    let steep = not_nought R.ring L c.same-2.result (R.value t.result.slope) (R.value c.zero-2.result) c.zero-2.ensures.means c.same-2.ensures c.if-same.false in
    alone_lifted R F L c.field_laws-order.ensures.laws f c.args.k (duals R c.args.level.now) e
    x (R.value t.result.slope) (R.value t.result.tangent) (R.value c.lifted.result) c.to_code-2.result.0 c.requires
    (sym t.ensures.value ∙ none) t.ensures.slope steep t.ensures.tangent c.lifted.ensures c.to_code-2.ensures.below c.to_code-2.ensures.means
