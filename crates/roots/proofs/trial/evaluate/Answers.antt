use Rattle.std.proofs.Common.{◌≡◌, [], ◌∷◌, ◌++◌, map, sym, ap, ◌∙◌, ap₂}
use mathlib.Core.List.{reverse}
use Rattle.std.proofs.lemmas.List.{map-append, reverse-append, reverse-reverse}
use Rattle.std.proofs.lemmas.Iterator.Adapters.{YieldsList-from_rev_slice}
use Rattle.std.proofs.lemmas.Iterator.Consumers.{YieldsList-end}
use Rattle.algebra.specs.Polynomials.{eval}
use Rattle.roots.specs.Slopes.{slope, reals, epsilons}
use Rattle.roots.specs.Codes.{duals}
use Rattle.roots.proofs.trial.evaluate.Goals as goal

pub loop-d-init : goal.loop-d-init
loop-d-init g c = (c.zero-value.ensures.means, c.zero-slope.ensures.means, c.zero-tangent.ensures.means)

pub loop-d-preserved : goal.loop-d-preserved
loop-d-preserved g c =
    let R = g.F.Ring in
    let o = R.ring in
    let x = R.value c.args.x in
    let inv = c.loop-d.invariant in
    let seen = map (λ d. d.now) c.loop-d.yielded in
    let more : reverse (map (λ d. d.now) (c.loop-d.yielded ++ (c.in-Some.d ∷ []))) ≡ c.in-Some.d.now ∷ reverse seen =
    ap reverse (map-append (λ d. d.now) c.loop-d.yielded (c.in-Some.d ∷ [])) ∙ reverse-append seen (c.in-Some.d.now ∷ []) in (
      c.add-value.ensures.means ∙ ap (o.plus _) (c.mul-in-loop-d.ensures.means ∙ ap (o.times x) inv.0) ∙ sym (ap (λ l. eval o (reals (duals R l)) x) more),
      c.add-slope.ensures.means ∙ ap₂ o.plus inv.0 (c.mul.ensures.means ∙ ap (o.times x) inv.1) ∙ sym (ap (λ l. slope o (reals (duals R l)) x) more),
      c.add-tangent.ensures.means ∙ ap (o.plus _) (c.mul-in-loop-d-2.ensures.means ∙ ap (o.times x) inv.2) ∙ sym (ap (λ l. eval o (epsilons (duals R l)) x) more),
    )

pub returns : goal.returns
returns g c =
    let R = g.F.Ring in
    let o = R.ring in
    let x = R.value c.args.x in
    let inv = c.loop-d.invariant in
    let level = c.args.level.now in
    let end = YieldsList-end (YieldsList-from_rev_slice level cc) c.loop-d.yielded _ c.loop-d.yielded_by _ _ c.in-None.is c.next.ensures.steps in
    let all : reverse (map (λ d. d.now) c.loop-d.yielded) ≡ level = ap reverse end.0 ∙ reverse-reverse level in
    record {
      value = inv.0 ∙ ap (λ l. eval o (reals (duals R l)) x) all;
      slope = inv.1 ∙ ap (λ l. slope o (reals (duals R l)) x) all;
      tangent = inv.2 ∙ ap (λ l. eval o (epsilons (duals R l)) x) all;
    }
