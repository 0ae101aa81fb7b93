use Rattle.std.proofs.Common.{◌≡◌, suc, ◌+◌, length, sym, ap, ◌∙◌, subst, ap₂, add-one, arith, rules, Option, None, Some, IfSome, MatchOption}
use lib.ListN.{length-map}
use Rattle.std.proofs.lemmas.List.{get_or-map, get_or_past}
use Rattle.algebra.specs.Rings.{number}
use Rattle.algebra.specs.Polynomials.{coefficient}
use Rattle.algebra.specs.RingsLemmas.{times-nought}
use Rattle.algebra.proofs.Places.{place_more}
use Rattle.roots.specs.Codes.{element, polynomial, dualized, Held}
use Rattle.roots.specs.Tangents.{tangent}
use Rattle.roots.proofs.Slopes.{pair_path}
use Rattle.roots.proofs.Slices.{values_are}
use Rattle.roots.proofs.TangentLaws.{length-tangent, tangent-place}
use Rattle.roots.proofs.climb.start.Goals as goal

looked_up : {X A B G : Type 0} {P Q S : X → Type 0} (r : Option X) → IfSome r S → MatchOption r A P → MatchOption r B Q → (A → B → G) → ((x : X) → S x → P x → Q x → G) → G
looked_up None s a b n m = n a b
looked_up (Some x) s a b n m = m x s a b

pub loop-i-preserved : goal.loop-i-preserved
loop-i-preserved g c =
    let R = g.F.Ring in
    let F = g.F.Field in
    let o = R.ring in
    let cs = c.args.f.codes.now in
    let f = polynomial R F cs in
    let i = c.loop-i.i-counter in
    let long : length f ≡ length cs = length-map cs (λ x. element R F x.0) in
    let re : R.value c.from_code.result ≡ coefficient o f i =
    c.from_code.ensures.means ∙ sym (get_or-map (λ x. element R F x.0) cs i _ o.nought (omega arith)) in
    let run : MatchOption c.get.result (c.map_or-eps.result ≡ c.zero.result) (λ x. (R.value c.map_or-eps.result ≡ o.times (number o (i + 1)) (element R F x.now.0)) × R.canonical c.map_or-eps.result) = search rules in
    let eps : (R.value c.map_or-eps.result ≡ o.times (number o (suc i)) (coefficient o f (suc i))) × R.canonical c.map_or-eps.result =
    looked_up c.get.result c.get.ensures.lookup.1 c.get.ensures.lookup.3 run
    (λ past zero. (ap R.value zero ∙ c.zero.ensures.means ∙ sym (ap (o.times (number o (suc i))) (get_or_past f (suc i) o.nought (omega (arith, past, long))) ∙ times-nought o g.met.F.Ring.lawful (number o (suc i))), subst R.canonical (sym zero) c.zero.ensures.held))
    (λ x at inside product. (product.0 ∙ ap₂ o.times (ap (number o) (add-one i)) (ap (λ x. element R F x.0) at ∙ sym (get_or-map (λ x. element R F x.0) cs (i + 1) x.now o.nought inside.0) ∙ ap (coefficient o f) (add-one i)), product.1)) in
    place_more (λ j x. (dualized R x ≡ (coefficient o f j, o.times (number o (suc j)) (coefficient o f (suc j)))) × Held R x)
    c.loop-i.level i _ (omega arith) (pair_path re eps.0, (c.from_code.ensures.held, eps.1)) c.loop-i.invariant

pub returns : goal.returns
returns g c =
    let R = g.F.Ring in
    let o = R.ring in
    let L = g.met.F.Ring.lawful in
    let cs = c.args.f.codes.now in
    let f = polynomial R g.F.Field cs in
    let long : length f ≡ length cs = length-map cs (λ x. element R g.F.Field x.0) in
    record {
      written = values_are (dualized R) c.loop-i.level (tangent o f) (o.nought, o.nought) (length-tangent o L f ∙ omega arith)
          (λ k d h. (c.loop-i.invariant k d (omega arith)).0 ∙ sym (tangent-place o L f k (omega arith)));
      held = λ j d h. (c.loop-i.invariant j d (omega arith)).1;
    }
