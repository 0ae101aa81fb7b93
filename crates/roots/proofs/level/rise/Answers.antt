use Rattle.std.proofs.Common.{◌≡◌, ℕ, suc, ◌+◌, ◌*◌, ◌%◌, ◌<◌, ◌++◌, List, length, get_or, drop, sym, ap, ◌∙◌, subst, arith}
use Rattle.std.proofs.lemmas.List.{take_at, get_or_append_left}
use Rattle.algebra.specs.Duals.{dual}
use Rattle.algebra.specs.Graeffe.{transform, tower}
use Rattle.algebra.specs.declared.dual.Dual.{Dual}
use Rattle.roots.specs.Codes.{polynomial, duals, Held}
use Rattle.roots.specs.Tangents.{tangent}
use Rattle.roots.proofs.level.rise.Goals as goal
use Rattle.roots.proofs.level.rise.Goals.{then-k-eq0, else-k-eq0}

pub loop-init : goal.loop-init
loop-init g c =
    let R = g.F.Ring in
    let D = dual R.ring in
    let k = c.args.k in
    let T = tangent R.ring (polynomial R g.F.Field c.args.f.codes.now) in
    let Level : List (Dual _) → Type 0 = λ xs. (duals R xs ≡ tower D T (k % 2 + 0)) × ((i : ℕ) (d : _) → i < length xs → Held R (get_or xs i d)) in
    elim c.if-k-eq0.branch [
      | then-k-eq0 w ↦
          let none : k % 2 + 0 ≡ 0 = omega (arith, w.if-k-eq0.true) in
          subst Level (sym w.front-is) (w.start.ensures.written ∙ ap (tower D T) (sym none), w.start.ensures.held)
      | else-k-eq0 w ↦
          let one : k % 2 + 0 ≡ 1 = omega (arith, w.if-k-eq0.false) in
          subst Level (sym w.front-is) (w.climb.ensures.written ∙ ap (transform D) w.start-else-k-eq0.ensures.written ∙ ap (tower D T) (sym one), w.climb.ensures.held)
    ]

pub loop-preserved : goal.loop-preserved
loop-preserved g c =
    let R = g.F.Ring in
    let D = dual R.ring in
    let below = c.args.k % 2 + 2 * c.loop.counter in
    let T = tangent R.ring (polynomial R g.F.Field c.args.f.codes.now) in
    let next : c.args.k % 2 + 2 * (c.loop.counter + 1) ≡ suc (suc below) = omega arith in
    (c.climb-in-loop-2.ensures.written ∙ ap (transform D) (c.climb-in-loop.ensures.written ∙ ap (transform D) c.loop.invariant.0) ∙ ap (tower D T) (sym next), c.climb-in-loop-2.ensures.held)

pub returns : goal.returns
returns g c =
    let R = g.F.Ring in
    let n = length c.args.f.codes.now in
    let front = c.loop.front in
    let rest = c.loop.back ++ drop n c.split_at_mut-front.result.1.now in
    let long : length front ≡ n = omega (arith, c.split_at_mut-front.ensures.front_len, c.if-k-eq0.auto.front, c.loop.auto.front) in
    let all : c.args.k % 2 + 2 * c.loop.counter ≡ c.args.k = omega (arith, c.loop-test.false, c.loop.auto.counter-end) in
    let inv = c.loop.invariant in
    record {
      written = ap (duals R) (take_at front rest n long) ∙ inv.0 ∙ ap (tower (dual R.ring) (tangent R.ring (polynomial R g.F.Field c.args.f.codes.now))) all;
      held = λ j d h. subst (Held R) (sym (get_or_append_left front rest d j (omega arith))) (inv.1 j d (omega arith));
    }
