use Rattle.std.proofs.Common.{◌≡◌, ◌+◌, ◌*◌, ◌<◌, ◌≤◌, ◌++◌, length, take, drop, sym, ap, ◌∙◌, ⊎_elim, eq-or-lt_of_le, zero-mul, add-one, rules, arith, length-take}
use Rattle.std.proofs.lemmas.List.{take_at, take_rest}
use borrow.Author.Rules.{scaled_Fits}
use Rattle.algebra.specs.Duals.{dual}
use Rattle.algebra.specs.Graeffe.{transform, tower}
use Rattle.roots.specs.Codes.{polynomial, duals}
use Rattle.roots.specs.Tangents.{tangent}
use Rattle.roots.proofs.Building.{written, level_below, level_same, level_next, length-started, level_fits}
use Rattle.roots.proofs.Coding.{good_from}
use Rattle.roots.proofs.build.build.Goals as goal

pub offset_bounds-work-k : goal.offset_bounds-work-k
offset_bounds-work-k g c =
    let n = length c.args.f.codes.now in
    let long = c.loop-k.auto.work ∙ length-started c.start.new.level c.args.work.now n c.start.auto.level in
    let inside : c.loop-k.k * n < length c.loop-k.work = omega (arith, long, (good_from g.F.Field.order c.args.f.codes.now c.args.f.good).some, level_fits c.loop-k.k g.F.Field.levels n (length c.args.work.now) (omega (arith, c.height-height.ensures)) c.requires) in
    scaled_Fits _ (length c.loop-k.work) _ inside (search rules)

pub loop-k-init : goal.loop-k-init
loop-k-init g c j h =
    let R = g.F.Ring in
    let n = length c.args.f.codes.now in
    let T = tangent R.ring (polynomial R g.F.Field c.args.f.codes.now) in
    let none : j ≡ 0 = omega arith in
    let work = c.start.new.level ++ drop n c.args.work.now in
    ap (λ i. duals R (take n (drop i work))) (ap (λ i. i * n) none ∙ zero-mul n)
    ∙ ap (duals R) (take_at c.start.new.level (drop n c.args.work.now) n (c.start.auto.level ∙ omega (arith, length-take n c.args.work.now, level_fits 0 g.F.Field.levels n (length c.args.work.now) (omega arith) c.requires)))
    ∙ c.start.ensures.written ∙ ap (tower (dual R.ring) T) (sym none)

pub loop-k-preserved : goal.loop-k-preserved
loop-k-preserved g c j h =
    let R = g.F.Ring in
    let D = dual R.ring in
    let n = length c.args.f.codes.now in
    let k = c.loop-k.k in
    let xs = c.loop-k.work in
    let ys = c.add_level.new.levels in
    let T = tangent R.ring (polynomial R g.F.Field c.args.f.codes.now) in
    let long = c.loop-k.auto.work ∙ length-started c.start.new.level c.args.work.now n c.start.auto.level in
    let inside : k * n ≤ length xs = omega (arith, long, level_fits k g.F.Field.levels n (length c.args.work.now) (omega (arith, c.height-height.ensures)) c.requires) in
    ⊎_elim
    (λ (same : j ≡ k + 1).
    ap (λ i. duals R (take n (drop (i * n) (written xs ys k n inside c.add_level.auto.levels)))) same ∙ ap (duals R) (level_next xs ys k n inside c.add_level.auto.levels)
    ∙ c.add_level.ensures.written ∙ ap (λ l. transform D (duals R (take n l))) (take_rest xs (k * n))
    ∙ ap (transform D) (c.loop-k.invariant k (omega arith)) ∙ ap (tower D T) (sym (same ∙ add-one k)))
    (λ lower. ap (duals R) (⊎_elim
    (λ (here : j ≡ k). ap (λ i. take n (drop (i * n) (written xs ys k n inside c.add_level.auto.levels))) here ∙ level_same xs ys k n inside c.add_level.auto.levels c.add_level.ensures.stays ∙ sym (ap (λ i. take n (drop (i * n) xs)) here))
    (λ less. level_below xs ys k n inside c.add_level.auto.levels j less)
    (eq-or-lt_of_le (omega arith))) ∙ c.loop-k.invariant j (omega arith))
    (eq-or-lt_of_le h)

pub returns : goal.returns
returns g c =
    let n = length c.args.f.codes.now in
    let long = c.loop-k.auto.work ∙ length-started c.start.new.level c.args.work.now n c.start.auto.level in
    record {
      room = λ j h. omega (arith, long, level_fits j g.F.Field.levels n (length c.args.work.now) h c.requires);
      level = λ j h. c.loop-k.invariant j (omega (arith, c.height-height.ensures));
    }
