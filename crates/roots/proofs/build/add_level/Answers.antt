use Rattle.std.proofs.Common.{◌++◌, take, drop, ap, ◌∙◌, arith, length-take}
use Rattle.std.proofs.lemmas.List.{take_at, drop_at}
use Rattle.algebra.specs.Duals.{dual}
use Rattle.algebra.specs.Graeffe.{transform}
use Rattle.roots.specs.Codes.{duals}
use Rattle.roots.proofs.build.add_level.Goals as goal

pub returns-clause-written : goal.returns-clause-written
returns-clause-written g c =
    let R = g.F.Ring in
    let n = c.args.n in
    let split = c.split_at_mut-low in
    let low = split.result.0.now in
    let rest = split.result.1.now in
    let new = c.climb.new.to in
    ap (λ l. duals R (take n l)) (drop_at low (new ++ drop n rest) n split.ensures.front_len)
    ∙ ap (duals R) (take_at new (drop n rest) n (omega (arith, c.climb.auto.to, length-take n rest, split.ensures.back_len, c.requires)))
    ∙ c.climb.ensures.written ∙ ap (λ l. transform (dual R.ring) (duals R l)) split.ensures.front
