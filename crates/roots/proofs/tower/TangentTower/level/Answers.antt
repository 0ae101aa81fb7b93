use Rattle.std.proofs.Common.{◌≡◌, ◌+◌, ◌-◌, ◌*◌, length, take, drop, ap, ◌∙◌, arith}
use Rattle.roots.specs.Codes.{polynomial, duals}
use Rattle.roots.proofs.Holding.{held}
use Rattle.roots.proofs.tower.TangentTower.level.Goals as goal

pub returns : goal.returns
returns g c =
    let R = g.F.Ring in
    let s = c.args.self.now in
    let n = length s.f.codes.now in
    let at = c.args.k * n in
    let long : at + n - at ≡ n = omega arith in
    let holds = held R g.F.Field g.met.F.Ring.lawful (polynomial R g.F.Field s.f.codes.now) n s.levels.now s.holds in
    ap (λ m. duals R (take m (drop at s.levels.now))) long ∙ holds.level c.args.k c.requires
