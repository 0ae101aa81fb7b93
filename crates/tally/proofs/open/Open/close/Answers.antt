use Rattle.std.proofs.Common.{sym, subst}
use Rattle.tally.specs.Bodies.{element, Keeps}
use Rattle.tally.proofs.Netting.{netted}
use Rattle.tally.proofs.open.Open.close.Goals as goal

pub returns-clause-netted : goal.returns-clause-netted
returns-clause-netted g c log kept =
    let R = g.F.Ring in
    let F = g.F.Field in
    netted R.ring g.met.F.Ring.lawful F.order (element R F) log _ (subst (Keeps R F log) (sym c.self.view_is) kept)
