use Rattle.text.proofs.Cuts.{pair_parts, pair_none}
use Rattle.text.proofs.read.dual.Goals as goal

pub returns-in_err-re : goal.returns-in_err-re
returns-in_err-re g c = rw (c.from_residual.ensures, ← pair_none c.args.word.now c.in_err-re.ensures.cases) tt

pub returns-in_err-re-2 : goal.returns-in_err-re-2
returns-in_err-re-2 g c =
    let parts = pair_parts c.args.word.now c.in_ok-re.re c.in_ok-re.eps c.in_ok-re.ensures.cases in
    rw (parts, c.from_residual-in_err-re-2.ensures, ← c.in_err-re-2.ensures) tt

pub returns-in_err-eps : goal.returns-in_err-eps
returns-in_err-eps g c =
    let parts = pair_parts c.args.word.now c.in_ok-re.re c.in_ok-re.eps c.in_ok-re.ensures.cases in
    rw (parts, c.from_residual-in_err-eps.ensures, ← c.in_ok-re-2.ensures, ← c.in_err-eps.ensures) tt

pub returns : goal.returns
returns g c =
    let parts = pair_parts c.args.word.now c.in_ok-re.re c.in_ok-re.eps c.in_ok-re.ensures.cases in
    rw (parts, ← c.in_ok-re-2.ensures, ← c.in_ok-eps.ensures) (cc (c.from_code.ensures.means, c.from_code-2.ensures.means), (c.from_code.ensures.held, c.from_code-2.ensures.held))
