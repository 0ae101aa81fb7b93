use Rattle.std.proofs.Common.{refl, ap, ◌∙◌, ap₂}
use Rattle.std.proofs.lemmas.Result.{err_from_is_err_and}
use Rattle.algebra.specs.Rings.{power, number}
use Rattle.algebra.specs.Refusals.{answer}
use Rattle.tally.specs.Contents.{signed, Moved}
use Rattle.tally.specs.Logs.{line}
use Rattle.tally.specs.Bodies.{contents, element}
use Rattle.tally.proofs.Nets.{kept_refused, kept_moved, signed-times}
use Rattle.tally.proofs.Refusing.{not_taken}
use Rattle.tally.proofs.sums.Sums.call.Goals as goal

pub returns-in_err-turnover : goal.returns-in_err-turnover
returns-in_err-turnover g c =
    let R = g.F.Ring in
    let F = g.F.Field in
    let why = c.in_err-turnover.field-0.0 in
    let told = c.in_err-turnover.ensures.answers in
    let p = err_from_is_err_and c.from_residual.result c.from_residual.ensures.1 in rw (p.1, p.2) record {
      answers = told;
      moves = refl;
      framed = refl;
      logged = λ log kept. kept_refused R.ring g.met.F.Ring.lawful (element R F) F.order log _ (line c.args.call c.args.code.0 c.args.quantity (answer why)) kept told (not_taken why);
    }

pub returns : goal.returns
returns g c =
    let R = g.F.Ring in
    let F = g.F.Field in
    let o = R.ring in
    let L = g.met.F.Ring.lawful in
    let call = c.args.call in
    let a = c.args.code.0 in
    let n = c.args.quantity in
    let before = contents R c.args.self.now in
    let r = c.raise.ensures in
    let moves : Moved o call (element R F a) n before _ = record {
      width = ap (λ f. f.width) r.frame.0;
      spare = ap (λ f. f.spare) r.frame.0;
      turnover = c.in_ok-turnover.ensures.turnover;
      sum = λ k h. r.sums k h
          ∙ ap₂ (λ x y. o.plus (before.sum k) (o.times x (power o y k))) (c.signed-signed.ensures ∙ ap (signed o call) c.whole.ensures.means) c.from_code.ensures.means
          ∙ ap (o.plus (before.sum k)) (signed-times o L (element R F) call (number o n) (power o (element R F a) k));
    } in
    record {
      answers = c.in_ok-turnover.ensures.answers;
      moves = moves;
      framed = r.frame.0;
      logged = λ log kept. kept_moved o L (element R F) F.order log _ _ call a n kept moves c.in_ok-turnover.ensures.answers;
    }
