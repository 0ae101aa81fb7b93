use Rattle.std.proofs.Common.{◌≡◌, ◌+◌, ◌*◌, length, sym, refl, ap, subst, rules, ◌∙◌, arith}
use Rattle.std.proofs.lemmas.Result.{err_from_is_err_and}
use Rattle.algebra.specs.Refusals.{answer}
use Rattle.tally.specs.Bodies.{contents, element}
use Rattle.tally.specs.Contents.{count}
use Rattle.sheet.specs.Sheets.{naming}
use Rattle.sheet.specs.Reads.{Written}
use Rattle.sheet.proofs.Names.{name_good}
use Rattle.sheet.proofs.Writes.{refusal_stops, refusal_refuses, frame_long, sums_long, sheet_end, writing-all, written_all, written_as, again}
use Rattle.sheet.proofs.write.write.Goals as goal

pub returns-in_err-check_name : goal.returns-in_err-check_name
returns-in_err-check_name g c =
    let q = g.F.Field.order in
    let at = element g.F.Ring g.F.Field in
    let k = contents g.F.Ring c.args.tally.now in
    let name = c.args.name.now in
    let out = c.args.out.now in
    let e = c.in_err-check_name.field-0.0 in
    let p = err_from_is_err_and c.from_residual.result c.from_residual.ensures.1 in
    let told : answer e ≡ naming name = c.in_err-check_name.ensures.answers in
    rw (p.1, p.2) (record {
      answers = refusal_stops e (naming name) _ told;
      written = refl;
      again = λ bs rest t. absurd (refusal_refuses e (told ∙ sym (name_good name t.sound.named)));
    })

pub sums-requires : goal.sums-requires
sums-requires g c =
    let f = c.args.tally.now.frame in
    let total : c.count.result ≡ 2 * f.width + f.spare = rw c.frame-frame.ensures at c.count.ensures in
    (search rules, omega (arith, frame_long c.field_laws-order.result c.frame-frame.result.width c.frame-frame.result.spare c.turnover.result, ap length c.new-writer.ensures.out))

pub name-requires-clause-room : goal.name-requires-clause-room
name-requires-clause-room g c =
    let f = c.args.tally.now.frame in
    let total : c.count.result ≡ 2 * f.width + f.spare = rw c.frame-frame.ensures at c.count.ensures in
    let sums = c.sums.ensures.puts in
    omega (arith, frame_long c.field_laws-order.result c.frame-frame.result.width c.frame-frame.result.spare c.turnover.result, sums_long sums.codes, sums.coded.coded.long, sums.puts.place, sums.puts.long, ap length c.new-writer.ensures.out)

pub returns : goal.returns
returns g c =
    let q = g.F.Field.order in
    let at = element g.F.Ring g.F.Field in
    let k = contents g.F.Ring c.args.tally.now in
    let name = c.args.name.now in
    let out = c.args.out.now in
    let framed = c.frame.new.self in
    let summed = c.sums.new.self in
    let done = c.name.new.self in
    let frame = rw (c.field_laws-order.ensures.answer, c.frame-frame.ensures, c.turnover.ensures, c.new-writer.ensures.out, c.new-writer.ensures.place) at c.frame.ensures.puts in
    let named = c.in_ok-check_name.ensures.named in
    let total : c.count.result ≡ count k = rw c.frame-frame.ensures at c.count.ensures in
    let n = 4 * (7 + c.count.result) + length name in
    let long : done.place ≡ n = sheet_end q at k name out framed.out.now summed.out.now done.out.now framed.place summed.place done.place frame c.sums.ensures.puts c.name.ensures.puts ∙ omega arith in
    let written : Written q at k name out done.out.now n = subst (Written q at k name out done.out.now) long
    (written_all q at k name out framed.out.now summed.out.now done.out.now framed.place summed.place done.place frame c.sums.ensures.puts c.name.ensures.puts c.field_laws-order.ensures.laws.coded.once named) in
    record {
      answers = writing-all (count k) (length out) name c.in_ok-check_name.ensures.answers (omega arith);
      written = written_as q at k name out done.out.now _ n written (search rules);
      again = λ bs rest t. again q at k name out _ bs rest n (written_as q at k name out done.out.now _ n written (search rules)) t;
    }
