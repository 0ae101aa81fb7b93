use Rattle.std.proofs.Common.{rules, ◌≡◌, ℕ, ◌<◌, true, false, length, get_or, arith}
use Rattle.sheet.specs.Sheets.{within}
use Rattle.sheet.specs.Reads.{Named}
use Rattle.sheet.proofs.Names.{name_long, name_bad, name_good}
use Rattle.sheet.proofs.check_name.check_name.Goals as goal

pub returns-then-name-gt-LONGEST-clause-answers : goal.returns-then-name-gt-LONGEST-clause-answers
returns-then-name-gt-LONGEST-clause-answers c = name_long c.args.name.now (omega arith)

pub returns-in-Some-clause-answers : goal.returns-in-Some-clause-answers
returns-in-Some-clause-answers c =
    let name = c.args.name.now in
    let k = c.in-Some.k in
    let before : (j : ℕ) → j < k → within 32 126 (get_or name j 0) ≡ true = search rules in
    let inside : k < length name = search rules in
    let bad : within 32 126 (get_or name k 0) ≡ false = search rules in
    name_bad name k (omega arith) before inside bad

pub returns-in-None-clause-answers : goal.returns-in-None-clause-answers
returns-in-None-clause-answers c = let named : Named c.args.name.now = search rules in name_good c.args.name.now named
