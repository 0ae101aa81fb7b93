use Rattle.std.proofs.Common.{rules, ◌≡◌, ◌≤◌, ◌+◌, ◌++◌, length, drop, true, false, ap, sym, ◌∙◌, inr}
use Rattle.std.specs.Range.{range_inclusive_start, range_inclusive_end}
use Rattle.sheet.specs.Sheets.{word, within, number_at}
use Rattle.sheet.proofs.Words.{number_of_four, word_first}
use Rattle.sheet.proofs.Items.{within_low, within_high}
use Rattle.sheet.proofs.reader.Reader.number.Goals as goal

pub returns-then-not-contains-clause-refused : goal.returns-then-not-contains-clause-refused
unfolding number_at
returns-then-not-contains-clause-refused g c =
    let bs = c.args.self.now.bytes.now in
    let p = c.args.self.now.place in
    let least = range_inclusive_start c.args.range in
    let most = range_inclusive_end c.args.range in
    let bad : within least most c.from_be_bytes-n.result ≡ false = search rules in
    let here = number_of_four bs p _ c.in_ok-four.ensures.cases in
    let whole : p + 4 ≤ length bs = search rules in
    record { why = inr (whole, ap (within least most) (here ∙ sym c.from_be_bytes-n.ensures) ∙ bad, c.fault.ensures) }

pub returns-clause-good : goal.returns-clause-good
unfolding number_at
returns-clause-good g c =
    let bs = c.args.self.now.bytes.now in
    let p = c.args.self.now.place in
    let least = range_inclusive_start c.args.range in
    let most = range_inclusive_end c.args.range in
    let n = c.from_be_bytes-n.result in
    let good : within least most n ≡ true = search rules in
    let is : n ≡ number_at bs p = c.from_be_bytes-n.ensures ∙ sym (number_of_four bs p _ c.in_ok-four.ensures.cases) in
    let whole : p + 4 ≤ length bs = search rules in
    record {
      is = is;
      whole = whole;
      cut = word_first bs p _ c.in_ok-four.ensures.cases whole c.in_ok-four.ensures.bytes ∙ ap (λ m. word m ++ drop (p + 4) bs) (sym is);
      low = within_low least most n good;
      high = within_high least most n good;
    }
