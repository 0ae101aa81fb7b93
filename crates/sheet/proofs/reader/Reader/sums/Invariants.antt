use Rattle.std.proofs.Common.{◌≡◌, ℕ, ◌+◌, ◌-◌, ◌*◌, ◌<◌}
use Rattle.tally.specs.Access.{code_at}
use Rattle.sheet.specs.Sheets.{Good}
use Rattle.sheet.proofs.reader.Reader.sums.Given as goal

abbrev pub invariant-loop-code : goal.invariant-loop-code
invariant-loop-code l = record {
  same : l.self.bytes.now ≡ l.fn.self.bytes.now;
  place : l.self.place ≡ 24 + 4 * l.code-index;
  codes : (k : ℕ) → k < l.code-index → Good l.fn.self.bytes.now (24 + 4 * k) 0 (l.order - 1) (code_at l.codes k);
}
