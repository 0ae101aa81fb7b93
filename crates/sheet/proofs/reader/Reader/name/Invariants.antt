use Rattle.std.proofs.Common.{◌≡◌, ℕ, ◌+◌, ◌<◌, get_or, true}
use Rattle.sheet.specs.Sheets.{within}
use Rattle.sheet.proofs.reader.Reader.name.Given as goal

abbrev pub invariant-loop-k : goal.invariant-loop-k
invariant-loop-k l = record {
  same : l.self.bytes.now ≡ l.fn.self.bytes.now;
  place : l.self.place ≡ l.start + l._k;
  letters : (k : ℕ) → k < l._k → within 32 126 (get_or l.fn.self.bytes.now (l.start + k) 0) ≡ true;
}
