use Rattle.std.proofs.Common.{subst}
use Rattle.sheet.specs.Sheets.{word}
use Rattle.sheet.specs.Sections.{Puts}
use Rattle.sheet.proofs.writer.Writer.number.Goals as goal

pub returns-clause-puts : goal.returns-clause-puts
unfolding word
returns-clause-puts c = subst (λ ys. Puts ys c.args.self.now.out.now c.args.self.now.place c.put.new.self.out.now c.put.new.self.place) c.to_be_bytes.ensures c.put.ensures.puts
