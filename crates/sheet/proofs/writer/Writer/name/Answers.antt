use Rattle.sheet.specs.Sheets.{name_bytes}
use Rattle.sheet.proofs.Puts.{put_both}
use Rattle.sheet.proofs.writer.Writer.name.Goals as goal

pub returns-clause-puts : goal.returns-clause-puts
unfolding name_bytes
returns-clause-puts c = put_both _ _ _ _ _ _ _ _ c.number.ensures.puts c.put.ensures.puts
