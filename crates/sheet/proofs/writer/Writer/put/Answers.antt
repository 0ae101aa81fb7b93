use Rattle.std.proofs.Common.{arith}
use Rattle.sheet.proofs.Puts.{put_middle}
use Rattle.sheet.proofs.writer.Writer.put.Goals as goal

pub returns-clause-puts : goal.returns-clause-puts
returns-clause-puts c = put_middle _ _ _ _ _ c.copy_from_slice.ensures.after (omega arith) (omega arith)
