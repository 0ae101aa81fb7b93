use Rattle.sheet.specs.Sheets.{frame_bytes}
use Rattle.sheet.proofs.Puts.{put_both}
use Rattle.sheet.proofs.writer.Writer.frame.Goals as goal

pub returns-clause-puts : goal.returns-clause-puts
unfolding frame_bytes
returns-clause-puts c =
    let width = rw c.width.ensures at c.number-3.ensures.puts in
    let spare = rw c.spare.ensures at c.number-4.ensures.puts in
    put_both _ _ _ _ _ _ _ _ c.number.ensures.puts (put_both _ _ _ _ _ _ _ _ c.number-2.ensures.puts
    (put_both _ _ _ _ _ _ _ _ width (put_both _ _ _ _ _ _ _ _ spare c.number-5.ensures.puts)))
