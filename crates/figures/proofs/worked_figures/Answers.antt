use Rattle.figures.proofs.Worked.{worked}
use Rattle.figures.proofs.worked_figures.Goals as goal

pub returns : goal.returns
returns c = worked
