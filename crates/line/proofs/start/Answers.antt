use Rattle.line.proofs.Stretches.{start_on}
use Rattle.line.proofs.start.Goals as goal

pub returns : goal.returns
returns c = start_on c.clear_end.ensures.1
