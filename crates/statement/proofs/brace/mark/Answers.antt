use Rattle.statement.proofs.Lifts.{fit_lifts, leafs_clear}
use Rattle.statement.proofs.Parts.{mark_tells}
use Rattle.statement.proofs.brace.mark.Goals as goal

pub lifted-requires : goal.lifted-requires
lifted-requires c = fit_lifts c.requires

pub returns : goal.returns
returns c = mark_tells c.requires c.lifted.ensures _ (leafs_clear c.clear.ensures.text c.clear.ensures.start c.char-read.ensures)
