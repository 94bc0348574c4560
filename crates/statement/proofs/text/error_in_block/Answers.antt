use Rattle.reading.specs.Rules.{error_in_block}
use Rattle.statement.specs.Shapes.{error_of}
use Rattle.statement.proofs.text.error_in_block.Goals as goal

pub returns : goal.returns
unfolding error_in_block error_of
returns c = c.error_text.ensures
