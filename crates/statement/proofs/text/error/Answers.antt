use Rattle.reading.specs.Rules.{error}
use Rattle.statement.specs.Shapes.{error_of}
use Rattle.statement.proofs.text.error.Goals as goal

pub returns : goal.returns
unfolding error error_of
returns c = c.error_text.ensures
