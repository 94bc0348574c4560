use Rattle.statement.proofs.Lifts.{fit_lifts}
use Rattle.statement.proofs.Parts.{eof_tells}
use Rattle.statement.proofs.text.eof.Goals as goal

pub lifted-requires : goal.lifted-requires
lifted-requires c = fit_lifts c.requires

pub returns : goal.returns
returns c = eof_tells c.requires c.lifted.ensures c.multiline_trivia-k.ensures c.row-read.ensures
