-- The answer and the tables are the outcome, so what is shown of them is what the outcome exports.
use Rattle.vireopatch.proofs.Shown.{read_shown}
use Rattle.vireopatch.proofs.vireopatch_read.Goals as goal

pub returns : goal.returns
returns c = rw (c.code_of.ensures, c.given_of.ensures, c.unwrap_or-read.ensures) (read_shown c.read-answer.ensures)
