-- Where no closing mark starts, the comment is open.
use Rattle.trivia.proofs.Clear.{unmarked_open}
use Rattle.trivia.proofs.comment.c_comment.Goals as goal

pub returns-else-closes : goal.returns-else-closes
returns-else-closes c = unmarked_open _ _ (c.closes.ensures c.if-closes.false)
