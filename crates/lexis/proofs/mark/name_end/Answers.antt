-- A name ends behind its first byte, or there is none.
use Rattle.trivia.specs.Class.{starts, goes}
use Rattle.lexis.proofs.Ends.{name_at, no_name}
use Rattle.lexis.proofs.mark.name_end.Goals as goal

pub returns-then-e-at : goal.returns-then-e-at
returns-then-e-at c = no_name (starts c.args.also) (goes c.args.also) _ _ c.name_end-e.result c.name_end-e.ensures c.if-e-at.true

pub returns : goal.returns
returns c = name_at (starts c.args.also) (goes c.args.also) _ _ c.name_end-e.result c.name_end-e.ensures c.if-e-at.false
