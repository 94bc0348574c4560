-- Two bits of an entry, by the table's rule.
use Rattle.trivia.proofs.Table.{either_is}
use Rattle.trivia.proofs.class.Class.either.Goals as goal

pub returns : goal.returns
returns c = either_is _ _ _ _ _ c.ranges.b.fits c.bit.ensures c.bit-2.ensures
