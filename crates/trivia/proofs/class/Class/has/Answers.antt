-- A bit of an entry, by the table's rule.
use Rattle.trivia.proofs.Table.{bit_is}
use Rattle.trivia.proofs.class.Class.has.Goals as goal

pub returns : goal.returns
returns c = bit_is _ _ _ c.ranges.b.fits c.bit.ensures
