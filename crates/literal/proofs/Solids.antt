-- The tests that cursor's laws ask for: what is in a number is quiet, its bytes pay for its rows, its last row ends where it ends.
use Rattle.reading.specs.Rules.{all_rules}
use Rattle.cursor.proofs.Laws.{Solid}
use Rattle.literal.specs.Parts.{value}

pub value_solid : Solid value
unfolding all_rules
value_solid = record { quieted = tt; slimmed = tt; rooting = tt; paying = tt }
