-- Letters, digits and `_` are what a name is made of.
use Rattle.reading.specs.Rules.{identifier_name}
use Rattle.lexis.proofs.identifier.name.Goals as goal

pub returns : goal.returns
unfolding identifier_name
returns g c = c.name.ensures
