-- Letters, digits and `-` are what a key is made of.
use Rattle.reading.specs.Rules.{config_key}
use Rattle.operand.proofs.config_map.config_key.Goals as goal

pub returns : goal.returns
unfolding config_key
returns c = c.name.ensures
