use Rattle.reading.specs.Rules.{as'}
use Rattle.head.proofs.Steps.{flat_optional}
use Rattle.head.specs.Heads.{as_path}
use Rattle.head.proofs.import.renamed.Goals as goal

pub returns : goal.returns
unfolding as' as_path
returns c = flat_optional c.as_path-f.ensures c.optional.ensures
