use Rattle.lexis.proofs.Solids.{path_solid}
use Rattle.expression.proofs.Steps.{leaf_ready}
use Rattle.head.proofs.Steps.{flat_leaf, flat_passed, flat_on}
use Rattle.head.proofs.import.path_renamed.Goals as goal

pub returns-in_err-d : goal.returns-in_err-d
returns-in_err-d c = flat_passed (flat_leaf c.in_err-d.ensures) c.from_residual.ensures.1

pub renamed-requires : goal.renamed-requires
renamed-requires c = leaf_ready path_solid c.requires c.in_ok-d.ensures

pub returns : goal.returns
returns c = flat_on (flat_leaf c.in_ok-d.ensures) path_solid.quieted c.renamed.ensures
