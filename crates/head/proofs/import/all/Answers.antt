use Rattle.expression.proofs.Steps.{leaf_ready}
use Rattle.head.proofs.Steps.{flat_leaf, flat_passed, flat_on}
use Rattle.head.specs.Heads.{char_of}
use Rattle.head.proofs.Tests.{char_solid}
use Rattle.head.proofs.import.all.Goals as goal

pub returns-in_err-d : goal.returns-in_err-d
unfolding char_of
returns-in_err-d c = flat_passed (flat_leaf c.in_err-d.ensures) c.from_residual.ensures.1

pub renamed-requires : goal.renamed-requires
renamed-requires c = leaf_ready (char_solid 42) c.requires c.in_ok-d.ensures

pub returns : goal.returns
unfolding char_of
returns c = flat_on (flat_leaf c.in_ok-d.ensures) (char_solid 42).quieted c.renamed.ensures
