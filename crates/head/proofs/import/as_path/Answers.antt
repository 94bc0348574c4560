use Rattle.lexis.proofs.Marks.{told}
use Rattle.expression.proofs.Steps.{leaf_ready}
use Rattle.head.proofs.Steps.{flat_leaf, flat_passed, flat_on}
use Rattle.head.specs.Heads.{as_path}
use Rattle.head.proofs.Tests.{as_solid}
use Rattle.head.proofs.import.as_path.Goals as goal

pub returns-in_err-d : goal.returns-in_err-d
unfolding as_path
returns-in_err-d c = flat_passed (flat_leaf (told c.new.ensures.text c.new.ensures.start c.in_err-d.ensures)) c.from_residual.ensures.1

pub path-requires : goal.path-requires
path-requires c = leaf_ready as_solid c.requires (told c.new.ensures.text c.new.ensures.start c.in_ok-d.ensures)

pub returns : goal.returns
unfolding as_path
returns c = flat_on (flat_leaf (told c.new.ensures.text c.new.ensures.start c.in_ok-d.ensures)) as_solid.quieted (flat_leaf c.path.ensures)
