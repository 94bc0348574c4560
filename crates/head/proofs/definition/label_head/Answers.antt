use Rattle.reading.specs.Rules.{colon, mname}
use Rattle.lexis.proofs.Marks.{told}
use Rattle.lexis.proofs.Solids.{mname_solid}
use Rattle.expression.proofs.Steps.{leaf_ready}
use Rattle.head.proofs.Steps.{flat_leaf, flat_passed, flat_on}
use Rattle.head.specs.Heads.{label_head}
use Rattle.head.proofs.definition.label_head.Goals as goal

pub returns-in_err-d : goal.returns-in_err-d
unfolding label_head mname
returns-in_err-d c = flat_passed (flat_leaf c.in_err-d.ensures) c.from_residual.ensures.1

pub new-requires : goal.new-requires
unfolding mname
new-requires c = leaf_ready mname_solid c.args.p.ready c.in_ok-d.ensures

pub returns : goal.returns
unfolding label_head mname colon
returns c = flat_on (flat_leaf c.in_ok-d.ensures) mname_solid.quieted (flat_leaf (told c.new.ensures.text c.new.ensures.start c.char.ensures))
