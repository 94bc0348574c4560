use mathlib.Core.Path.{refl}
use Rattle.cursor.proofs.Laws.{reads_leaf}
use Rattle.lexis.proofs.Solids.{name_solid}
use Rattle.expression.proofs.Steps.{leaf_ready, then_got}
use Rattle.head.proofs.Steps.{seq_passed}
use Rattle.head.specs.Heads.{named}
use Rattle.head.proofs.definition.named.Goals as goal

pub returns-in_err-d : goal.returns-in_err-d
unfolding named
returns-in_err-d c = seq_passed (reads_leaf _ c.in_err-d.ensures) c.from_residual.ensures.1

pub assigned-requires : goal.assigned-requires
assigned-requires c = leaf_ready name_solid c.requires c.in_ok-d.ensures

pub returns : goal.returns
unfolding named
returns c = then_got (reads_leaf _ c.in_ok-d.ensures) name_solid.quieted refl c.assigned.ensures
