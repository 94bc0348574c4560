use mathlib.Core.Path.{refl}
use Rattle.cursor.proofs.Laws.{reads_leaf}
use Rattle.expression.proofs.Steps.{leaf_ready, then_got}
use Rattle.head.proofs.Steps.{seq_passed}
use Rattle.head.specs.Heads.{char_of, assigned}
use Rattle.head.proofs.Tests.{char_solid}
use Rattle.head.proofs.definition.assigned.Goals as goal

pub returns-in_err-d : goal.returns-in_err-d
unfolding assigned char_of
returns-in_err-d c = seq_passed (reads_leaf _ c.in_err-d.ensures) c.from_residual.ensures.1

pub expression-requires : goal.expression-requires
expression-requires c = leaf_ready (char_solid 61) c.requires c.in_ok-d.ensures

pub returns : goal.returns
unfolding assigned char_of
returns c = then_got (reads_leaf _ c.in_ok-d.ensures) (char_solid 61).quieted refl c.expression.ensures
