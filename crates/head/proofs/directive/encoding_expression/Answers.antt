use mathlib.Core.Path.{refl}
use Rattle.cursor.proofs.Laws.{reads_leaf}
use Rattle.expression.proofs.Steps.{leaf_ready, then_got}
use Rattle.head.proofs.Steps.{seq_passed}
use Rattle.head.proofs.Tests.{encoding_solid}
use Rattle.head.proofs.directive.encoding_expression.Goals as goal

pub returns-in_err-d : goal.returns-in_err-d
returns-in_err-d c = seq_passed (reads_leaf _ c.in_err-d.ensures) c.from_residual.ensures.1

pub expression-requires : goal.expression-requires
expression-requires c = leaf_ready encoding_solid c.requires c.in_ok-d.ensures

pub returns : goal.returns
returns c = then_got (reads_leaf _ c.in_ok-d.ensures) encoding_solid.quieted refl c.expression.ensures
