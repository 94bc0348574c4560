use mathlib.Core.Path.{refl}
use Rattle.cursor.proofs.Laws.{reads_leaf}
use Rattle.expression.proofs.Steps.{then_got}
use Rattle.head.proofs.Steps.{seq_passed, reads_optional}
use Rattle.head.proofs.Bounds.{next}
use Rattle.head.specs.Heads.{asserted}
use Rattle.head.proofs.Tests.{expression_owing}
use Rattle.head.proofs.directive.asserted.Goals as goal

pub returns-in_err-d : goal.returns-in_err-d
unfolding asserted
returns-in_err-d c = seq_passed c.in_err-d.ensures c.from_residual.ensures.1

pub string-g-requires : goal.string-g-requires
string-g-requires c = (next expression_owing c.requires c.in_ok-d.ensures refl).ready

pub returns : goal.returns
unfolding asserted
returns c = then_got c.in_ok-d.ensures expression_owing.quieted refl (reads_optional (reads_leaf _ c.string-g.ensures) c.optional.ensures)
