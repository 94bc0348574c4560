use mathlib.Core.Path.{ap, ◌∙◌}
use native.Mathlib.Omega.{arith}
use Rattle.std.specs.Prelude.{Err}
use Rattle.expression.proofs.Steps.{else_first, else_miss, reads_told, missed}
use Rattle.head.specs.Heads.{with_operand, implied}
use Rattle.reading.specs.Rules.{instruction}
use Rattle.head.proofs.instruction.instruction.Goals as goal

pub returns-in_default : goal.returns-in_default
unfolding instruction with_operand implied
returns-in_default c = else_first c.in_default.ensures (λ m e. grind arith)

pub returns-in_default-2 : goal.returns-in_default-2
unfolding instruction with_operand implied
returns-in_default-2 c = else_first c.with_operand.ensures (λ m e. grind arith)

pub after-requires : goal.after-requires
after-requires c = missed c.with_operand.ensures _ (c.in-Err-Miss.is ∙ ap Err c.in-Err-Miss.field-0-is)

pub returns : goal.returns
unfolding instruction with_operand implied
returns c =
    else_miss c.with_operand.ensures c.in-Err-Miss.is c.in-Err-Miss.field-0-is (reads_told c.after.ensures.text c.after.ensures.start c.implied.ensures)
