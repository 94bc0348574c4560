use native.Mathlib.Omega.{arith}
use Rattle.head.specs.Heads.{encoded}
use Rattle.expression.proofs.Steps.{else_first, else_miss}
use Rattle.head.proofs.directive.encoded.Goals as goal

pub returns-in_default : goal.returns-in_default
unfolding encoded
returns-in_default c = else_first c.in_default.ensures (λ m e. grind arith)

pub returns-in_default-2 : goal.returns-in_default-2
unfolding encoded
returns-in_default-2 c = else_first c.encoding_expression.ensures (λ m e. grind arith)

pub returns : goal.returns
unfolding encoded
returns c = else_miss c.encoding_expression.ensures c.in-Err-Miss.is c.in-Err-Miss.field-0-is c.expression.ensures
