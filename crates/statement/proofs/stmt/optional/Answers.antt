use Rattle.std.proofs.Common.{rules}
use Rattle.statement.specs.Shapes.{optional}
use Rattle.statement.proofs.stmt.optional.Goals as goal

pub returns-in-Err-Miss : goal.returns-in-Err-Miss
unfolding optional
returns-in-Err-Miss c = search rules

pub returns-in_default : goal.returns-in_default
unfolding optional
returns-in_default c = search rules

pub returns-in_default-2 : goal.returns-in_default-2
unfolding optional
returns-in_default-2 c = search rules
