-- The suffix, or nothing.
use mathlib.Core.Path.{ap, ◌∙◌}
use native.Mathlib.Omega.{arith}
use Rattle.std.specs.Prelude.{Err}
use Rattle.lexis.proofs.Suffixes.{optional_first, optional_none}
use Rattle.lexis.proofs.operator.optional_suffix.Goals as goal

pub returns-in_default : goal.returns-in_default
returns-in_default c = optional_first c.in_default.ensures λ m e. grind arith

pub returns-in_default-2 : goal.returns-in_default-2
returns-in_default-2 c = optional_first c.suffix.ensures λ m e. grind arith

pub returns-in-Err-Miss : goal.returns-in-Err-Miss
returns-in-Err-Miss c = optional_none c.suffix.ensures _ (c.in-Err-Miss.is ∙ ap Err c.in-Err-Miss.field-0-is)
