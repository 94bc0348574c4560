-- `x`, or `y` behind the same trivia.
use mathlib.Core.Path.{ap, ◌∙◌}
use native.Mathlib.Omega.{arith}
use Rattle.std.specs.Prelude.{Err}
use Rattle.lexis.proofs.Marks.{told, left}
use Rattle.lexis.proofs.Suffixes.{register_first, register_second}
use Rattle.lexis.proofs.operator.register.Goals as goal

pub returns-in_default : goal.returns-in_default
returns-in_default c = told c.new-p.ensures.text c.new-p.ensures.start (register_first c.in_default.ensures λ m e. grind arith)

pub returns-in_default-2 : goal.returns-in_default-2
returns-in_default-2 c = told c.new-p.ensures.text c.new-p.ensures.start (register_first c.word.ensures λ m e. grind arith)

pub after-requires : goal.after-requires
after-requires c = left c.word.ensures _ (c.in-Err-Miss.is ∙ ap Err c.in-Err-Miss.field-0-is)

pub returns : goal.returns
returns c =
    told c.new-p.ensures.text c.new-p.ensures.start
    (register_second c.word.ensures _ (c.in-Err-Miss.is ∙ ap Err c.in-Err-Miss.field-0-is) (told c.after.ensures.text c.after.ensures.start c.word-2.ensures))
