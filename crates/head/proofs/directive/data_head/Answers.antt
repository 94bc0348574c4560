use mathlib.Core.Path.{ap, ◌∙◌}
use native.Mathlib.Omega.{arith}
use Rattle.std.specs.Prelude.{Err}
use Rattle.reading.specs.Rules.{data_size}
use Rattle.lexis.proofs.Marks.{left}
use Rattle.expression.proofs.Steps.{reads_told}
use Rattle.head.proofs.Steps.{flat_leaf, flat_first, flat_or}
use Rattle.head.specs.Heads.{wide_size}
use Rattle.head.proofs.directive.data_head.Goals as goal

pub returns-in_default : goal.returns-in_default
unfolding data_size
returns-in_default c = flat_first (flat_leaf c.in_default.ensures) (λ m e. grind arith)

pub returns-in_default-2 : goal.returns-in_default-2
unfolding data_size
returns-in_default-2 c = flat_first (flat_leaf c.word.ensures) (λ m e. grind arith)

pub after-requires : goal.after-requires
after-requires c = left c.word.ensures _ (c.in-Err-Miss.is ∙ ap Err c.in-Err-Miss.field-0-is)

pub returns : goal.returns
unfolding data_size wide_size
returns c =
    flat_or (flat_leaf c.word.ensures) c.in-Err-Miss.is c.in-Err-Miss.field-0-is
    (record { reads = λ left. reads_told c.after.ensures.text c.after.ensures.start (c.wide_size.ensures.reads left) })
