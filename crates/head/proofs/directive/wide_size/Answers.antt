use mathlib.Core.Path.{ap, ◌∙◌}
use native.Mathlib.Omega.{arith}
use Rattle.std.specs.Prelude.{Err}
use Rattle.lexis.proofs.Marks.{told, left}
use Rattle.head.proofs.Steps.{flat_leaf, flat_first, flat_or}
use Rattle.head.specs.Heads.{wide_size}
use Rattle.head.proofs.directive.wide_size.Goals as goal

pub returns-in_default : goal.returns-in_default
unfolding wide_size
returns-in_default c = flat_first (flat_leaf c.in_default.ensures) (λ m e. grind arith)

pub returns-in_default-2 : goal.returns-in_default-2
unfolding wide_size
returns-in_default-2 c = flat_first (flat_leaf c.word.ensures) (λ m e. grind arith)

pub after-requires : goal.after-requires
after-requires c = left c.word.ensures _ (c.in-Err-Miss.is ∙ ap Err c.in-Err-Miss.field-0-is)

pub returns : goal.returns
unfolding wide_size
returns c =
    flat_or (flat_leaf c.word.ensures) c.in-Err-Miss.is c.in-Err-Miss.field-0-is (flat_leaf (told c.after.ensures.text c.after.ensures.start c.word-2.ensures))
