use mathlib.Core.Path.{ap, ◌∙◌}
use Rattle.std.specs.Prelude.{Err}
use native.Mathlib.Omega.{arith}
use Rattle.lexis.proofs.Marks.{told}
use Rattle.literal.proofs.Strings.{item_first, item_plain, item_second}
use Rattle.literal.proofs.text.item.Goals as goal

pub returns-in_default : goal.returns-in_default
returns-in_default c = item_first (told c.new.ensures.text c.new.ensures.start c.in_default.ensures) c.args.interpolated (λ m e. grind arith)

pub returns-in_default-2 : goal.returns-in_default-2
returns-in_default-2 c = item_first (told c.new.ensures.text c.new.ensures.start c.run.ensures) c.args.interpolated (λ m e. grind arith)

pub returns-then-not-interpolated : goal.returns-then-not-interpolated
returns-then-not-interpolated c =
    item_plain (told c.new.ensures.text c.new.ensures.start c.run.ensures) c.args.interpolated c.if-not-interpolated.true _ (c.in-Err-Miss.is ∙ ap Err c.in-Err-Miss.field-0-is)

pub returns : goal.returns
returns c =
    item_second (told c.new.ensures.text c.new.ensures.start c.run.ensures) c.args.interpolated c.if-not-interpolated.false _ (c.in-Err-Miss.is ∙ ap Err c.in-Err-Miss.field-0-is) c.interpolation.ensures
