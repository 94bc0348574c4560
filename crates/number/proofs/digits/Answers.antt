use mathlib.Core.Path.{◌∙◌}
use borrow.Author.Rules.{rules}
use Rattle.number.specs.Answers.{base_of}
use Rattle.number.proofs.Totals.{left_all, left_next, left_none}
use Rattle.number.proofs.digits.Goals as goal

pub loop-b-init : goal.loop-b-init
loop-b-init c = rw c.is_empty-wrong.ensures (left_all _ _)

pub loop-b-preserved : goal.loop-b-preserved
loop-b-preserved c =
    left_next c.loop-b.invariant (search rules) (c.type_inv.text c.loop-b.b-index).fits c.digit-d.ensures c.followed-total.ensures

pub returns : goal.returns
returns c = c.verdict.ensures ∙ left_none c.loop-b.invariant (search rules) (base_of c.args.ty) c.radix-radix.ensures
