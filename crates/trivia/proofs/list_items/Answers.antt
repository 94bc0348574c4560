use mathlib.Core.Path.{◌∙◌}
use native.Mathlib.Omega.{arith}
use Rattle.trivia.proofs.Entries.{passed_more, passed_all}
use Rattle.trivia.proofs.Walk.{item_bounds}
use Rattle.trivia.proofs.list_items.Goals as goal

pub returns-in_default : goal.returns-in_default
returns-in_default c = passed_all c.loop-item.invariant.1 c.trivia_item.ensures c.in_default.is

pub loop-item-smaller : goal.loop-item-smaller
loop-item-smaller c =
    let m = item_bounds c.trivia_item.ensures _ c.in-Some.is in
    omega (arith, m.0, m.1)

pub loop-item-preserved : goal.loop-item-preserved
loop-item-preserved c = (
  c.push.auto.table ∙ c.loop-item.invariant.0,
  passed_more c.loop-item.invariant.1 c.trivia_item.ensures _ c.in-Some.is
      (rw c.number.ensures at c.push.ensures),
)

pub overflow_cast-item : goal.overflow_cast-item
overflow_cast-item c =
    let m = item_bounds c.trivia_item.ensures _ c.in-Some.is in
    omega (arith, m.0, m.1)
