use mathlib.Core.Path.{sym}
use Rattle.rows.proofs.Turns.{passed_none, passed_more, walk_less}
use Rattle.rows.proofs.top_count.Goals as goal

pub loop-left-init : goal.loop-left-init
loop-left-init c = passed_none _ _

pub loop-left-smaller : goal.loop-left-smaller
loop-left-smaller c = walk_less _ _ _ (sym c.in_ok-left.ensures)

pub loop-left-preserved : goal.loop-left-preserved
loop-left-preserved c =
    passed_more c.loop-left.invariant c.loop-left-test.true _ (sym c.in_ok-left.ensures)
