use native.Mathlib.Omega.{arith}
use mathlib.Core.Path.{refl, sym}
use lib.ListN.{length-set}
use Rattle.rows.proofs.Turns.{filled_none, filled_place, filled_more, filled_all, walk_less}
use Rattle.rows.proofs.fill.Goals as goal

pub loop-left-init : goal.loop-left-init
loop-left-init c = (refl, filled_none _ _ _ _ c.requires.0 c.requires.1)

pub overflow_sub-i : goal.overflow_sub-i
overflow_sub-i c = filled_place c.loop-left.invariant.1 c.loop-left-test.true _ (sym (rw c.unwrap-subtree.ensures at c.walk.ensures))

pub bounds-roots-i : goal.bounds-roots-i
bounds-roots-i c =
    omega (
      arith,
      filled_place c.loop-left.invariant.1 c.loop-left-test.true _ (sym (rw c.unwrap-subtree.ensures at c.walk.ensures)),
      c.loop-left.invariant.1.within,
      c.loop-left.invariant.1.room,
    )

pub loop-left-smaller : goal.loop-left-smaller
loop-left-smaller c = walk_less _ _ _ (sym (rw c.unwrap-subtree.ensures at c.walk.ensures))

pub loop-left-preserved : goal.loop-left-preserved
loop-left-preserved c = (
  simp length-set c.loop-left.invariant.0,
  filled_more c.loop-left.invariant.1 c.loop-left-test.true _ (sym (rw c.unwrap-subtree.ensures at c.walk.ensures)),
)

pub returns : goal.returns
returns c = filled_all c.loop-left.invariant.1 (omega (arith, c.loop-left-test.false))
