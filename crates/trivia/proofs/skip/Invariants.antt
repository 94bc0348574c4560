-- The invariant: the items that are passed, and whatever follows them, are trivia from the start on.
use Prim.Native.Nat.{◌-◌}
use lib.ListN.{length}
use Rattle.trivia.proofs.Walk.{Walked}
use Rattle.trivia.proofs.skip.Given as goal

abbrev pub invariant-loop-item : goal.invariant-loop-item
invariant-loop-item l = Walked l.lines l.s l.initial.i l.met l.i l.m

abbrev pub decreases-loop-item : goal.decreases-loop-item
decreases-loop-item l = length l.s - l.i
