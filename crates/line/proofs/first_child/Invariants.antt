-- Each turn has fewer rows before it.
use Prim.Native.Nat.{◌≤◌}
use Rattle.line.proofs.first_child.Given as goal

abbrev pub invariant-loop-c : goal.invariant-loop-c
invariant-loop-c l = l.c ≤ l.n

abbrev pub decreases-loop-c : goal.decreases-loop-c
decreases-loop-c l = l.c
