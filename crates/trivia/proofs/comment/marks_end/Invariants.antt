-- The invariants: what is left of the comment from i on is what was left before. The inner loop passes bytes that belong to no mark.
use mathlib.Core.Path.{◌≡◌}
use Prim.Native.Nat.{◌≤◌, ◌-◌}
use lib.ListN.{length}
use Rattle.trivia.specs.Piece.{closed, left}
use Rattle.trivia.proofs.comment.marks_end.Given as goal

abbrev pub invariant-loop-i : goal.invariant-loop-i
invariant-loop-i l = (l.initial.i ≤ l.i) × (l.open ≤ l.i) × (left l.s l.initial.open 0 l.initial.i ≡ left l.s l.open 0 l.i)

abbrev pub decreases-loop-i : goal.decreases-loop-i
decreases-loop-i l = length l.s - l.i

abbrev pub invariant-marks : goal.invariant-marks
invariant-marks l = (l.open ≤ l.i) × (closed l.s l.initial.i ≡ left l.s l.open 0 l.i)

abbrev pub decreases-marks : goal.decreases-marks
decreases-marks l = length l.s - l.i
