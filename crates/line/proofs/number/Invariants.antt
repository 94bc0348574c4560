-- The invariant: the rows before row n have their lines, and the stretch has its line.
use mathlib.Core.Path.{◌≡◌}
use Prim.Native.Nat.{◌-◌, ◌≤◌}
use lib.ListN.{length}
use Rattle.line.specs.Lines.{lined}
use Rattle.line.specs.Marks.{On}
use Rattle.line.proofs.number.Given as goal

abbrev pub invariant-loop-n : goal.invariant-loop-n
invariant-loop-n l =
    (l.n ≤ l.count) × (length l.rows ≡ length l.initial.rows) × On l.text l.here × (l.rows ≡ lined l.text l.initial.rows l.n)

abbrev pub decreases-loop-n : goal.decreases-loop-n
decreases-loop-n l = l.end - l.n
