-- The invariant: the table is that of a reading that fills in no line, with the lines of the rows so far, and the stretch has its line.
use Prim.Native.Nat.{◌-◌}
use lib.ListN.{length}
use Rattle.line.specs.Marks.{On}
use Rattle.state.specs.Lent.{seen, Same}
use Rattle.statement.proofs.Files.{Filling}
use Rattle.statement.proofs.source_file.Given as goal

abbrev pub invariant-loop-d : goal.invariant-loop-d
invariant-loop-d l =
    On l.s l.here
    × Filling l.s l.left l.initial.state (seen l.initial.tables) l.at l.count l.state (seen l.tables)
    × Same l.initial.tables l.tables

abbrev pub decreases-loop-d : goal.decreases-loop-d
decreases-loop-d l = length l.s - l.at
