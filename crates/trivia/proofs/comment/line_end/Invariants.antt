-- The invariant: the line from the first byte looked at on ends where the line from i on does.
use mathlib.Core.Path.{◌≡◌}
use Prim.Native.Nat.{◌+◌}
use lib.ListN.{drop}
use Rattle.reading.specs.Byte.{run}
use Rattle.trivia.specs.Class.{in_line}
use Rattle.trivia.proofs.comment.line_end.Given as goal

abbrev pub invariant-loop-i : goal.invariant-loop-i
invariant-loop-i l = l.blocks + run in_line (drop l.blocks l.s) ≡ l.i + run in_line (drop l.i l.s)
