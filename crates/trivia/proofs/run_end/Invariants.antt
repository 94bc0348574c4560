-- The invariant: the run from the start on ends where the run from i on does.
use mathlib.Core.Path.{◌≡◌}
use Prim.Native.Nat.{◌+◌}
use lib.ListN.{drop}
use Rattle.reading.specs.Byte.{run}
use Rattle.trivia.specs.Class.{bit_of, among}
use Rattle.trivia.proofs.run_end.Given as goal

abbrev pub invariant-loop-i : goal.invariant-loop-i
invariant-loop-i l = l.fn.at.0 + run (among (bit_of l.class) l.inside) (drop l.fn.at.0 l.s) ≡ l.i + run (among (bit_of l.class) l.inside) (drop l.i l.s)
