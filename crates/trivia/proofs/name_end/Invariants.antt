-- The invariant: the run behind the first byte ends where the run from i on does.
use mathlib.Core.Path.{◌≡◌}
use Prim.Native.Nat.{◌+◌}
use lib.ListN.{drop}
use Rattle.reading.specs.Byte.{run}
use Rattle.trivia.specs.Class.{goes}
use Rattle.trivia.proofs.name_end.Given as goal

abbrev pub invariant-loop-i : goal.invariant-loop-i
invariant-loop-i l = (l.fn.at.0 + 1) + run (goes l.also) (drop (l.fn.at.0 + 1) l.s) ≡ l.i + run (goes l.also) (drop l.i l.s)
