-- The invariant: the words from i on, as far as n, are the top rows that are met, and the rows left give the rest.
use mathlib.Core.Path.{◌≡◌}
use lib.ListN.{length}
use Rattle.rows.proofs.Turns.{Filled}
use Rattle.rows.proofs.fill.Given as goal

abbrev pub invariant-loop-left : goal.invariant-loop-left
invariant-loop-left l = (length l.roots ≡ length l.initial.roots) × Filled l.words l.count l.n l.roots l.left l.i

abbrev pub decreases-loop-left : goal.decreases-loop-left
decreases-loop-left l = l.left
