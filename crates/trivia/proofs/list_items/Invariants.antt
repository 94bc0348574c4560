-- The invariant: the items that are passed are in the table, and whatever follows them is listed behind them.
use mathlib.Core.Path.{◌≡◌}
use Prim.Native.Nat.{◌-◌}
use lib.ListN.{length}
use Rattle.trivia.proofs.Entries.{Passed}
use Rattle.trivia.proofs.list_items.Given as goal

abbrev pub invariant-loop-item : goal.invariant-loop-item
invariant-loop-item l = (length l.table ≡ length l.initial.table) × Passed l.text l.table l.i l.n

abbrev pub decreases-loop-item : goal.decreases-loop-item
decreases-loop-item l = length l.text - l.i
