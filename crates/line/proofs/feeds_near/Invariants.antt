-- The invariant: so many line feeds lead from the first place to this one, no more than there are bytes between.
use mathlib.Core.Path.{◌≡◌}
use Prim.Native.Nat.{◌+◌, ◌≤◌}
use Rattle.reading.specs.Table.{line}
use Rattle.line.proofs.feeds_near.Given as goal

abbrev pub invariant-loop-b : goal.invariant-loop-b
invariant-loop-b l = (l.n ≤ l.b-index) × (line l.text l.from + l.n ≡ line l.text (l.from + l.b-index))
