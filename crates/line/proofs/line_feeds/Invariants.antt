-- The invariant: so many line feeds lead from the first place to this one.
use mathlib.Core.Path.{◌≡◌}
use Prim.Native.Nat.{◌+◌, ◌-◌, ◌≤◌}
use Rattle.reading.specs.Table.{line}
use Rattle.line.proofs.line_feeds.Given as goal

abbrev pub invariant-loop-i : goal.invariant-loop-i
invariant-loop-i l = (l.i ≤ l.to) × (line l.text l.from + l.n ≡ line l.text l.i)

abbrev pub decreases-loop-i : goal.decreases-loop-i
decreases-loop-i l = l.end - l.i
