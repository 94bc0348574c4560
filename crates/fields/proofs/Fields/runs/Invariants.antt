use Rattle.std.proofs.Common.{◌≤◌, length}
use Rattle.fields.proofs.Fields.runs.Given as goal

abbrev pub invariant-loop-self : goal.invariant-loop-self
invariant-loop-self l = (l.low ≤ l.end) × (l.end ≤ length l.text)

abbrev pub decreases-loop-self : goal.decreases-loop-self
decreases-loop-self l = length l.self
