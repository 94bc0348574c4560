-- The invariant: so many top rows are met, and the rows left give the rest.
use Rattle.rows.proofs.Turns.{Passed}
use Rattle.rows.proofs.top_count.Given as goal

abbrev pub invariant-loop-left : goal.invariant-loop-left
invariant-loop-left l = Passed l.words l.count l.left l.n

abbrev pub decreases-loop-left : goal.decreases-loop-left
decreases-loop-left l = l.left
