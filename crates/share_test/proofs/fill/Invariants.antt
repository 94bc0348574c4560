-- The invariant: what is filled lies in the list. Each run takes some of the line.
use Rattle.std.proofs.Common.{length, ◌≤◌}
use Rattle.share_test.proofs.fill.Given as goal

abbrev pub invariant-loop-fields : goal.invariant-loop-fields
invariant-loop-fields l = l.end ≤ length l.texts

abbrev pub decreases-loop-fields : goal.decreases-loop-fields
decreases-loop-fields l = length l.fields
