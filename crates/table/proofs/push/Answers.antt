-- A record is pushed, or the table has no room for it.
use Rattle.std.proofs.Common.{arith}
use borrow.Author.Tests.{le-ltb}
use Rattle.table.specs.Words.{pushed}
use Rattle.table.proofs.Zeros.{all_put}
use Rattle.table.proofs.push.Goals as goal

pub returns-after-loop-k : goal.returns-after-loop-k
returns-after-loop-k g c = all_put _ _ _ _ _ _ c.told-words (omega arith) c.if-n-table.true c.loop-k.invariant.1

pub returns-else-n-table : goal.returns-else-n-table
unfolding pushed
returns-else-n-table g c = simp (le-ltb _ _ c.if-n-table.false)
