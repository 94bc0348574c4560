use native.Mathlib.Omega.{arith}
use Rattle.trivia.proofs.Clear.{unmarked_more}
use Rattle.trivia.proofs.comment.starless_end.Goals as goal

pub loop-i-preserved : goal.loop-i-preserved
loop-i-preserved c = unmarked_more c.loop-i.invariant (omega arith) (c.block_has.ensures c.if-not-block_has.true)
