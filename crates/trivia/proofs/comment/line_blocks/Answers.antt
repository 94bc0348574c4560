use mathlib.Core.Path.{◌∙◌}
use native.Mathlib.Omega.{arith}
use Rattle.trivia.proofs.Clear.{line_over}
use Rattle.trivia.proofs.comment.line_blocks.Goals as goal

pub loop-i-preserved : goal.loop-i-preserved
loop-i-preserved c = c.loop-i.invariant ∙ line_over _ _ (omega arith) (c.block_has.ensures c.if-not-block_has.true)
