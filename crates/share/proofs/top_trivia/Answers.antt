use mathlib.Core.Path.{sym}
use native.Mathlib.Omega.{arith}
use Rattle.share.proofs.Pool.{sum_none, sum_next, sum_above}
use Rattle.share.proofs.top_trivia.Goals as goal

pub loop-root-init : goal.loop-root-init
loop-root-init c = (sym (sum_none _), omega arith)

pub returns-then-bytes-total : goal.returns-then-bytes-total
returns-then-bytes-total c =
    sum_above _ _ _ _ _ (sum_next _ _ _ _ c.loop-root.invariant.0 c.trivia_at-total.ensures.0) c.loop-root-test.true c.if-bytes-total.true

pub loop-root-preserved : goal.loop-root-preserved
loop-root-preserved c = (sum_next _ _ _ _ c.loop-root.invariant.0 c.trivia_at-total.ensures.0, c.if-bytes-total.false)
