use mathlib.Core.Path.{sym, ◌∙◌}
use native.Mathlib.Omega.{arith}
use Rattle.share.proofs.Pool.{sum_none, sum_next}
use Rattle.share.proofs.pooled.Goals as goal

pub loop-i-init : goal.loop-i-init
loop-i-init c = (sym (sum_none _), sym (sum_none _), omega arith, omega arith)

pub loop-i-preserved : goal.loop-i-preserved
loop-i-preserved c = (
  sum_next _ _ _ _ c.loop-i.invariant.0 (c.from-trivia.ensures ∙ c.of-text.ensures.0),
  sum_next _ _ _ _ c.loop-i.invariant.1 (c.from-length.ensures ∙ c.of-text.ensures.1),
  omega (arith, c.loop-i.invariant.2, c.from-trivia.ensures),
  omega (arith, c.loop-i.invariant.3, c.from-length.ensures),
)
