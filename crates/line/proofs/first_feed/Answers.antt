use mathlib.Core.Path.{◌∙◌}
use mathlib.Core.Logic.{inl, inr}
use native.Mathlib.Omega.{arith}
use Rattle.line.proofs.Lines.{clear_more, part_at}
use Rattle.line.proofs.first_feed.Goals as goal
use Rattle.line.proofs.first_feed.Goals.{then-b-eq10, else-b-eq10}

pub loop-j-preserved : goal.loop-j-preserved
loop-j-preserved c = (
  omega (arith, c.min-first.ensures, c.loop-j.invariant.0),
  clear_more c.if-b-eq10.found c.loop-j.invariant.1 (elim c.if-b-eq10.branch [
    | then-b-eq10 w ↦ inl w.found-is
    | else-b-eq10 w ↦ inr (λ e. w.if-b-eq10.false (part_at _ _ _ _ c.loop-j-test.true ∙ e))
  ]) _ (omega (arith, c.min-first.ensures)) (omega (arith, c.min-first.ensures)),
)
