use mathlib.Core.Path.{refl, sym}
use lib.ListN.{length-set}
use Rattle.line.proofs.Fills.{lined_more}
use Rattle.line.proofs.fill.Goals as goal

pub loop-m-preserved : goal.loop-m-preserved
loop-m-preserved c = (
  simp length-set c.loop-m.invariant.0,
  λ s t o e. lined_more s t _ (c.loop-m.invariant.1 s t o e) refl (sym (o.line _ c.if-low-here.false c.if-here-low.false)),
)
