use Rattle.reading.specs.Rules.{current_pc}
use Rattle.expression.proofs.Facts.{mark_solid}
use mathlib.Core.Path.{refl}
use Rattle.cursor.proofs.Exits.{passed}
use Rattle.cursor.proofs.Laws.{reads_leaf}
use Rattle.expression.proofs.Steps.{leaf_out, leaf_got, whole_spans}
use Rattle.expression.proofs.current_pc.Goals as goal

pub returns-in_err-d : goal.returns-in_err-d
unfolding current_pc
returns-in_err-d c = rw (passed c.from_residual.ensures.1) (leaf_out c.args.p.ready.within c.in_err-d.ensures refl)

pub around-requires-clause-spans : goal.around-requires-clause-spans
around-requires-clause-spans c = whole_spans (mark_solid 42) c.args.p.ready (reads_leaf 0 c.in_ok-d.ensures) refl

pub returns : goal.returns
unfolding current_pc
returns c = leaf_got c.args.p.ready.within (mark_solid 42).quieted c.in_ok-d.ensures refl c.around.ensures
