-- An expression, a suffix or none, and the row around them.
use mathlib.Core.Path.{refl}
use native.Mathlib.Omega.{arith}
use Rattle.reading.specs.Rules.{am_abs}
use Rattle.cursor.proofs.Laws.{reads_leaf}
use Rattle.cursor.proofs.Exits.{passed}
use Rattle.expression.proofs.Facts.{expression_solid}
use Rattle.expression.proofs.Steps.{reads_ready}
use Rattle.operand.proofs.Steps.{over_misses, over_lacks, onward_solid, onward_then, onward_suffix, spans}
use Rattle.operand.proofs.Forms.{abs_done}
use Rattle.operand.proofs.am_abs.Goals as goal

pub returns-in_err-d : goal.returns-in_err-d
unfolding am_abs
returns-in_err-d c = rw (passed c.from_residual.ensures.1) (over_misses c.in_err-d.ensures refl)

pub optional_suffix-requires : goal.optional_suffix-requires
optional_suffix-requires c = reads_ready expression_solid c.args.p.ready c.in_ok-d.ensures

pub returns-in_err-e : goal.returns-in_err-e
unfolding am_abs
returns-in_err-e c = rw (passed c.from_residual-in_err-e.ensures.1) (over_lacks c.in_ok-d.ensures expression_solid.quieted refl (reads_leaf _ c.in_err-e.ensures) refl)

pub around-requires-clause-spans : goal.around-requires-clause-spans
around-requires-clause-spans c =
    let a = onward_solid expression_solid c.args.p.ready.within c.in_ok-d.ensures refl in
    spans c.args.p.ready c.args.p.skips (omega arith) (onward_then a (onward_suffix a.within c.in_ok-e.ensures refl))

pub returns : goal.returns
returns c = abs_done c.args.p.skips c.in_ok-d.ensures c.in_ok-e.ensures refl c.around.ensures
