-- An expression, and the row around it.
use mathlib.Core.Path.{refl}
use native.Mathlib.Omega.{arith}
use Rattle.cursor.proofs.Exits.{passed}
use Rattle.expression.proofs.Facts.{expression_solid}
use Rattle.expression.proofs.Steps.{reads_told, skips_told}
use Rattle.operand.proofs.Steps.{over_misses, onward_solid, spans}
use Rattle.operand.proofs.Pairs.{expression_done}
use Rattle.operand.proofs.config_map.expression_value.Goals as goal

pub returns-in_err-d : goal.returns-in_err-d
returns-in_err-d c = rw (passed c.from_residual.ensures.1) (over_misses (reads_told c.new-p.ensures.text c.new-p.ensures.start c.in_err-d.ensures) refl)

pub around-requires-clause-spans : goal.around-requires-clause-spans
around-requires-clause-spans c =
    let p = c.new-p.ensures in
    spans c.requires (skips_told p.text p.start c.new-p.result.skips) (omega arith)
    (onward_solid expression_solid c.requires.within (reads_told p.text p.start c.in_ok-d.ensures) refl)

pub returns : goal.returns
returns c =
    let p = c.new-p.ensures in
    expression_done (skips_told p.text p.start c.new-p.result.skips) (reads_told p.text p.start c.in_ok-d.ensures) refl c.around.ensures
