-- `#`, an expression, and the row around them.
use mathlib.Core.Path.{refl}
use native.Mathlib.Omega.{arith}
use Rattle.reading.specs.Rules.{am_imm}
use Rattle.cursor.proofs.Laws.{reads_leaf}
use mathlib.Core.Bool.{false}
use Rattle.cursor.proofs.Exits.{passed}
use Rattle.lexis.proofs.Solids.{char_solid}
use Rattle.expression.proofs.Facts.{expression_solid}
use Rattle.expression.proofs.Steps.{leaf_ready, reads_told}
use Rattle.operand.proofs.Steps.{over_misses, over_lacks, onward_solid, onward_then, spans}
use Rattle.operand.proofs.Forms.{imm_done}
use Rattle.operand.proofs.am_imm.Goals as goal

pub returns-in_err-d : goal.returns-in_err-d
unfolding am_imm
returns-in_err-d c = rw (passed c.from_residual.ensures.1) (over_misses (reads_leaf _ c.in_err-d.ensures) refl)

pub new-requires : goal.new-requires
new-requires c = leaf_ready (char_solid false 35) c.args.p.ready c.in_ok-d.ensures

pub returns-in_err-e : goal.returns-in_err-e
unfolding am_imm
returns-in_err-e c =
    rw (passed c.from_residual-in_err-e.ensures.1)
    (over_lacks (reads_leaf _ c.in_ok-d.ensures) (char_solid false 35).quieted refl (reads_told c.new.ensures.text c.new.ensures.start c.in_err-e.ensures) refl)

pub around-requires-clause-spans : goal.around-requires-clause-spans
around-requires-clause-spans c =
    let a = onward_solid (char_solid false 35) c.args.p.ready.within (reads_leaf 0 c.in_ok-d.ensures) refl in
    let b = onward_solid expression_solid a.within (reads_told c.new.ensures.text c.new.ensures.start c.in_ok-e.ensures) refl in
    spans c.args.p.ready c.args.p.skips (omega arith) (onward_then a b)

pub returns : goal.returns
returns c = imm_done c.args.p.skips c.in_ok-d.ensures (reads_told c.new.ensures.text c.new.ensures.start c.in_ok-e.ensures) refl c.around.ensures
