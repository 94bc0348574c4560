-- `(` and the expression are read once; then `)` and a suffix, or a suffix and `)`. proofs/Forms says what each outcome means for the three forms.
use mathlib.Core.Path.{refl}
use mathlib.Core.Bool.{true, false}
use native.Mathlib.Omega.{arith}
use Rattle.cursor.proofs.Laws.{ready_on, reads_leaf}
use Rattle.cursor.proofs.Exits.{passed}
use Rattle.operand.proofs.Facts.{opened_solid, closing_solid}
use Rattle.expression.proofs.Steps.{ready_met, reads_ready, leaf_not_deep}
use Rattle.operand.proofs.Steps.{onward_solid, onward_then, onward_noted, onward_suffix, spans}
use Rattle.operand.proofs.Forms.{suffix_fits, opened_out, indirect, outer_lacks, outer_done}
use Rattle.operand.proofs.in_parens.Goals as goal

pub returns-in_err-d : goal.returns-in_err-d
returns-in_err-d c = rw (passed c.from_residual.ensures.1) (opened_out c.args.p.skips c.requires c.in_err-d.ensures refl)

pub closing-requires : goal.closing-requires
closing-requires c = reads_ready opened_solid c.args.p.ready c.in_ok-d.ensures

pub optional_suffix-requires : goal.optional_suffix-requires
optional_suffix-requires c =
    ready_on (closing_solid false) _ (reads_ready opened_solid c.args.p.ready c.in_ok-d.ensures) (reads_leaf 0 c.closing.ensures) c.in-Ok.is

pub returns-in_err-x-in-Ok : goal.returns-in_err-x-in-Ok
returns-in_err-x-in-Ok c = absurd (suffix_fits c.in_err-x-in-Ok.ensures refl)

pub around-requires-clause-spans : goal.around-requires-clause-spans
around-requires-clause-spans c =
    let a = onward_solid opened_solid c.args.p.ready.within c.in_ok-d.ensures refl in
    let b = onward_then a (onward_solid (closing_solid false) a.within (reads_leaf 0 c.closing.ensures) c.in-Ok.is) in
    spans c.args.p.ready c.args.p.skips (omega arith) (onward_then b (onward_suffix b.within c.in_ok-x-in-Ok.ensures refl))

pub closing-requires-in-Err-Miss : goal.closing-requires-in-Err-Miss
closing-requires-in-Err-Miss c = ready_met (reads_ready opened_solid c.args.p.ready c.in_ok-d.ensures) _

pub returns-in_err-x-in-Err-Miss : goal.returns-in_err-x-in-Err-Miss
returns-in_err-x-in-Err-Miss c =
    rw (passed c.from_residual-in_err-x-in-Err-Miss.ensures.1)
    (outer_lacks c.args.p.skips c.requires c.in_ok-d.ensures _ refl c.closing.ensures c.in-Err-Miss.is c.in-Err-Miss.field-0-is c.in_err-x-in-Err-Miss.ensures refl)

pub around-requires-in-Err-Miss-clause-spans : goal.around-requires-in-Err-Miss-clause-spans
around-requires-in-Err-Miss-clause-spans c =
    let a = onward_solid opened_solid c.args.p.ready.within c.in_ok-d.ensures refl in
    let y = onward_then (onward_noted c.in-Err-Miss.met a)
    (onward_solid (closing_solid true) a.within (reads_leaf 0 c.in_ok-x-in-Err-Miss.ensures) refl) in
    spans c.args.p.ready c.args.p.skips (omega arith) y

pub returns-in_ok-x-in-Ok : goal.returns-in_ok-x-in-Ok
returns-in_ok-x-in-Ok c =
    indirect c.args.p.skips c.requires c.in_ok-d.ensures _ refl c.closing.ensures c.in-Ok.is c.in_ok-x-in-Ok.ensures refl c.around.ensures

pub returns-in_ok-x-in-Err-Miss : goal.returns-in_ok-x-in-Err-Miss
returns-in_ok-x-in-Err-Miss c =
    outer_done c.args.p.skips c.requires c.in_ok-d.ensures _ refl c.closing.ensures c.in-Err-Miss.is c.in-Err-Miss.field-0-is c.in_ok-x-in-Err-Miss.ensures refl
    c.around-in-Err-Miss.ensures

pub returns-in-Err-Deep : goal.returns-in-Err-Deep
returns-in-Err-Deep c = leaf_not_deep c.closing.ensures c.in-Err-Deep.is c.in-Err-Deep.field-0-is
