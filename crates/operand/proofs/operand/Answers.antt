-- Immediate; else what begins with `(`; else the plain form. The trivia that was noted need not be read again.
use mathlib.Core.List.{[], ◌∷◌}
use mathlib.Core.Path.{ap, ap₂, sym, ◌∙◌}
use lib.ListN.{drop}
use native.Mathlib.Omega.{arith}
use Rattle.std.specs.Prelude.{Err}
use Rattle.reading.specs.Byte.{begins}
use Rattle.reading.specs.Rules.{operand}
use Rattle.expression.proofs.Steps.{else_first, else_miss, reads_told, missed}
use Rattle.operand.specs.Parts.{addressed}
use Rattle.operand.proofs.Forms.{plain, imm_gap}
use Rattle.operand.proofs.operand.Goals as goal

pub returns-in_default : goal.returns-in_default
unfolding operand addressed
returns-in_default c = else_first c.in_default.ensures (λ m e. grind arith)

pub returns-in_default-2 : goal.returns-in_default-2
unfolding operand addressed
returns-in_default-2 c = else_first c.am_imm.ensures (λ m e. grind arith)

pub after-q-requires : goal.after-q-requires
after-q-requires c = missed c.am_imm.ensures _ (c.in-Err-Miss.is ∙ ap Err c.in-Err-Miss.field-0-is)

pub returns-then-is : goal.returns-then-is
unfolding operand addressed
returns-then-is c =
    else_miss c.am_imm.ensures c.in-Err-Miss.is c.in-Err-Miss.field-0-is (reads_told c.after-q.ensures.text c.after-q.ensures.start c.in_parens.ensures)

pub returns : goal.returns
unfolding operand addressed
returns c =
    let q = c.after-q.ensures in
    else_miss c.am_imm.ensures c.in-Err-Miss.is c.in-Err-Miss.field-0-is
    (plain _ _ (imm_gap c.am_imm.ensures c.args.p.skips c.in-Err-Miss.is c.in-Err-Miss.field-0-is)
    (ap₂ (λ s k. begins (40 ∷ []) (drop k.at.0 s)) (sym q.text) (sym q.end) ∙ sym c.is.ensures ∙ c.if-is.false) _ (reads_told q.text q.start c.am_abs.ensures))
