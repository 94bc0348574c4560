use Rattle.statement.proofs.Lifts.{fit_ready, fit_told, leaf_told}
use Rattle.statement.proofs.Parts.{shut_first, shut_missing}
use Rattle.statement.proofs.Chains.{fit_next}
use Rattle.statement.proofs.Tests.{mark_paid}
use Rattle.state.proofs.Bounds.{fit_errors}
use mathlib.Core.List.{[]}
use native.Mathlib.Omega.{arith}
use Rattle.statement.proofs.brace.close.Goals as goal

pub returns-in_default : goal.returns-in_default
returns-in_default c = shut_first (leaf_told c.new-p.ensures.text c.new-p.ensures.start c.in_default.ensures) (λ m e. grind arith)

pub returns-in_default-2 : goal.returns-in_default-2
returns-in_default-2 c = shut_first (leaf_told c.new-p.ensures.text c.new-p.ensures.start c.mark.ensures) (λ m e. grind arith)

pub report-y-requires : goal.report-y-requires
report-y-requires c =
    let k = fit_errors (fit_next ((leaf_told c.new-p.ensures.text c.new-p.ensures.start c.mark.ensures).does 0 []) c.requires.fit (mark_paid 125).0 c.in-Err-Miss.is c.in-Err-Miss.field-0-is) in
    omega (arith, c.requires.fit.small, c.requires.fit.within, k)

pub returns : goal.returns
returns c = shut_missing (leaf_told c.new-p.ensures.text c.new-p.ensures.start c.mark.ensures) c.in-Err-Miss.is c.in-Err-Miss.field-0-is c.push_row.ensures c.report-y.ensures

pub new-p-requires : goal.new-p-requires
new-p-requires c = fit_ready c.requires.fit

pub mark-requires : goal.mark-requires
mark-requires c = fit_told c.new-p.ensures.text c.new-p.ensures.start c.requires.fit
