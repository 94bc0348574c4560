use native.Mathlib.Omega.{arith}
use Rattle.statement.proofs.Lifts.{fit_lifts, reads_clear}
use Rattle.statement.proofs.Quiets.{tried, tried_fit, tried_first, tried_next}
use Rattle.statement.proofs.Tests.{statement_calm}
use Rattle.statement.proofs.quiet.checks.Goals as goal

pub lifted-requires : goal.lifted-requires
lifted-requires c = fit_lifts c.requires

pub returns-in_default : goal.returns-in_default
returns-in_default c = tried_first statement_calm.8 c.requires c.in_default.ensures (reads_clear c.clear.ensures.text c.clear.ensures.start c.assert-read.ensures) (λ m e. grind arith)

pub returns-in_default-2 : goal.returns-in_default-2
returns-in_default-2 c = tried_first statement_calm.8 c.requires c.lifted.ensures (reads_clear c.clear.ensures.text c.clear.ensures.start c.assert-read.ensures) (λ m e. grind arith)

pub lifted-requires-2 : goal.lifted-requires-2
lifted-requires-2 c = fit_lifts (tried_fit statement_calm.8 c.requires c.lifted.ensures (reads_clear c.clear.ensures.text c.clear.ensures.start c.assert-read.ensures) c.in-Err-Miss.is c.in-Err-Miss.field-0-is)

pub returns : goal.returns
returns c = tried_next statement_calm.8 c.requires c.lifted.ensures (reads_clear c.clear.ensures.text c.clear.ensures.start c.assert-read.ensures) c.in-Err-Miss.is c.in-Err-Miss.field-0-is λ fit1. tried statement_calm.9 fit1 c.lifted-2.ensures (reads_clear c.clear.ensures.text c.clear.ensures.start c.trace-read.ensures)
