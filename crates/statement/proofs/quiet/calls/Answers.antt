use native.Mathlib.Omega.{arith}
use Rattle.statement.proofs.Lifts.{fit_lifts, reads_clear, fit_told, tells_told}
use Rattle.statement.proofs.Quiets.{tried_fit, tried_first, tried_next}
use Rattle.statement.proofs.Tests.{statement_calm}
use Rattle.statement.proofs.quiet.calls.Goals as goal

pub lifted-requires : goal.lifted-requires
lifted-requires c = fit_lifts c.requires

pub returns-in_default : goal.returns-in_default
returns-in_default c = tried_first statement_calm.4 c.requires c.in_default.ensures (reads_clear c.clear.ensures.text c.clear.ensures.start c.macro_invocation-read.ensures) (λ m e. grind arith)

pub returns-in_default-2 : goal.returns-in_default-2
returns-in_default-2 c = tried_first statement_calm.4 c.requires c.lifted.ensures (reads_clear c.clear.ensures.text c.clear.ensures.start c.macro_invocation-read.ensures) (λ m e. grind arith)

pub data-requires : goal.data-requires
data-requires c = fit_told c.clear.ensures.text c.clear.ensures.start (tried_fit statement_calm.4 c.requires c.lifted.ensures (reads_clear c.clear.ensures.text c.clear.ensures.start c.macro_invocation-read.ensures) c.in-Err-Miss.is c.in-Err-Miss.field-0-is)

pub returns : goal.returns
returns c = tried_next statement_calm.4 c.requires c.lifted.ensures (reads_clear c.clear.ensures.text c.clear.ensures.start c.macro_invocation-read.ensures) c.in-Err-Miss.is c.in-Err-Miss.field-0-is λ fit. tells_told c.clear.ensures.text c.clear.ensures.start c.«data».ensures
