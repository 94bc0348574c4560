use native.Mathlib.Omega.{arith}
use Rattle.std.proofs.Common.{rules}
use Rattle.state.proofs.Lent.{does_in}
use Rattle.statement.proofs.Chains.{does_first, does_next, fit_next}
use Rattle.statement.proofs.Tests.{statement_sober}
use Rattle.statement.proofs.token.Goals as goal

pub returns-in_default : goal.returns-in_default
returns-in_default c = does_in (search rules) (does_first c.in_default.ensures.does (λ m e. grind arith))

pub returns-in_default-2 : goal.returns-in_default-2
returns-in_default-2 c = does_in (search rules) (does_first c.statement.ensures.does (λ m e. grind arith))

pub error-requires : goal.error-requires
error-requires c = fit_next c.statement.ensures.does c.requires statement_sober c.in-Err-Miss.is c.in-Err-Miss.field-0-is

pub returns : goal.returns
returns c = does_in (search rules) (does_next c.statement.ensures.does c.in-Err-Miss.is c.in-Err-Miss.field-0-is (c.error.ensures.does _ _))
