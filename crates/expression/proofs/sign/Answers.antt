use Rattle.expression.proofs.Steps.{leaf_not_deep}
use Rattle.expression.proofs.Factor.{maybe_got, maybe_miss}
use Rattle.expression.proofs.sign.Goals as goal

pub returns-in-Ok : goal.returns-in-Ok
returns-in-Ok c = maybe_got c.spaced.ensures c.requires.within _ c.in-Ok.is

pub returns-in-Err-Miss : goal.returns-in-Err-Miss
returns-in-Err-Miss c = maybe_miss c.spaced.ensures c.in-Err-Miss.is c.in-Err-Miss.field-0-is

pub returns-in-Err-Deep : goal.returns-in-Err-Deep
returns-in-Err-Deep c = leaf_not_deep c.spaced.ensures c.in-Err-Deep.is c.in-Err-Deep.field-0-is
