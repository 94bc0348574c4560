use native.Mathlib.Omega.{arith}
use Rattle.head.proofs.Steps.{flat_first, flat_or}
use Rattle.reading.specs.Rules.{import_args}
use Rattle.head.proofs.import.import_args.Goals as goal

pub returns-in_default : goal.returns-in_default
unfolding import_args
returns-in_default c = flat_first c.in_default.ensures (λ m e. grind arith)

pub returns-in_default-2 : goal.returns-in_default-2
unfolding import_args
returns-in_default-2 c = flat_first c.all.ensures (λ m e. grind arith)

pub returns : goal.returns
unfolding import_args
returns c = flat_or c.all.ensures c.in-Err-Miss.is c.in-Err-Miss.field-0-is c.specific_args.ensures
