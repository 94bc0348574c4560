-- Each test of the code is one of the definition's.
use Rattle.std.proofs.Common.{arith}
use Rattle.std.proofs.lemmas.Grind.{common_steps}
use Rattle.reading.specs.Walk.{walk}
use Rattle.table.proofs.walk.Goals as goal

pub returns-then-count-eq0 : goal.returns-then-count-eq0
unfolding walk
returns-then-count-eq0 c = grind (arith, common_steps)

pub returns-then-size-eq0 : goal.returns-then-size-eq0
unfolding walk
returns-then-size-eq0 c = grind (arith, common_steps)

pub returns : goal.returns
unfolding walk
returns c = grind (arith, common_steps)
