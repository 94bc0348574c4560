-- The first word of the list, behind trivia.
use native.Mathlib.Omega.{arith}
use Rattle.reading.specs.Rules.{trivia, expression_operator}
use Rattle.word.specs.Words.{expression_operators}
use Rattle.lexis.proofs.Marks.{placed}
use Rattle.lexis.proofs.Words.{picked_fits}
use Rattle.lexis.proofs.operator.expression_operator.Goals as goal

pub picked-requires-clause-fitting : goal.picked-requires-clause-fitting
picked-requires-clause-fitting c = (picked_fits expression_operators tt (placed c.requires (omega arith)
    c.trivia-k.ensures) c.expression_operator-p.ensures).1

pub returns : goal.returns
unfolding expression_operator
returns c =
    (c.picked.ensures.picks _ expression_operators c.expression_operator-p.ensures).leafs trivia c.trivia-k.ensures
