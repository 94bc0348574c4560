-- The first word of the list, behind trivia.
use native.Mathlib.Omega.{arith}
use Rattle.reading.specs.Rules.{trivia, modifier}
use Rattle.word.specs.Words.{modifiers}
use Rattle.lexis.proofs.Marks.{placed}
use Rattle.lexis.proofs.Words.{picked_fits}
use Rattle.lexis.proofs.operator.modifier.Goals as goal

pub picked-requires-clause-fitting : goal.picked-requires-clause-fitting
picked-requires-clause-fitting c = (picked_fits modifiers tt (placed c.requires (omega arith) c.trivia-k.ensures) c.modifier-p.ensures).1

pub returns : goal.returns
unfolding modifier
returns c =
    (c.picked.ensures.picks _ modifiers c.modifier-p.ensures).leafs trivia c.trivia-k.ensures
