-- The first word of the list, behind trivia.
use native.Mathlib.Omega.{arith}
use Rattle.reading.specs.Rules.{trivia, encoding}
use Rattle.word.specs.Words.{encodings}
use Rattle.lexis.proofs.Marks.{placed}
use Rattle.lexis.proofs.Words.{picked_fits}
use Rattle.lexis.proofs.operator.encoding.Goals as goal

pub picked-requires-clause-fitting : goal.picked-requires-clause-fitting
picked-requires-clause-fitting c = (picked_fits encodings tt (placed c.requires (omega arith) c.trivia-k.ensures) c.encoding-p.ensures).1

pub returns : goal.returns
unfolding encoding
returns c =
    (c.picked.ensures.picks _ encodings c.encoding-p.ensures).leafs trivia c.trivia-k.ensures
