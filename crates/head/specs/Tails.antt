-- What stands behind a directive in a statement that is a row of its own.
use Rattle.reading.specs.Grammar.{Parser}
use Rattle.reading.specs.Rules.{opt, expression}
use Rattle.head.specs.Heads.{encoded, asserted, traced}

pub data Tail : Type 0 where
  an_expression : Tail
  a_text : Tail
  an_assertion : Tail
  a_trace : Tail

abbrev pub tail_of : Tail → Parser
tail_of an_expression = expression
tail_of a_text = encoded
tail_of an_assertion = asserted
tail_of a_trace = opt traced
