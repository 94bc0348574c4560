-- The first byte stands here, so the text goes on behind it.
use mathlib.Core.Path.{sym, ◌∙◌}
use Rattle.trivia.proofs.Names.{second_begins}
use Rattle.trivia.proofs.two_are.Goals as goal

pub returns-then-byte_is : goal.returns-then-byte_is
returns-then-byte_is c = c.byte_is-then-byte_is.ensures ∙ sym (second_begins c.args.a c.args.b c.args.s.now c.args.at.0 (sym c.byte_is.ensures ∙ c.if-byte_is.true))
