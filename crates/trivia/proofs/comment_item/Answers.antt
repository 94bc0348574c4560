-- A case for each way out: closed, open, a line comment, one with no text, and another byte behind the slash.
use mathlib.Core.Path.{sym, ◌∙◌}
use Rattle.trivia.proofs.Pieces.{starts_closed, starts_open, starts_line, starts_bare, starts_slash}
use Rattle.trivia.proofs.comment_item.Goals as goal

pub returns-in-Some : goal.returns-in-Some
returns-in-Some c =
    starts_closed _ _ c.requires.at_in_bounds c.requires.at_value (sym c.two_are.ensures ∙ c.if-two_are.true) c.c_comment.ensures _ c.in-Some.is

pub returns-in-None : goal.returns-in-None
returns-in-None c =
    starts_open _ _ c.requires.at_in_bounds c.requires.at_value (sym c.two_are.ensures ∙ c.if-two_are.true) c.c_comment.ensures c.in-None.is

pub returns-then-behind-end : goal.returns-then-behind-end
returns-then-behind-end c =
    starts_line _ _ c.requires.at_in_bounds
    c.requires.at_value
    (sym c.two_are.ensures ∙ c.if-two_are.false)
    (sym c.two_are-2.ensures ∙ c.if-two_are-2.true) _ c.line_end-end.ensures
    c.if-behind-end.true

pub returns-else-behind-end : goal.returns-else-behind-end
returns-else-behind-end c =
    starts_bare _ _ c.requires.at_in_bounds
    c.requires.at_value
    (sym c.two_are.ensures ∙ c.if-two_are.false)
    (sym c.two_are-2.ensures ∙ c.if-two_are-2.true) _ c.line_end-end.ensures
    c.if-behind-end.false

pub returns-else-two_are-2 : goal.returns-else-two_are-2
returns-else-two_are-2 c =
    starts_slash _ _ c.requires.at_in_bounds c.requires.at_value
    (sym c.two_are.ensures ∙ c.if-two_are.false) (sym c.two_are-2.ensures ∙ c.if-two_are-2.false)
