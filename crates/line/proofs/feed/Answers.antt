use mathlib.Core.Path.{refl, ap, ◌∙◌}
use native.Mathlib.Omega.{arith}
use borrow.Author.Tests.{le-ltb}
use mir.Val.{bool_byte}
use Prim.Native.Nat.{◌+◌}
use Rattle.line.proofs.Lines.{line_more, line_end}
use Rattle.line.proofs.feed.Goals as goal
use Rattle.line.proofs.feed.Goals.{then-at-text, else-at-text}

pub returns : goal.returns
returns c =
    elim c.if-at-text.branch [
      | then-at-text w ↦ line_more _ _ refl (c.from.ensures ∙ ap bool_byte w.from-is)
      | else-at-text w ↦
          omega (
            arith,
            line_end c.args.text.now c.args.at (c.args.at + 1) w.if-at-text.false (omega arith),
            c.from.ensures ∙ ap bool_byte (w.from-is ∙ le-ltb _ _ w.if-at-text.false),
          )
    ]
