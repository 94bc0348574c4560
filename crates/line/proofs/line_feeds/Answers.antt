use mathlib.Core.Path.{sym, ◌∙◌}
use Prim.Native.Nat.{◌+◌}
use native.Mathlib.Omega.{arith}
use Rattle.line.proofs.Lines.{line_bound, line_reached}
use Rattle.line.proofs.line_feeds.Goals as goal

pub overflow_add-n : goal.overflow_add-n
overflow_add-n c =
    omega (arith, line_bound c.args.text.now (c.loop-i.i + c.min.result), c.feeds_near.ensures, c.from-n.ensures, c.loop-i.invariant.1, c.requires.0)

pub returns : goal.returns
returns c = c.loop-i.invariant.1 ∙ sym (line_reached _ _ _ (omega (arith, c.min-end.ensures, c.loop-i-test.false)) c.loop-i.invariant.0)
