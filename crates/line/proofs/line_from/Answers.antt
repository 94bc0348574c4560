-- Line feeds are added on the way ahead, and taken away on the way back.
use native.Mathlib.Omega.{arith}
use Rattle.line.proofs.Lines.{line_bound}
use Rattle.line.proofs.line_from.Goals as goal

pub overflow_add-result : goal.overflow_add-result
overflow_add-result c = omega (arith, line_bound c.args.text.now c.args.at, c.line_feeds.ensures, c.requires.0, c.requires.1)
