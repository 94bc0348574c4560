use Prim.Native.Nat.{◌+◌}
use native.Mathlib.Omega.{arith}
use Rattle.line.proofs.Lines.{line_bound}
use Rattle.line.proofs.next.Goals as goal

pub overflow_add-result : goal.overflow_add-result
overflow_add-result c =
    omega (
      arith,
      line_bound c.args.text.now (c.args.before.to + 1),
      c.feed.ensures,
      c.requires.0,
      c.requires.1.line c.args.before.to c.requires.1.ordered (omega arith),
    )
