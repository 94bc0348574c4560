-- The line feeds between are added, and the stretch goes to the next one.
use mathlib.Core.Path.{refl}
use native.Mathlib.Omega.{arith}
use Rattle.line.proofs.Lines.{line_bound}
use Rattle.line.proofs.Stretches.{ahead_on}
use Rattle.line.proofs.stretch_at.Goals as goal

pub overflow_add-result : goal.overflow_add-result
overflow_add-result c =
    omega (
      arith,
      line_bound c.args.text.now c.args.at,
      c.line_feeds.ensures,
      c.requires.0,
      c.requires.1.line c.steps_from-from.result c.steps_from-from.ensures.0 c.steps_from-from.ensures.1,
    )

pub returns : goal.returns
returns c = (ahead_on _ _ c.requires.1 c.steps_from-from.ensures c.line_feeds.ensures c.clear_end.ensures.0 c.clear_end.ensures.1, refl)
