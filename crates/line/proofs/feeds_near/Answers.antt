use mathlib.Core.Path.{◌≡◌, ap}
use Prim.Native.Nat.{◌+◌}
use native.Mathlib.Omega.{arith}
use Rattle.reading.specs.Table.{line}
use Rattle.line.proofs.Lines.{line_more, part_at, one_at_most}
use Rattle.line.proofs.feeds_near.Goals as goal

pub loop-b-preserved : goal.loop-b-preserved
loop-b-preserved c =
    let at : c.args.from + (c.loop-b.b-index + 1) ≡ c.args.from + c.loop-b.b-index + 1 = omega arith in (
      omega (arith, one_at_most _ _ c.from-n.ensures),
      omega (
        arith,
        ap (line c.args.text.now) at,
        line_more c.args.text.now (c.args.from + c.loop-b.b-index) (part_at _ _ _ _ c.loop-b-test.true) c.from-n.ensures,
      ),
    )
