use mathlib.Core.Path.{refl, ap, sym, subst, ◌∙◌}
use native.Mathlib.Omega.{arith}
use lib.ListN.{length}
use Rattle.line.specs.Marks.{On}
use Rattle.line.proofs.Fills.{lined_length, numbered_so, numbered_same, lined_more, lined_reached}
use Rattle.line.proofs.Stretches.{reaches_as}
use Rattle.line.proofs.number.Goals as goal

pub loop-n-init : goal.loop-n-init
loop-n-init c = (c.requires.2, refl, c.requires.1, numbered_same _ _ c.requires.3)

pub line_of-requires : goal.line_of-requires
line_of-requires c = (
  c.requires.0,
  elim c.if-here-low.branch [
    | goal.then-here-low x ↦ subst (On c.args.text.now) (sym x.here-is) x.ahead-here.ensures.0
    | goal.else-here-low x ↦ subst (On c.args.text.now) (sym x.here-is) c.loop-n.invariant.2
  ],
  elim c.if-here-low.branch [
    | goal.then-here-low x ↦ reaches_as x.here-is x.ahead-here.ensures.2
    | goal.else-here-low x ↦ reaches_as x.here-is x.if-here-low.false
  ],
  numbered_so _ c.loop-n.invariant.3,
  omega (arith, c.loop-n-test.true, c.min-end.ensures, c.loop-n.invariant.1),
)

pub loop-n-preserved : goal.loop-n-preserved
loop-n-preserved c =
    let o : On c.args.text.now c.if-here-low.here = elim c.if-here-low.branch [
      | goal.then-here-low x ↦ subst (On c.args.text.now) (sym x.here-is) x.ahead-here.ensures.0
      | goal.else-here-low x ↦ subst (On c.args.text.now) (sym x.here-is) c.loop-n.invariant.2
    ] in
    let lined_on = lined_more c.args.text.now c.args.rows.now c.loop-n.n c.loop-n.invariant.3 refl c.line_of.ensures in
    let z = c.fill-n.ensures.2 c.args.text.now c.args.rows.now o lined_on in (
      omega (arith, c.fill-n.ensures.1, c.min-end.ensures),
      ap length z ∙ lined_length _ _ _,
      o,
      z,
    )

pub returns : goal.returns
returns c = (
  c.loop-n.invariant.2,
  c.loop-n.invariant.3 ∙ sym (lined_reached _ _ _ _ (omega (arith, c.min-end.ensures, c.loop-n-test.false)) c.loop-n.invariant.0),
)
