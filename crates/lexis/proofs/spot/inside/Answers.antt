-- Trivia stands behind trivia nowhere.
use native.Mathlib.Omega.{arith}
use Rattle.lexis.proofs.Marks.{skips_within}
use Rattle.lexis.proofs.spot.inside.Goals as goal

pub invariant_of-result : goal.invariant_of-result
invariant_of-result c =
    let h = c.args.p.ready in
    let x = c.args.p.skips in
    record { ready = record { small = h.small; within = x.within; few = omega (arith, h.few, x.on) }; skips = skips_within x }
