use native.Mathlib.Omega.{arith}
use Rattle.share.proofs.Ranks.{none_held, held_inside, held_next}
use Rattle.share.proofs.three_largest.Goals as goal

pub loop-i-init : goal.loop-i-init
loop-i-init c = none_held _

pub with_text-requires : goal.with_text-requires
with_text-requires c = held_inside _ _ _ _ c.loop-i-test.true (omega (arith, c.count-i-end.ensures)) c.loop-i.invariant

pub loop-i-preserved : goal.loop-i-preserved
loop-i-preserved c = held_next _ _ _ _ c.loop-i.invariant c.with_text.ensures
