-- At the end one number is 0, so the other is the greatest.
use mathlib.Core.Path.{sym}
use native.Mathlib.Omega.{arith}
use Rattle.share.proofs.Divisors.{Gcd, common_step, common_end, gcd_is, gcd_positive}
use Rattle.share.proofs.gcd.Goals as goal

pub loop-y-preserved : goal.loop-y-preserved
loop-y-preserved c = common_step c.loop-y.invariant

pub returns : goal.returns
returns c =
    let u : Gcd c.args.a c.args.b c.loop-y.x = common_end (omega (arith, c.loop-y-test.false)) c.loop-y.invariant in
    (sym (gcd_is _ _ _ c.requires u), gcd_positive c.requires u)
