-- The invariant: the two numbers have the common divisors that the sums have. At the end one is 0, so the other is the greatest.
use Rattle.share.proofs.Divisors.{Common}
use Rattle.share.proofs.gcd.Given as goal

abbrev pub invariant-loop-y : goal.invariant-loop-y
invariant-loop-y l = Common l.a l.b l.x l.y

abbrev pub decreases-loop-y : goal.decreases-loop-y
decreases-loop-y l = l.y
