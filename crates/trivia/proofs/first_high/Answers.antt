use mathlib.Core.Path.{sym}
use Rattle.trivia.proofs.Highs.{none_high, high_is}
use Rattle.trivia.proofs.first_high.Goals as goal

pub returns-then-is_ascii : goal.returns-then-is_ascii
returns-then-is_ascii c = sym (none_high _ 0 c.if-is_ascii.ensures.cases)

pub returns : goal.returns
returns c = high_is c.args.s.now c.high_place.ensures c.in_ok-i.was

pub returns-in_err-i : goal.returns-in_err-i
returns-in_err-i c = rw c.from_residual.ensures (high_is c.args.s.now c.high_place.ensures c.in_err-i.was)
