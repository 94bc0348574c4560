-- What was read, with the bytes that are left behind it, is answered as the whole text.
use Rattle.number.proofs.Totals.{Left}
use Rattle.number.proofs.digits.Given as goal

abbrev pub invariant-loop-b : goal.invariant-loop-b
invariant-loop-b l = Left l.text l.radix l.wrong l.total l.b-index
