-- With a suffix, `)` is read behind it; without, at once.
use mathlib.Core.Path.{refl}
use Rattle.cursor.proofs.Exits.{passed}
use Rattle.operand.proofs.Steps.{onward_suffix, onward_ready}
use Rattle.operand.proofs.Forms.{closing_plain, closing_misses, closing_goes}
use Rattle.operand.proofs.closing.Goals as goal

pub returns-in_err-d : goal.returns-in_err-d
returns-in_err-d c = rw (passed c.from_residual.ensures.1) (closing_misses _ c.if-suffix.true c.in_err-d.ensures refl)

pub close-requires : goal.close-requires
close-requires c = onward_ready c.requires (onward_suffix c.requires.within c.in_ok-d.ensures refl)

pub returns-then-suffix : goal.returns-then-suffix
returns-then-suffix c = closing_goes _ c.if-suffix.true c.in_ok-d.ensures c.in_ok-d.d refl c.close.ensures

pub returns : goal.returns
returns c = closing_plain _ c.if-suffix.false c.close-2.ensures
