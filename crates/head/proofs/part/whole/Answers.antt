use mathlib.Core.Path.{refl}
use Rattle.cursor.proofs.Exits.{passed}
use Rattle.head.proofs.Wholes.{whole_none, whole_some}
use Rattle.head.proofs.part.whole.Goals as goal

pub returns-in_err-e : goal.returns-in_err-e
returns-in_err-e g c =
    rw (passed c.from_residual.ensures.1, c.in_err-e.was) (whole_none _ _ _ _ _ refl)

pub returns : goal.returns
returns g c = whole_some _ c.args.c c.args.k c.in_ok-e.was c.around.ensures
