use mathlib.Core.Path.{refl}
use Rattle.cursor.proofs.Exits.{passed}
use Rattle.literal.proofs.Numbers.{number_out, number_spans, number_got}
use Rattle.literal.proofs.numeral.number.Goals as goal

pub returns-in_err-d : goal.returns-in_err-d
returns-in_err-d c =
    rw (passed c.from_residual.ensures.1) (number_out c.args.p.ready.within c.in_err-d.ensures refl)

pub around-requires-clause-spans : goal.around-requires-clause-spans
around-requires-clause-spans c = number_spans c.args.p.ready.within c.in_ok-d.ensures _ refl c.args.p.ready

pub returns : goal.returns
returns c = number_got c.args.p.ready.within c.in_ok-d.ensures _ refl c.around.ensures
