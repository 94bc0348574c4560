use mathlib.Core.Path.{refl}
use native.Mathlib.Omega.{arith}
use Rattle.lexis.proofs.Marks.{row_fits}
use Rattle.literal.proofs.Numbers.{decimal_placed, decimal_leafs, decimal_none, numeral_in}
use Rattle.literal.proofs.numeral.decimal.Goals as goal

pub returns-in_default : goal.returns-in_default
returns-in_default c = decimal_none c.args.p.skips c.miss.ensures c.in_default.ensures _

pub row-requires-2 : goal.row-requires-2
row-requires-2 c =
    row_fits (decimal_placed c.args.p.skips c.args.p.ready c.in_ok-d.ensures refl) _ 0
    (numeral_in c.args.p.skips.within c.in-Some.ensures) (omega arith)

pub returns : goal.returns
returns c = decimal_leafs c.args.p.skips c.in-Some.ensures c.args.p.ready.within c.number.ensures c.in_ok-d.ensures refl c.row-2.ensures
