-- The run has a byte, and a row; or it is empty.
use native.Mathlib.Omega.{arith}
use Rattle.trivia.specs.Class.{bit_of, among}
use Rattle.lexis.proofs.Ends.{some_at, some_no, end_in}
use Rattle.lexis.proofs.Marks.{placed, row_fits, behind_found, behind_none}
use Rattle.lexis.proofs.mark.run.Goals as goal

pub returns-then-high-low : goal.returns-then-high-low
returns-then-high-low g c =
    behind_none c.args.p.skips _ 0 c.miss.ensures (some_no (among (bit_of c.args.class) c.args.inside) _ _ _ c.run_end-high.ensures c.if-high-low.true)

pub row-requires : goal.row-requires
row-requires g c =
    let found = some_at (among (bit_of c.args.class) c.args.inside) _ _ _ c.run_end-high.ensures c.if-high-low.false in
    row_fits (placed c.args.p.ready (omega arith) c.args.p.skips) _ 0 (end_in tt tt c.args.p.skips.within found).within (omega arith)

pub returns : goal.returns
returns g c =
    behind_found c.args.p.skips _ 0 tt (some_at (among (bit_of c.args.class) c.args.inside) _ _ _ c.run_end-high.ensures c.if-high-low.false) c.row.ensures
