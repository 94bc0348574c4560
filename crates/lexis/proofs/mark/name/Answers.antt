-- A name was found, and has a row; or none was.
use native.Mathlib.Omega.{arith}
use Rattle.lexis.proofs.Ends.{end_in}
use Rattle.lexis.proofs.Marks.{placed, row_fits, behind_found, behind_none}
use Rattle.lexis.proofs.mark.name.Goals as goal

pub returns-in_default : goal.returns-in_default
returns-in_default g c = behind_none c.args.p.skips _ 0 c.miss.ensures c.in_default.ensures

pub row-requires : goal.row-requires
row-requires g c =
    row_fits (placed c.args.p.ready (omega arith) c.args.p.skips) _ 0 (end_in tt tt c.args.p.skips.within c.in-Some.ensures).within (omega arith)

pub returns : goal.returns
returns g c = behind_found c.args.p.skips _ 0 tt c.in-Some.ensures c.row.ensures
