-- Identifiers were found behind the path's own trivia, and have a row; or none were.
use native.Mathlib.Omega.{arith}
use Rattle.lexis.proofs.Marks.{placed, row_fits}
use Rattle.lexis.proofs.Paths.{path_got, path_no, identifiers_in}
use Rattle.lexis.proofs.identifier.path.Goals as goal

pub returns-in_default : goal.returns-in_default
returns-in_default g c =
    path_no c.args.p.skips c.trivia-j.ensures c.in_default.ensures

pub row-requires : goal.row-requires
row-requires g c =
    row_fits (placed c.args.p.ready (omega arith) c.args.p.skips) _ 0 (identifiers_in c.trivia-j.ensures.within c.in-Some.ensures) (omega arith)

pub returns : goal.returns
returns g c =
    path_got c.args.p.skips c.trivia-j.ensures c.in-Some.ensures c.row.ensures
