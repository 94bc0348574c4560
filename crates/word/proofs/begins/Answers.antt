-- `word::begins` meets its contract.
-- Assumes nothing.
use mathlib.Core.Path.{sym}
use native.Mathlib.Omega.{arith}
use lib.ListN.{drop, length-drop}
use Rattle.word.proofs.Picks.{too_long}
use Rattle.word.proofs.begins.Goals as goal

pub returns-then-rest-word : goal.returns-then-rest-word
returns-then-rest-word c =
    let a = c.args in
    sym (too_long a.word.now (drop a.at.0 a.s.now) (omega (arith, length-drop a.at.0 a.s.now, c.if-rest-word.true)))
