-- A row's places are written anew, or the table does not reach so far.
use native.Mathlib.Numerals.{towards_suc}
use borrow.Author.Tests.{lt-ltb, le-ltb}
use Rattle.table.specs.Words.{replaced}
use Rattle.table.proofs.place_row.Goals as goal

pub returns-then-n-rows : goal.returns-then-n-rows
unfolding replaced
returns-then-n-rows c = simp (lt-ltb _ _ c.if-n-rows.true, towards_suc)

pub returns-else-n-rows : goal.returns-else-n-rows
unfolding replaced
returns-else-n-rows c = simp (le-ltb _ _ c.if-n-rows.false)
