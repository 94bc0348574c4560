-- A row is pushed, or the table has no room for it.
use Prim.Native.Nat.{ℕ, ◌+◌, ◌*◌, ◌/◌, ◌≤◌, ◌<◌}
use native.Mathlib.Numerals.{towards_suc}
use native.Mathlib.Omega.{arith}
use borrow.Author.Tests.{lt-ltb, le-ltb}
use Rattle.reading.specs.Table.{row_width}
use Rattle.table.specs.Words.{pushed}
use Rattle.table.proofs.push_row.Goals as goal

-- the code's tests, and the definition's, which divides
behind : {m n : ℕ} → m < n * row_width + row_width → m / row_width ≤ n
behind h = omega (arith, h)

inside : {m n : ℕ} → n * row_width + row_width ≤ m → n < m / row_width
inside h = omega (arith, h)

pub returns-then-i-rows : goal.returns-then-i-rows
unfolding pushed
returns-then-i-rows g c = simp (c.number.ensures, lt-ltb _ _ (inside c.if-i-rows.true), towards_suc)

pub returns-else-i-rows : goal.returns-else-i-rows
unfolding pushed
returns-else-i-rows g c = simp (le-ltb _ _ (behind c.if-i-rows.false))
