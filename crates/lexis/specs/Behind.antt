-- What it means that a row was pushed behind trivia.
use Rattle.std.specs.Prelude.{List, ◌≡◌, ℕ, ◌+◌, Ok}
use Rattle.reading.specs.Table.{row_width}
use Rattle.table.specs.Words.{pushed, row_record}
use Rattle.cursor.specs.Text.{cursor}
use Rattle.cursor.specs.declared.Cursor.{Cursor}
use Rattle.cursor.specs.declared.Skip.{Skip}
use Rattle.cursor.specs.Read.{Read}

-- one row was pushed, and the answer stands behind it
pub record Rowed (kind detail : ℕ) (c : Cursor) (k : Skip) (high : ℕ) (t t' : List ℕ) (r : Read) : Type 0 where
  pub table : t' ≡ pushed row_width t c.count.0 (row_record kind 1 c.at.0 k.at.0 high detail)
  pub answer : r ≡ Ok (cursor high (c.count.0 + 1) k.met)
