-- What it means that a row was pushed around what stands between two cursors.
use Rattle.std.specs.Prelude.{List, ◌≡◌, ℕ, ◌+◌, ◌^◌, ◌≤◌, ◌<◌}
use Rattle.reading.specs.Table.{row_width}
use Rattle.table.specs.Words.{pushed, row_record}
use Rattle.cursor.specs.Text.{cursor}
use Rattle.cursor.specs.declared.Cursor.{Cursor}

-- where that may be done: from c to d, with the body from `low` on, all numbers fit a word
pub record Spans (c : Cursor) (low : ℕ) (d : Cursor) : Type 0 where
  pub grown : c.count.0 ≤ d.count.0
  pub few : d.count.0 + 1 < 2 ^ 32
  pub start : c.at.0 < 2 ^ 32
  pub body : low < 2 ^ 32
  pub end : d.at.0 < 2 ^ 32

-- the row was pushed, and z stands behind it
pub record Finished (kind detail : ℕ) (c : Cursor) (low : ℕ) (d : Cursor) (t t' : List ℕ) (z : Cursor) : Type 0 where
  pub size : ℕ
  pub counts : size + c.count.0 ≡ d.count.0 + 1
  pub table : t' ≡ pushed row_width t d.count.0 (row_record kind size c.at.0 low d.at.0 detail)
  pub is : z ≡ cursor d.at.0 (d.count.0 + 1) d.met
