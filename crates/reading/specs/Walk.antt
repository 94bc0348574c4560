-- Walking a row table: from a row count to the last subtree's root, and the count before that subtree. Nothing is written.
use Rattle.std.specs.Prelude.{◌||◌, cond, List, ℕ, ◌+◌, ◌*◌, ◌-◌, ltb, eqb, get_or}
use Rattle.reading.specs.Table.{Answer, answered, refused, room, row_width, size_column}

pub record Subtree : Type 0 where
  pub root : ℕ
  pub before : ℕ

-- the size that the last of n rows has
abbrev pub size_at : List ℕ → ℕ → ℕ
size_at table n = get_or table ((n - 1) * row_width + size_column) 0

unfoldable pub walk : List ℕ → ℕ → Answer Subtree
walk table n =
    cond (eqb n 0 || ltb (room row_width table) n) (refused 13 n)
    (cond (eqb (size_at table n) 0 || ltb n (size_at table n)) (refused 13 n)
    (answered (record { root = n - 1; before = n - size_at table n })))
