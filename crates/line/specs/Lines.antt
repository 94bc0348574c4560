-- Lines of places, and of the rows of a table.
use Rattle.std.specs.Prelude.{List, ◌⊎◌, ◌≡◌, ℕ, zero, suc, ◌+◌, ◌*◌, ◌≤◌, ◌<◌, length, get_or, set}
use Rattle.reading.specs.Table.{row_width, low_column, line_column, room, line}

-- the places from a to z are on one line
pub record Level (s : List ℕ) (a z : ℕ) : Type 0 where
  pub same : (p : ℕ) → a ≤ p → p ≤ z → line s p ≡ line s a

-- where row n has its low and its line
abbrev pub low_at : ℕ → ℕ
low_at n = n * row_width + low_column

abbrev pub line_at : ℕ → ℕ
line_at n = n * row_width + line_column

-- the table with the lines of its first n rows filled in
unfoldable pub lined : List ℕ → List ℕ → ℕ → List ℕ
lined s t zero = t
lined s t (suc n) = set (lined s t n) (line_at n) (line s (get_or t (low_at n) 0))

-- each of the first n rows has its line, as far as there is room
pub record Numbered (s t : List ℕ) (n : ℕ) : Type 0 where
  pub each : (k : ℕ) → k < n → k < room row_width t → get_or t (line_at k) 0 ≡ line s (get_or t (low_at k) 0)

-- the rows behind the first n begin at the word k; k is the table's end where it has no room for n
abbrev pub Cut : ℕ → ℕ → List ℕ → Type 0
Cut k n t = (k ≤ length t) × ((k ≡ n * row_width) ⊎ ((k ≡ length t) × (length t ≤ n * row_width)))
