-- When a stretch of places, and a single place, have their line.
use Rattle.std.specs.Prelude.{List, ◌≡◌, ℕ, ◌≤◌}
use Rattle.reading.specs.Table.{line}
use Rattle.line.specs.declared.Stretch.{Stretch}
use Rattle.line.specs.declared.Mark.{Mark}

pub record On (s : List ℕ) (x : Stretch) : Type 0 where
  pub ordered : x.from ≤ x.to
  pub line : (p : ℕ) → x.from ≤ p → p ≤ x.to → line s p ≡ x.line

abbrev pub Marked : List ℕ → Mark → Type 0
Marked s m = m.line ≡ line s m.at
