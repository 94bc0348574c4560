-- What is left of a line behind a field.
use Rattle.std.specs.Prelude.{List, ℕ, ◌≤◌, ◌<◌, length}

-- no more than before, and less if there was any
pub record ReadsOn (before after : List ℕ) : Type 0 where
  pub within : length after ≤ length before
  pub on : 0 < length before → length after < length before
