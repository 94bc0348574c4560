-- The lent tables as the struct holds them: what stands in them, and that they are the same slices, of the same lengths.
use Rattle.std.specs.Prelude.{List, ◌≡◌, ℕ, length}
use Rattle.state.specs.declared.Tables.{Tables as Lent}
use Rattle.reading.specs.Grammar.{Parser}
use Rattle.cursor.specs.declared.Cursor.{Cursor}
use Rattle.state.specs.declared.State.{State as Counts}
use Rattle.state.specs.Done.{Done}
use Rattle.state.specs.Acts.{Tables, tables, Does}

abbrev pub seen : Lent → Tables
seen t = tables t.rows.now t.errors.now t.requests.now

pub record Same (t u : Lent) : Type 0 where
  pub rows : u.rows.ghost_name ≡ t.rows.ghost_name
  pub errors : u.errors.ghost_name ≡ t.errors.ghost_name
  pub requests : u.requests.ghost_name ≡ t.requests.ghost_name
  pub rows_length : length u.rows.now ≡ length t.rows.now
  pub errors_length : length u.errors.now ≡ length t.errors.now
  pub requests_length : length u.requests.now ≡ length t.requests.now

-- a reader does what a parser does, and the tables are the ones that it was lent
pub record DoesIn (g : Parser) (s : List ℕ) (c : Cursor) (st : Counts) (left : ℕ) (T T' : Lent) (r : Done) : Type 0 where
  pub same : Same T T'
  pub does : Does g s c st left (seen T) (seen T') r
