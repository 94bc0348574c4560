-- What the answers of parts mean for the whole.
use Rattle.std.specs.Prelude.{List, ◌≡◌, ℕ, ◌+◌, ◌-◌, Ok, Err}
use Rattle.reading.specs.Grammar.{Parser}
use Rattle.reading.specs.Table.{row_width}
use Rattle.table.specs.Words.{pushed, row_record}
use Rattle.cursor.specs.Text.{cursor}
use Rattle.cursor.specs.Agree.{Reads}
use Rattle.cursor.specs.declared.Cursor.{Cursor}
use Rattle.cursor.specs.declared.Skip.{Skip}
use Rattle.cursor.specs.Read.{Read}
use Rattle.lexis.specs.Around.{Spans}
use Rattle.cursor.specs.declared.Stop.TheVariants.{Miss, Deep}

-- a function reads by a parser that enters no level: it is told no limit
pub record Flat (g : Parser) (s : List ℕ) (c : Cursor) (t t' : List ℕ) (r : Read) : Type 0 where
  pub reads : (left : ℕ) → Reads g s c left t t' r

-- from c on, the answer of opt(m), where m has answered
unfoldable pub optional : Cursor → Read → Read
optional c (Ok d) = Ok d
optional c (Err (Miss m)) = Ok (cursor c.at.0 c.count.0 m)
optional c (Err Deep) = Err Deep

-- the same of opt(not(m)), which reads nothing
unfoldable pub tried : Cursor → Read → Read
tried c (Ok d) = Ok (cursor c.at.0 c.count.0 d.met)
tried c (Err (Miss m)) = Ok (cursor c.at.0 c.count.0 m)
tried c (Err Deep) = Err Deep

-- the row around all that was read from c on, where trivia ended at k
unfoldable pub whole_rows : ℕ → Cursor → Skip → List ℕ → Read → List ℕ
whole_rows kind c k t (Ok e) =
    pushed row_width t e.count.0 (row_record kind (e.count.0 + 1 - c.count.0) c.at.0 k.at.0 e.at.0 0)
whole_rows kind c k t (Err (Miss m)) = t
whole_rows kind c k t (Err Deep) = t

unfoldable pub whole_answer : Read → Read
whole_answer (Ok e) = Ok (cursor e.at.0 (e.count.0 + 1) e.met)
whole_answer (Err (Miss m)) = Err (Miss m)
whole_answer (Err Deep) = Err Deep

pub record Whole (kind : ℕ) (c : Cursor) (k : Skip) (f : Read) (t t' : List ℕ) (r : Read) : Type 0 where
  pub table : t' ≡ whole_rows kind c k t f
  pub answer : r ≡ whole_answer f

-- if it was read, the row around it has room for its columns
pub record Closable (c : Cursor) (k : Skip) (f : Read) : Type 0 where
  pub spans : (e : Cursor) → f ≡ Ok e → Spans c k.at.0 e
