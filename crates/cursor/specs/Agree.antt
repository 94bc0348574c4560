-- What it means that a reader's answer and table agree with the written reading.
use Rattle.std.specs.Prelude.{Bool, true, false, ◌||◌, List, [], ◌++◌, ◌≡◌, ℕ, ◌+◌, ◌*◌, ◌≤◌, ltb, length, Ok, Err}
use Rattle.reading.specs.Grammar.{Rows, Rule, Parser}
use Rattle.reading.specs.Summary.{Summary, fits, fails, Scan, scan, scans}
use Rattle.reading.specs.Table.{max_text}
use Rattle.table.specs.Words.{HoldsRows}
use Rattle.cursor.specs.Text.{here, cursor}
use Rattle.cursor.specs.declared.Cursor.{Cursor}
use Rattle.cursor.specs.Read.{Read}
use Rattle.cursor.specs.declared.Stop.TheVariants.{Miss, Deep}

-- the rules, with fuel for the text
unfoldable pub full : List ℕ → Rule → Scan Rows
full s = scans (length s)

abbrev pub deep_or : Bool → Read → Read
deep_or true r = Err Deep
deep_or false r = r

-- the answer that a summary asks for, at a level limit, after `met` and `base` rows
unfoldable pub answer_of : ℕ → Bool → ℕ → Summary Rows → Read
answer_of lim met base (fits v q b k) = deep_or (ltb lim k) (Ok (cursor q.at (base + length v) (met || b)))
answer_of lim met base (fails b k) = deep_or (ltb lim k) (Err (Miss (met || b)))

unfoldable pub rows_of : Summary Rows → Rows
rows_of (fits v q b k) = v
rows_of (fails b k) = []

unfoldable pub peak_of : Summary Rows → ℕ
peak_of (fits v q b k) = k
peak_of (fails b k) = k

-- A reader answers r and leaves the table t'. The table t held, behind `base` older rows, those of acc, which this reader has pushed so far;
-- t' holds, behind the same older rows, those of the summary. Nothing is said of a table that is given up as too deep.
pub record Agrees (o : Summary Rows) (lim : ℕ) (met : Bool) (base : ℕ) (acc : Rows) (t t' : List ℕ) (r : Read) : Type 0 where
  pub answer : r ≡ answer_of lim met base o
  pub table : peak_of o ≤ lim → (pre : Rows) → length pre ≡ base → HoldsRows t (pre ++ acc) → HoldsRows t' (pre ++ rows_of o)

-- the same for a parser at a place of a text
pub record Reading (g : Parser) (s : List ℕ) (l lim i : ℕ) (met : Bool) (base : ℕ) (t t' : List ℕ) (r : Read) : Type 0 where
  pub agrees : Agrees (scan (full s) g l (here s i)) lim met base [] t t' r

-- a function reads by a parser: at every level, with `left` more levels to go
pub record Reads (g : Parser) (s : List ℕ) (c : Cursor) (left : ℕ) (t t' : List ℕ) (r : Read) : Type 0 where
  pub reading : (l : ℕ) → Reading g s l (l + left) c.at.0 c.met c.count.0 t t' r

-- the same where no level is entered
pub record Leafs (g : Parser) (s : List ℕ) (c : Cursor) (t t' : List ℕ) (r : Read) : Type 0 where
  pub reading : (l lim : ℕ) → Reading g s l lim c.at.0 c.met c.count.0 t t' r

-- where a reader may be called: the text is short enough, and there are at most four rows for each byte behind, and k more
pub record Ready (k : ℕ) (s : List ℕ) (c : Cursor) : Type 0 where
  pub small : length s ≤ max_text
  pub within : c.at.0 ≤ length s
  pub few : c.count.0 ≤ 4 * c.at.0 + k
