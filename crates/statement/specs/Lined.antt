-- Rows and their lines. The reader of a token is lent the part of the row table behind the rows so far, writes its rows there without their lines,
-- and the lines are filled in behind it. So the table is at all times that of a reading that fills in no line, the draft, with the lines of its
-- first rows.
use Rattle.std.specs.Prelude.{false, List, ◌≡◌, ℕ, ◌+◌, Ok, Err}
use Rattle.reading.specs.Grammar.{Parser}
use Rattle.line.specs.Lines.{lined}
use Rattle.cursor.specs.Text.{cursor}
use Rattle.cursor.specs.declared.Cursor.{Cursor}
use Rattle.state.specs.declared.State.{State as Counts}
use Rattle.state.specs.Done.{Done}
use Rattle.state.specs.Acts.{Tables, tables, Does}
use Rattle.cursor.specs.declared.Stop.TheVariants.{Miss, Deep}

-- an answer that counts its own rows, behind n others
abbrev pub shifted : ℕ → Done → Done
shifted n (Ok (d, x)) = Ok (cursor d.at.0 (n + d.count.0) false, x)
shifted n (Err (Miss x)) = Err (Miss x)
shifted n (Err Deep) = Err Deep

-- from the draft t a reader does what a parser does to another draft, and the n rows before its own keep their lines
pub record Drafted (g : Parser) (s : List ℕ) (at n : ℕ) (st : Counts) (left : ℕ) (t : List ℕ) (T T' : Tables) (r : Done) : Type 0 where
  pub draft : List ℕ
  pub lines : T'.rows ≡ lined s draft n
  pub does : Does g s (cursor at n false) st left (tables t T.errors T.requests) (tables draft T'.errors T'.requests) (shifted n r)

-- the same whatever the draft was
pub record Appends (g : Parser) (s : List ℕ) (at n : ℕ) (st : Counts) (left : ℕ) (T T' : Tables) (r : Done) : Type 0 where
  pub drafted : (t : List ℕ) → T.rows ≡ lined s t n → Drafted g s at n st left t T T' r

-- the same for a function that is lent no request table and enters no level
pub record AppendsLeaf (g : Parser) (s : List ℕ) (at n : ℕ) (st : Counts) (t t' e e' : List ℕ) (r : Done) : Type 0 where
  pub appends : (left : ℕ) (q : List ℕ) → Appends g s at n st left (tables t e q) (tables t' e' q) r

-- a reader does what a parser does to a draft, and where it fits all rows have their lines
pub record Lined (g : Parser) (s : List ℕ) (c : Cursor) (st : Counts) (left : ℕ) (T T' : Tables) (r : Done) : Type 0 where
  pub draft : List ℕ
  pub lines : (d : Cursor) (x : Counts) → r ≡ Ok (d, x) → T'.rows ≡ lined s draft d.count.0
  pub does : Does g s c st left T (tables draft T'.errors T'.requests) r

-- such a function does so behind n rows that have theirs
pub record LinedLeaf (g : Parser) (s : List ℕ) (at n : ℕ) (st : Counts) (t t' e e' : List ℕ) (r : Done) : Type 0 where
  pub from : (left : ℕ) (q u : List ℕ) → t ≡ lined s u n → Lined g s (cursor at n false) st left (tables u e q) (tables t' e' q) r
