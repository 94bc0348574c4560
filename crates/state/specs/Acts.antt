-- What it means that a reader with the state agrees with what a parser does. The code keeps counts of errors and requests, the written reading
-- the errors and requests themselves: a contract speaks of every written state that the code's state stands for.
use Rattle.std.specs.Prelude.{Bool, true, false, cond, List, [], ◌++◌, ◌≡◌, ℕ, ◌+◌, ◌*◌, ◌≤◌, ltb, length, Ok, Err}
use Rattle.reading.specs.Kind.{charᵏ}
use Rattle.reading.specs.Grammar.{Row, Rows, State, Error, Request, Reply, ok, err, Rule, Parser, Act, closed, parse}
use Rattle.reading.specs.Reading.{reads}
use Rattle.reading.specs.Table.{error_width, request_width, error_words, request_words, max_text, max_scope}
use Rattle.table.specs.Words.{pushed, error_record, request_record, Holds, HoldsRows}
use Rattle.cursor.specs.Text.{here, cursor}
use Rattle.cursor.specs.declared.Cursor.{Cursor}
use Rattle.state.specs.declared.State.{State as Counts}
use Rattle.state.specs.Done.{Done}
use Rattle.cursor.specs.declared.Stop.TheVariants.{Miss, Deep}

-- States and tables --------------------------------------------------------

-- what the code keeps of a state
abbrev pub counts : State → Counts
counts w = record { scope = w.scope; swallow = w.swallow; errors = length w.errors; requests = length w.requests }

-- what a state has recorded
pub record Log : Type 0 where
  pub errors : List Error
  pub requests : List Request

abbrev pub log : State → Log
log w = record { errors = w.errors; requests = w.requests }

-- the three lent tables
pub record Tables : Type 0 where
  pub rows : List ℕ
  pub errors : List ℕ
  pub requests : List ℕ

abbrev pub tables : List ℕ → List ℕ → List ℕ → Tables
tables t e q = record { rows = t; errors = e; requests = q }

-- the tables hold a log, as far as they have room
pub record Logged (T : Tables) (b : Log) : Type 0 where
  pub errors : Holds error_width T.errors (error_words b.errors)
  pub requests : Holds request_width T.requests (request_words b.requests)

-- Answers ------------------------------------------------------------------

-- the rules, with fuel for the text
unfoldable pub rules : List ℕ → Rule → Act Rows
rules s = reads (length s)

abbrev pub deep_or : Bool → Done → Done
deep_or true r = Err Deep
deep_or false r = r

-- the answer that a reply asks for, at a level limit, after `base` rows
unfoldable pub done_of : ℕ → ℕ → Reply Rows → Done
done_of lim base (ok v q w) = deep_or (ltb lim w.peak) (Ok (cursor q.at (base + length v) false, counts w))
done_of lim base (err w) = deep_or (ltb lim w.peak) (Err (Miss (counts w)))

unfoldable pub state_after : Reply Rows → State
state_after (ok v q w) = w
state_after (err w) = w

unfoldable pub rows_read : Reply Rows → Rows
rows_read (ok v q w) = v
rows_read (err w) = []

-- A reader answers r and leaves the tables T'. T held, behind `base` older rows, those of acc, which this reader has pushed so far, and the
-- errors and requests of b; T' holds, behind the same older rows, those of the reply, and its errors and requests. Rows are given up with an
-- attempt, errors and requests are not. Nothing is said of tables that are given up as too deep.
pub record Acts (o : Reply Rows) (lim base : ℕ) (acc : Rows) (b : Log) (T T' : Tables) (r : Done) : Type 0 where
  pub answer : r ≡ done_of lim base o
  pub rows : (state_after o).peak ≤ lim → (pre : Rows) → length pre ≡ base → HoldsRows T.rows (pre ++ acc) → HoldsRows T'.rows (pre ++ rows_read o)
  pub logged : (state_after o).peak ≤ lim → Logged T b → Logged T' (log (state_after o))

-- the same for whatever is done to a state, from every state that st stands for
pub record Doing (f : State → Reply Rows) (lim base : ℕ) (st : Counts) (T T' : Tables) (r : Done) : Type 0 where
  pub acts : (w : State) → counts w ≡ st → w.peak ≤ lim → Acts (f w) lim base [] (log w) T T' r

-- and for a parser at a place of a text
pub record Acting (g : Parser) (s : List ℕ) (l lim i base : ℕ) (st : Counts) (T T' : Tables) (r : Done) : Type 0 where
  pub doing : Doing (λ w. parse (rules s) g l (here s i) w) lim base st T T' r

-- a function does what a parser does: at every level, with `left` more levels to go
pub record Does (g : Parser) (s : List ℕ) (c : Cursor) (st : Counts) (left : ℕ) (T T' : Tables) (r : Done) : Type 0 where
  pub acting : (l : ℕ) → Acting g s l (l + left) c.at.0 c.count.0 st T T' r

-- the same for a function that is lent no request table
pub record Tells (g : Parser) (s : List ℕ) (c : Cursor) (st : Counts) (left : ℕ) (t t' e e' : List ℕ) (r : Done) : Type 0 where
  pub does : (q : List ℕ) → Does g s c st left (tables t e q) (tables t' e' q) r

-- and enters no level
pub record TellsLeaf (g : Parser) (s : List ℕ) (c : Cursor) (st : Counts) (t t' e e' : List ℕ) (r : Done) : Type 0 where
  pub does : (left : ℕ) (q : List ℕ) → Does g s c st left (tables t e q) (tables t' e' q) r

-- the row of a block's opening brace, between its trivia's place and the brace's
abbrev pub opening : ℕ → ℕ → Row
opening tlow low = record { kind = charᵏ; size = 1; tlow = tlow; low = low; high = low + 1; detail = 123 }

-- such a function reads the end of a block with the opening brace o: its brace behind the trivia w, or what block() supplies
pub record Closes (w : Parser) (o : Row) (s : List ℕ) (c : Cursor) (st : Counts) (t t' e e' : List ℕ) (r : Done) : Type 0 where
  pub doing : (l left : ℕ) (q : List ℕ)
      → Doing (λ v. closed o (here s c.at.0) (parse (rules s) w l (here s c.at.0) v)) (l + left) c.count.0 st (tables t e q) (tables t' e' q) r

-- Where a reader may be called ---------------------------------------------

-- the errors, and one more if another would be recorded: an open comment's report leaves this as it is, any other adds one
unfoldable pub charge : Counts → ℕ
charge st = cond st.swallow st.errors (st.errors + 1)

-- the text is short enough; at most four rows for each byte behind, and k more; an error, a request and a scope number for each byte
pub record Fit (k : ℕ) (s : List ℕ) (c : Cursor) (st : Counts) : Type 0 where
  pub small : length s ≤ max_text
  pub within : c.at.0 ≤ length s
  pub few : c.count.0 ≤ 4 * c.at.0 + k
  pub charged : charge st ≤ c.at.0 + 1
  pub scopes : st.scope ≤ max_scope + c.at.0
  pub requests : st.requests ≤ c.at.0

-- Reports ------------------------------------------------------------------

-- report_error: an error that meets the flag clears it and is lost; so afterwards there are as many errors as were charged
unfoldable pub told : Counts → Counts
told st = record { scope = st.scope; swallow = false; errors = charge st; requests = st.requests }

unfoldable pub told_in : Counts → Error → List ℕ → List ℕ
told_in st x e = cond st.swallow e (pushed error_width e st.errors (error_record x.code x.low x.high))

pub record Reported (x : Error) (st st' : Counts) (e e' : List ℕ) : Type 0 where
  pub state : st' ≡ told st
  pub table : e' ≡ told_in st x e

-- an open comment's, if one was met: the flag is set afterwards
unfoldable pub noting : Bool → Counts → Counts
noting met st = cond met (record { scope = st.scope; swallow = true; errors = charge st; requests = st.requests }) st

pub record Noted (n : ℕ) (met : Bool) (st st' : Counts) (e e' : List ℕ) : Type 0 where
  pub state : st' ≡ noting met st
  pub table : e' ≡ cond met (told_in st (record { code = 1; low = n; high = n }) e) e

pub record Requested (x : Request) (st st' : Counts) (q q' : List ℕ) : Type 0 where
  pub state : st' ≡ record { scope = st.scope; swallow = st.swallow; errors = st.errors; requests = st.requests + 1 }
  pub table : q' ≡ pushed request_width q st.requests (request_record x.low x.high)
