-- What the call's answer says in document 01's numbers, and when a call meets its definition.
use Rattle.std.specs.Prelude.{Bool, List, [], ◌≡◌, ℕ, ◌≤◌, length, Result, Ok, Err}
use Rattle.std.proofs.Math.Option.{none}
use Rattle.reading.specs.Reading.{written, start}
use Rattle.reading.specs.Table.{Answer as Answered, answered, refused, first_high, filled, max_text, max_scope, max_level}
use Rattle.reading.specs.Outcome.{Call, Counts, outcome}
use Rattle.line.specs.Lines.{lined}
use Rattle.cursor.specs.declared.Cursor.{Cursor}
use Rattle.state.specs.Acts.{Tables, tables, log, Acts}
use Rattle.state.specs.declared.State.{State as Kept}
use Rattle.state.specs.declared.Tables.{Tables as Lent}
use Rattle.state.specs.Lent.{Same}
use Rattle.state.specs.Done.{Done}
use Rattle.parser.specs.Refusal.{number_of, gives_of}
use Rattle.parser.specs.declared.Reading.{Reading}
use Rattle.parser.specs.declared.error.ReadError.{ReadError}

abbrev pub Answer : Type 0
Answer = Result Reading ReadError

abbrev pub told : Answer → Answered Counts
told (Ok x) = answered (record { rows = x.rows; errors = x.errors; requests = x.requests })
told (Err e) = refused (number_of e) (gives_of e)

-- the end state; a refusal's is the starting state
abbrev pub end_scope : Call → Answer → ℕ
end_scope c (Ok x) = x.scope
end_scope c (Err e) = c.scope

abbrev pub end_swallow : Call → Answer → Bool
end_swallow c (Ok x) = x.swallow
end_swallow c (Err e) = c.swallow

abbrev pub call : List ℕ → ℕ → Bool → ℕ → List ℕ → List ℕ → List ℕ → Call
call s n f l t e q = record { text = s; scope = n; swallow = f; level = l; rows = t; errors = e; requests = q }

-- the answer, the end state and every word of the tables are the outcome's
pub record Meets (c : Call) (t e q : List ℕ) (r : Answer) : Type 0 where
  pub outcome_is : record { answer = told r; scope = end_scope c r; swallow = end_swallow c r; rows = t; errors = e; requests = q } ≡ outcome c

pub record Cleared (T T' : Tables) : Type 0 where
  pub rows : T'.rows ≡ filled [] T.rows
  pub errors : T'.errors ≡ filled [] T.errors
  pub requests : T'.requests ≡ filled [] T.requests

-- what is done behind the reading, in the tables that it was lent
pub record Settles (s : List ℕ) (n : ℕ) (f : Bool) (l : ℕ) (T T' : Lent) (r : Answer) : Type 0 where
  pub same : Same T T'
  pub meets : Meets (call s n f l T.rows.now T.errors.now T.requests.now) T'.rows.now T'.errors.now T'.requests.now r

-- nothing of 1 to 4 is refused, and this is what reading came to, with these tables: the row table is a draft with the lines of its rows
pub record ReadSo (s : List ℕ) (n : ℕ) (f : Bool) (l : ℕ) (r : Done) (T : Tables) : Type 0 where
  pub short : length s ≤ max_text
  pub plain : first_high 0 s ≡ none
  pub scope : n ≤ max_scope
  pub level : l ≤ max_level
  pub t₀ : List ℕ
  pub e₀ : List ℕ
  pub q₀ : List ℕ
  pub draft : List ℕ
  pub lines : (d : Cursor) (x : Kept) → r ≡ Ok (d, x) → T.rows ≡ lined s draft d.count.0
  pub acts : Acts (written s n f) l 0 [] (log (start n f)) (tables t₀ e₀ q₀) (tables draft T.errors T.requests) r
