-- The call that reads a text: its refusals in their order, and what is left in the tables. The limits occur in the tests of refusals 4 to 8
-- only; the reading and the needs do not know them.
use Rattle.std.specs.Prelude.{Bool, cond, List, [], ◌∷◌, ℕ, leb, ltb, length}
use Rattle.std.proofs.Math.Option.{none, some}
use Rattle.reading.specs.Grammar.{Rows, Reply}
use Rattle.reading.specs.Reading.{written, rows_of, state_of}
use Rattle.reading.specs.Table.{Answer, answered, refused, Test, when, found, first, max_text, max_scope, max_level, first_high, row_width, error_width, request_width, row_words, error_words, request_words, room, filled}

-- what is lent: the text, the starting state, the level limit, and the tables as they stand
pub record Call : Type 0 where
  pub text : List ℕ
  pub scope : ℕ
  pub swallow : Bool
  pub level : ℕ
  pub rows : List ℕ
  pub errors : List ℕ
  pub requests : List ℕ

pub record Counts : Type 0 where
  pub rows : ℕ
  pub errors : ℕ
  pub requests : ℕ

-- what comes back: the answer, the end state, and the tables
pub record Outcome : Type 0 where
  pub answer : Answer Counts
  pub scope : ℕ
  pub swallow : Bool
  pub rows : List ℕ
  pub errors : List ℕ
  pub requests : List ℕ

abbrev pub reading : Call → Reply Rows
reading c = written c.text c.scope c.swallow

-- how many records of each kind the reading has
unfoldable pub needs : Call → Counts
needs c =
    record { rows = length (rows_of (reading c)); errors = length (state_of (reading c)).errors; requests = length (state_of (reading c)).requests }

unfoldable pub refusal : Call → Test
refusal c =
    first
    (when (ltb max_text (length c.text)) 1 (length c.text)
    ∷ found (first_high 0 c.text) 2
    ∷ when (ltb max_scope c.scope) 3 c.scope
    ∷ when (ltb max_level c.level) 4 c.level
    ∷ when (ltb c.level (state_of (reading c)).peak) 5 c.level
    ∷ when (ltb (room row_width c.rows) (needs c).rows) 6 (needs c).rows
    ∷ when (ltb (room error_width c.errors) (needs c).errors) 7 (needs c).errors
    ∷ when (ltb (room request_width c.requests) (needs c).requests) 8 (needs c).requests
    ∷ [])

-- a refusal's tables: 1 to 4 leave them, 5 to 8 zero them. Its end state is the starting state
abbrev pub left : ℕ → List ℕ → List ℕ
left n t = cond (leb n 4) t (filled [] t)

abbrev pub settled : Call → Test → Outcome
settled c (some (n, g)) =
    record {
      answer = refused n g;
      scope = c.scope;
      swallow = c.swallow;
      rows = left n c.rows;
      errors = left n c.errors;
      requests = left n c.requests;
    }
settled c none =
    record {
      answer = answered (needs c);
      scope = (state_of (reading c)).scope;
      swallow = (state_of (reading c)).swallow;
      rows = filled (row_words c.text (rows_of (reading c))) c.rows;
      errors = filled (error_words (state_of (reading c)).errors) c.errors;
      requests = filled (request_words (state_of (reading c)).requests) c.requests;
    }

unfoldable pub outcome : Call → Outcome
outcome c = settled c (refusal c)
