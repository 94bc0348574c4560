-- What a caller sees of a call that reads a text, in numbers: 0 or the refusal's number, what the refusal gives, the counts, the end state and
-- the tables. The calls for Rattle and for C mean the same by it.
use Rattle.std.specs.Prelude.{Bool, List, ℕ}
use Rattle.reading.specs.Table.{Answer as Answered, answered, refused}
use Rattle.reading.specs.Outcome.{Call, Counts, Outcome}
use Rattle.parser.specs.Answers.{told, end_scope, end_swallow, Answer}

-- 0 for an answer, or the refusal's number
abbrev pub code_of : {A : Type 0} → Answered A → ℕ
code_of (answered x) = 0
code_of (refused n g) = n

-- 0 for an answer, or what the refusal gives
abbrev pub given_of : {A : Type 0} → Answered A → ℕ
given_of (answered x) = 0
given_of (refused n g) = g

-- a refusal has no records
abbrev pub counts_of : Answered Counts → Counts
counts_of (answered x) = x
counts_of (refused n g) = record { rows = 0; errors = 0; requests = 0 }

pub record Seen : Type 0 where
  pub code : ℕ
  pub rows : List ℕ
  pub errors : List ℕ
  pub requests : List ℕ
  pub row_count : ℕ
  pub error_count : ℕ
  pub request_count : ℕ
  pub end_scope : ℕ
  pub end_swallow : Bool
  pub given : ℕ

-- in the order of the parameters of the call for C
abbrev pub seen : ℕ → List ℕ → List ℕ → List ℕ → ℕ → ℕ → ℕ → ℕ → Bool → ℕ → Seen
seen r t e q nt ne nq n f g =
    record { code = r; rows = t; errors = e; requests = q; row_count = nt; error_count = ne; request_count = nq; end_scope = n; end_swallow = f; given = g }

unfoldable pub exported : Outcome → Seen
exported o =
    record {
      code = code_of o.answer;
      rows = o.rows;
      errors = o.errors;
      requests = o.requests;
      row_count = (counts_of o.answer).rows;
      error_count = (counts_of o.answer).errors;
      request_count = (counts_of o.answer).requests;
      end_scope = o.scope;
      end_swallow = o.swallow;
      given = given_of o.answer;
    }

-- what the caller of `parser::read` sees: the answer by its cases, and the tables
abbrev pub answer_seen : Call → List ℕ → List ℕ → List ℕ → Answer → Seen
answer_seen c t e q r = exported (record { answer = told r; scope = end_scope c r; swallow = end_swallow c r; rows = t; errors = e; requests = q })
