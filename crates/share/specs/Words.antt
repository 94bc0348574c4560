-- The two words of a text from its reading: the trivia bytes of its top rows, and its length.
use Rattle.std.specs.Prelude.{cond, List, [], ℕ, ◌+◌, ◌*◌, ◌-◌, length, get_or}
use Rattle.reading.specs.Items.{Listed}
use Rattle.reading.specs.Table.{Answer, answered, refused, row_width, tlow_column, low_column}
use Rattle.rows.specs.Tops.{top_rows, tops_listed}
use Rattle.share.specs.Shares.{sum, wrong}

-- the trivia bytes of a row: low less tlow, or 0 where low is before tlow
abbrev pub trivia_at : List ℕ → ℕ → ℕ
trivia_at rows r = get_or rows (r * row_width + low_column) 0 - get_or rows (r * row_width + tlow_column) 0

-- of some rows together
abbrev pub trivia_sum : List ℕ → List ℕ → ℕ
trivia_sum rows rs = sum (λ i. trivia_at rows (get_or rs i 0)) (length rs)

pub record Text : Type 0 where
  pub trivia : ℕ
  pub length : ℕ

-- an answer, and the lent table of top rows afterwards
pub record Told : Type 0 where
  pub answer : Answer Text
  pub table : List ℕ

-- 28 as for a list that has this text alone, so it gives 0
abbrev pub text_answer : ℕ → ℕ → Answer Text
text_answer t l = cond (wrong t l) (refused 28 0) (answered (record { trivia = t; length = l }))

-- the top rows; none if there is no list of them
abbrev pub rows_of : Answer (List ℕ) → List ℕ
rows_of (answered rs) = rs
rows_of (refused k g) = []

-- what `tops` refuses is refused first
abbrev pub unless_refused : Answer ℕ → Answer Text → Answer Text
unless_refused (answered n) a = a
unless_refused (refused k g) a = refused k g

-- the table is what `tops` leaves
abbrev pub told_over : Listed → Answer Text → Told
told_over x a = record { answer = unless_refused x.answer a; table = x.table }

-- the trivia of the top rows, and the length
unfoldable pub text_words : List ℕ → List ℕ → ℕ → List ℕ → Told
text_words text rows count roots = told_over (tops_listed rows count roots) (text_answer (trivia_sum rows (rows_of (top_rows rows count))) (length text))
