-- What the public calls answer, and the lent tables' words: document 01, "A reading and its room".
use Rattle.std.specs.Prelude.{Bool, true, false, cond, List, [], ◌∷◌, ◌++◌, ℕ, zero, suc, ◌+◌, ◌-◌, ◌/◌, leb, eqb, length, take}
use Rattle.std.proofs.Math.Option.{Option, none, some}
use Rattle.reading.specs.Grammar.{Row, Error, Request}

-- a value, or a refusal: its number and what it gives
pub data Answer (A : Type 0) : Type 0 where
  answered : A → Answer A
  refused : ℕ → ℕ → Answer A

-- a test for a refusal, and the first refusal of a list of tests
abbrev pub Test : Type 0
Test = Option (ℕ × ℕ)

abbrev pub when : Bool → ℕ → ℕ → Test
when true n g = some (n, g)
when false n g = none

abbrev pub found : Option ℕ → ℕ → Test
found none n = none
found (some g) n = some (n, g)

abbrev pub first : List Test → Test
first [] = none
first (none ∷ ts) = first ts
first (some x ∷ ts) = some x

-- the limits that document 01 sets: bytes of a text, the starting scope number, the level limit
abbrev pub max_text : ℕ
max_text = 65536

abbrev pub max_scope : ℕ
max_scope = 1000000

abbrev pub max_level : ℕ
max_level = 64

-- refusal 2: the first place, from i on, of a byte of 128 or more
abbrev pub first_high : ℕ → List ℕ → Option ℕ
first_high i [] = none
first_high i (b ∷ t) = elim (leb 128 b) [ true ↦ some i | false ↦ first_high (suc i) t ]

-- the line of a place: 1 plus the number of LF bytes of the text before it
abbrev pub line_feeds : List ℕ → ℕ
line_feeds [] = 0
line_feeds (b ∷ t) = cond (eqb b 10) (suc (line_feeds t)) (line_feeds t)

unfoldable pub line : List ℕ → ℕ → ℕ
line text place = 1 + line_feeds (take place text)

-- the columns of a row, in their order: how many there are, where those stand that are asked for by their place, and the words. The line is no
-- part of the reading: it is told by the text and the row's low.
abbrev pub row_width : ℕ
row_width = 7

abbrev pub size_column : ℕ
size_column = 1

abbrev pub tlow_column : ℕ
tlow_column = 2

abbrev pub low_column : ℕ
low_column = 3

abbrev pub line_column : ℕ
line_column = 6

abbrev pub columns : List ℕ → Row → List ℕ
columns text r = r.kind ∷ r.size ∷ r.tlow ∷ r.low ∷ r.high ∷ r.detail ∷ line text r.low ∷ []

-- the words of the records, one after another
abbrev pub error_width : ℕ
error_width = 3

abbrev pub request_width : ℕ
request_width = 2

abbrev pub row_words : List ℕ → List Row → List ℕ
row_words text [] = []
row_words text (r ∷ rs) = columns text r ++ row_words text rs

abbrev pub error_words : List Error → List ℕ
error_words [] = []
error_words (e ∷ es) = e.code ∷ e.low ∷ e.high ∷ error_words es

abbrev pub request_words : List Request → List ℕ
request_words [] = []
request_words (q ∷ qs) = q.low ∷ q.high ∷ request_words qs

-- how many records of this width a table holds
abbrev pub room : ℕ → List ℕ → ℕ
room w t = length t / w

abbrev pub zeros : ℕ → List ℕ
zeros zero = []
zeros (suc n) = 0 ∷ zeros n

-- a table of the same length that holds the words, and zeros behind them
abbrev pub filled : List ℕ → List ℕ → List ℕ
filled ws t = ws ++ zeros (length t - length ws)
