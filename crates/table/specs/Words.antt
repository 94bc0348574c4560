-- Records in a table of words: one rule over the width of a record.
use Rattle.std.specs.Prelude.{cond, List, [], ◌∷◌, ◌++◌, ◌≡◌, ℕ, ◌+◌, ◌*◌, ◌<◌, ltb, length, get_or}
use Rattle.std.proofs.lemmas.List.Edits.{sets}
use Rattle.reading.specs.Grammar.{Row}
use Rattle.reading.specs.Table.{row_width, tlow_column, room}

-- the table with these words from the place i on
abbrev pub put : List ℕ → ℕ → List ℕ → List ℕ
put t i ws = sets t i ws

-- a record of w words with the number n, where there is room
unfoldable pub pushed : ℕ → List ℕ → ℕ → List ℕ → List ℕ
pushed w t n ws = cond (ltb n (room w t)) (put t (n * w) ws) t

-- the places of the row n anew
unfoldable pub replaced : List ℕ → ℕ → ℕ → ℕ → ℕ → List ℕ
replaced t n a b z = cond (ltb n (room row_width t)) (put t (n * row_width + tlow_column) (a ∷ b ∷ z ∷ [])) t

-- the words of a record, in the order of its columns. A row's line is zero until crate line fills it in
abbrev pub row_record : ℕ → ℕ → ℕ → ℕ → ℕ → ℕ → List ℕ
row_record k s t a z d = k ∷ s ∷ t ∷ a ∷ z ∷ d ∷ 0 ∷ []

abbrev pub record_of : Row → List ℕ
record_of x = row_record x.kind x.size x.tlow x.low x.high x.detail

-- rows without their lines, one after another
abbrev pub drafts : List Row → List ℕ
drafts [] = []
drafts (x ∷ xs) = record_of x ++ drafts xs

abbrev pub error_record : ℕ → ℕ → ℕ → List ℕ
error_record c a z = c ∷ a ∷ z ∷ []

abbrev pub request_record : ℕ → ℕ → List ℕ
request_record a z = a ∷ z ∷ []

-- the table holds these words, which are records of w words, as far as it has room for whole records
pub record Holds (w : ℕ) (t ws : List ℕ) : Type 0 where
  pub word : (i : ℕ) → i < length ws → i < room w t * w → get_or t i 0 ≡ get_or ws i 0

-- the same of rows without their lines
abbrev pub HoldsRows : List ℕ → List Row → Type 0
HoldsRows t rs = Holds row_width t (drafts rs)
