-- The items of one trivia run: the text is the whole run.
use Rattle.std.specs.Prelude.{cond, List, [], ◌∷◌, ℕ, leb, ltb, length}
use Rattle.std.proofs.Math.Option.{Option, none, some}
use Rattle.reading.specs.Byte.{blank}
use Rattle.reading.specs.Grammar.{Input, Parser, leaf, run1, comment_rest, unterminated, ◌▸◌}
use Rattle.reading.specs.Rules.{exactly, cpp_comment, new_line}
use Rattle.reading.specs.Summary.{Summary, fits, fails, scan, scans}
use Rattle.reading.specs.Table.{Answer, answered, refused, Test, when, found, first, max_text, first_high, room, filled}

pub record Item : Type 0 where
  pub kind : ℕ
  pub low : ℕ
  pub high : ℕ

-- multiline_trivia's alternatives in their order; c_comment is two of them, closed and open
unfoldable pub kinds : List (ℕ × Parser)
kinds =
    (1, leaf (run1 blank))
    ∷ (3, exactly "/*" ▸ leaf comment_rest)
    ∷ (5, exactly "/*" ▸ unterminated)
    ∷ (4, cpp_comment)
    ∷ (2, new_line)
    ∷ []

-- the first that fits: its kind, and the input behind it
abbrev pub item_or : {A : Type 0} → ℕ → Summary A → Option (ℕ × Input) → Option (ℕ × Input)
item_or k (fits a q b j) o = some (k, q)
item_or k (fails b j) o = o

abbrev pub item_of : List (ℕ × Parser) → Input → Option (ℕ × Input)
item_of [] p = none
item_of (x ∷ xs) p = item_or x.0 (scan (scans 0) x.1 0 p) (item_of xs p)

unfoldable pub item : Input → Option (ℕ × Input)
item p = item_of kinds p

-- items, as long as one starts; and where none does. Each takes a byte at least, so a round for each byte that is left is enough
abbrev pub more_items : Input → Option (ℕ × Input) → (Input → List Item × Input) → List Item × Input
more_items p none f = ([], p)
more_items p (some (k, q)) f = (record { kind = k; low = p.at; high = q.at } ∷ (f q).0, (f q).1)

abbrev pub items_from : List ℕ → Input → List Item × Input
items_from [] p = ([], p)
items_from (b ∷ f) p = more_items p (item p) λ q. items_from f q

unfoldable pub items : List ℕ → List Item × Input
items t = items_from t (record { at = 0; left = t })

abbrev pub item_width : ℕ
item_width = 3

abbrev pub item_words : List Item → List ℕ
item_words [] = []
item_words (x ∷ xs) = x.kind ∷ x.low ∷ x.high ∷ item_words xs

-- the call: the text, and the table as it stands; how many items, and the table afterwards
pub record Listed : Type 0 where
  pub answer : Answer ℕ
  pub table : List ℕ

unfoldable pub item_refusal : List ℕ → List ℕ → Test
item_refusal t table =
    first
    (when (ltb max_text (length t)) 1 (length t)
    ∷ found (first_high 0 t) 2
    ∷ when (ltb (items t).1.at (length t)) 11 (items t).1.at
    ∷ when (ltb (room item_width table) (length (items t).0)) 12 (length (items t).0)
    ∷ [])

-- 1, 2 and 11 leave the table, 12 zeroes it
abbrev pub item_settled : List ℕ → List ℕ → Test → Listed
item_settled t table (some (n, g)) = record { answer = refused n g; table = cond (leb n 11) table (filled [] table) }
item_settled t table none = record { answer = answered (length (items t).0); table = filled (item_words (items t).0) table }

unfoldable pub trivia_items : List ℕ → List ℕ → Listed
trivia_items t table = item_settled t table (item_refusal t table)
