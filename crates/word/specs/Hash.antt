-- Words of three letters as numbers, and where they stand in a table.
use Rattle.std.specs.Prelude.{Bool, true, false, List, [], ◌∷◌, ℕ, ◌+◌, ◌*◌, ◌/◌, ◌%◌, eqb, get_or}
use Rattle.reading.specs.Grammar.{Leaf, one, run0, run1, tag, tag_no_case, comment_rest}

-- three letters as one number
abbrev pub pack : ℕ → ℕ → ℕ → ℕ
pack a b c = a * 65536 + b * 256 + c

-- where letters stand in a table of 64
abbrev pub hash : ℕ → ℕ
hash n = n * 2850321 / 524288 % 64

-- the bytes of a word
abbrev pub spelt : Leaf → List ℕ
spelt (one f) = []
spelt (run0 f) = []
spelt (run1 f) = []
spelt (tag w) = w
spelt (tag_no_case w) = w
spelt comment_rest = []

abbrev pub letter : Leaf × ℕ → ℕ → ℕ
letter x k = get_or (spelt x.0) k 0

abbrev pub letters : Leaf × ℕ → ℕ
letters x = pack (letter x 0) (letter x 1) (letter x 2)

abbrev pub this_or : Bool → ℕ → ℕ → ℕ
this_or true d e = d
this_or false d e = e

-- the first word with this hash, its detail before its letters; 0 where there is none
unfoldable pub entry_at : List (Leaf × ℕ) → ℕ → ℕ
entry_at [] h = 0
entry_at (x ∷ xs) h = this_or (eqb (hash (letters x)) h) (x.1 * 16777216 + letters x) (entry_at xs h)

-- the detail of the first word with these letters, 0 where there is none
unfoldable pub detail_of : List (Leaf × ℕ) → ℕ → ℕ
detail_of [] n = 0
detail_of (x ∷ xs) n = this_or (eqb (letters x) n) x.1 (detail_of xs n)
