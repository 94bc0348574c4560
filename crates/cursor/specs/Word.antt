-- The first of some words that stands at a place.
use Rattle.std.specs.Prelude.{List, [], ◌∷◌, ℕ}
use Rattle.std.proofs.Math.Option.{Option, none, some}
use Rattle.reading.specs.Grammar.{Leaf, taken}

-- a word with this detail, if it takes some bytes, else a later one
abbrev pub word_or : ℕ → Option ℕ → Option (ℕ × ℕ) → Option (ℕ × ℕ)
word_or d none o = o
word_or d (some n) o = some (n, d)

-- the length and the detail of the first word that fits
unfoldable pub first_word : List (Leaf × ℕ) → List ℕ → Option (ℕ × ℕ)
first_word [] t = none
first_word (x ∷ xs) t = word_or x.1 (taken x.0 t) (first_word xs t)
