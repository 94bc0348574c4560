-- What it means that a reader agrees with a word of a list, called behind trivia that was skipped.
use Rattle.std.specs.Prelude.{Option, Some, None, List, ◌≡◌, ℕ, ◌+◌, ◌^◌, ◌<◌, drop}
use Rattle.reading.specs.Grammar.{Leaf, Parser, pick}
use Rattle.cursor.specs.Text.{Skips}
use Rattle.cursor.specs.Word.{first_word}
use Rattle.cursor.specs.Agree.{Leafs}
use Rattle.cursor.specs.declared.Cursor.{Cursor}
use Rattle.cursor.specs.declared.Skip.{Skip}
use Rattle.cursor.specs.Read.{Read}
use Rattle.word.specs.Words.{picked_of}
use Rattle.word.specs.declared.Word.{Word}

-- whatever was skipped from c to k: a row of this kind around the first of the words that stands at k
pub record Picks (kind : ℕ) (xs : List (Leaf × ℕ)) (s : List ℕ) (c : Cursor) (k : Skip) (t t' : List ℕ) (r : Read) : Type 0 where
  pub leafs : (w : Parser) → Skips w s c.at.0 c.met k → Leafs (pick kind w xs) s c t t' r

-- the same of a word that was picked, whatever text and list it was picked from
pub record Chosen (kind : ℕ) (p : Option Word) (c : Cursor) (k : Skip) (t t' : List ℕ) (r : Read) : Type 0 where
  pub picks : (s : List ℕ) (xs : List (Leaf × ℕ)) → p ≡ picked_of (first_word xs (drop k.at.0 s)) → Picks kind xs s c k t t' r

-- a word that was picked at the place i has room in a row
unfoldable pub Fitting : ℕ → Option Word → Type 0
Fitting i (Some w) = (i + w.length < 2 ^ 32) × (w.detail < 2 ^ 32)
Fitting i None = Unit {0}
