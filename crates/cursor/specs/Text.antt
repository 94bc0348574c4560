-- Places of a text, and what it means that a function skips what a parser without rows reads.
use Rattle.std.specs.Prelude.{Bool, ◌||◌, List, [], ◌≡◌, ℕ, ◌≤◌, length, drop}
use Rattle.reading.specs.Grammar.{Rows, Input, Rule, Parser}
use Rattle.reading.specs.Summary.{fits, Scan, scan}
use Rattle.cursor.specs.declared.Cursor.{Cursor}
use Rattle.cursor.specs.declared.Skip.{Skip}

-- the input at a place of a text
abbrev pub here : List ℕ → ℕ → Input
here s i = record { at = i; left = drop i s }

abbrev pub cursor : ℕ → ℕ → Bool → Cursor
cursor i n m = record { at = record { 0 = i }; count = record { 0 = n }; met = m }

abbrev pub skip : ℕ → Bool → Skip
skip i m = record { at = record { 0 = i }; met = m }

-- from the place i, what g reads ends at r's place, and r's flag adds to `met` whether an open comment was in it
pub record Skips (g : Parser) (s : List ℕ) (i : ℕ) (met : Bool) (r : Skip) : Type 0 where
  pub open? : Bool
  pub is : (τ : Rule → Scan Rows) (l : ℕ) → scan τ g l (here s i) ≡ fits [] (here s r.at.0) open? 0
  pub noted : r.met ≡ met || open?
  pub on : i ≤ r.at.0
  pub within : r.at.0 ≤ length s
