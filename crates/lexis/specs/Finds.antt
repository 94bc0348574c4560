-- What it means that a function finds where something without rows and trivia ends.
use Rattle.std.specs.Prelude.{Bool, List, ℕ, Ok, Err, Option, Some, None}
use Rattle.reading.specs.Grammar.{Parser, ◌▸◌, ◌or◌, many0}
use Rattle.reading.specs.Rules.{byte, identifier_scope, identifier_name}
use Rattle.cursor.specs.Text.{cursor}
use Rattle.cursor.specs.Agree.{Reading}
use Rattle.cursor.specs.Read.{Read}
use Rattle.cursor.specs.declared.Stop.TheVariants.{Miss}
use Rattle.table.specs.declared.Pos.{Pos}

-- the answer of a reader that finds it, after `met` and `base` rows
unfoldable pub read_of : ℕ → Bool → Option Pos → Read
read_of base met (Some p) = Ok (cursor p.0 base met)
read_of base met None = Err (Miss met)

-- at the place i of a text g reads to where r says, whatever was read before; or it does not fit
pub record Finds (g : Parser) (s : List ℕ) (i : ℕ) (r : Option Pos) : Type 0 where
  pub reading : (l lim : ℕ) (met : Bool) (base : ℕ) (t : List ℕ) → Reading g s l lim i met base t t (read_of base met r)

-- identifier_path's parts: an identifier, one behind a dot, and those with dots between them
abbrev pub identifier : Parser
identifier = identifier_scope or identifier_name

abbrev pub dotted : Parser
dotted = byte "." ▸ identifier

abbrev pub identifiers : Parser
identifiers = identifier ▸ many0 dotted
