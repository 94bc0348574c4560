-- A reader that is lent the tables in the struct.
use mathlib.Core.List.{List}
use Prim.Native.Nat.{ℕ}
use Rattle.reading.specs.Grammar.{Parser}
use Rattle.cursor.specs.declared.Cursor.{Cursor}
use Rattle.state.specs.declared.State.{State as Counts}
use Rattle.state.specs.declared.Tables.{Tables as Lent}
use Rattle.state.specs.Done.{Done}
use Rattle.state.specs.Acts.{Does}
use Rattle.state.specs.Lent.{seen, Same, DoesIn}

pub does_in : {g : Parser} {s : List ℕ} {c : Cursor} {st : Counts} {left : ℕ} {T T' : Lent} {r : Done} → Same T T' → Does g s c st left (seen T) (seen T') r → DoesIn g s c st left T T' r
does_in h a = record { same = h; does = a }
