-- What a reader answers.
use Rattle.std.specs.Prelude.{Bool, Result}
use Rattle.cursor.specs.declared.Cursor.{Cursor}
use Rattle.cursor.specs.declared.Stop.{Stop}

abbrev pub Read : Type 0
Read = Result Cursor (Stop Bool)
