-- What a reader with the state answers.
use Rattle.std.specs.Prelude.{Result}
use Rattle.cursor.specs.declared.Cursor.{Cursor}
use Rattle.cursor.specs.declared.Stop.{Stop}
use Rattle.state.specs.declared.State.{State}

abbrev pub Done : Type 0
Done = Result (Cursor × State) (Stop State)
