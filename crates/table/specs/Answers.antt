-- What a walk's answer says in document 01's numbers.
use Rattle.std.specs.Prelude.{Result, Ok, Err}
use Rattle.reading.specs.Table.{Answer, answered, refused}
use Rattle.reading.specs.Walk.{Subtree}
use Rattle.table.specs.declared.Subtree.{Subtree as Found}
use Rattle.table.specs.declared.NoSubtree.{NoSubtree}

abbrev pub told : Result Found NoSubtree → Answer Subtree
told (Ok x) = answered (record { root = x.root.0; before = x.before })
told (Err e) = refused 13 e.0
