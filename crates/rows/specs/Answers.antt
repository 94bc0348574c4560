-- What the answers of the calls about top rows say in document 01's numbers.
use Rattle.std.specs.Prelude.{List, ℕ, Result, Ok, Err}
use Rattle.reading.specs.Items.{Listed}
use Rattle.reading.specs.Table.{Answer, answered, refused}
use Rattle.table.specs.declared.NoSubtree.{NoSubtree as Refused}
use Rattle.rows.specs.declared.TopsError.{TopsError}
use Rattle.rows.specs.declared.TopsError.TheVariants.{NoSubtree, NoRoom}

abbrev pub told_count : Result ℕ Refused → Answer ℕ
told_count (Ok n) = answered n
told_count (Err e) = refused 13 e.0

abbrev pub number_of : TopsError → ℕ
number_of (NoSubtree e) = 13
number_of (NoRoom n) = 6

abbrev pub gives_of : TopsError → ℕ
gives_of (NoSubtree e) = e.0
gives_of (NoRoom n) = n

abbrev pub told_tops : Result ℕ TopsError → Answer ℕ
told_tops (Ok n) = answered n
told_tops (Err e) = refused (number_of e) (gives_of e)

abbrev pub listed : Answer ℕ → List ℕ → Listed
listed a t = record { answer = a; table = t }
