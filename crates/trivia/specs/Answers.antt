-- The call that lists the items of a run: its answer in document 01's numbers, and what its two passes give.
use Rattle.std.specs.Prelude.{Option, Some, None, Result, Ok, Err, List, ◌≡◌, ℕ, length}
use Rattle.std.proofs.Math.Option.{Option as Maybe, none, some}
use Rattle.reading.specs.Items.{items, item_width, item_words, Listed}
use Rattle.reading.specs.Table.{Answer, answered, refused}
use Rattle.table.specs.declared.Pos.{Pos}
use Rattle.table.specs.Words.{Holds}
use Rattle.trivia.specs.Refusal.{number_of, gives_of}
use Rattle.trivia.specs.declared.error.ItemsError.{ItemsError}
use Rattle.trivia.specs.declared.Listing.{Listing}

-- the number of items, or the refusal's number and what it gives
abbrev pub told : Result ℕ ItemsError → Answer ℕ
told (Ok n) = answered n
told (Err e) = refused (number_of e) (gives_of e)

abbrev pub listed : Answer ℕ → List ℕ → Listed
listed a t = record { answer = a; table = t }

abbrev pub high_of : Option Pos → Maybe ℕ
high_of (Some p) = some p.0
high_of None = none

-- the items of s are counted, and in the table t as far as it has room
pub record Lists (s t : List ℕ) (r : Listing) : Type 0 where
  pub count : r.count ≡ length (items s).0
  pub ends : r.end.0 ≡ (items s).1.at
  pub holds : Holds item_width t (item_words (items s).0)
