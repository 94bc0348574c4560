-- Refusals of the call that lists items: their numbers in document 01, and what they give.
use Rattle.std.specs.Prelude.{ℕ}
use Rattle.trivia.specs.declared.error.ItemsError.{ItemsError}
use Rattle.trivia.specs.declared.error.ItemsError.TheVariants.{TooLong, HighByte, NoItem, NoRoom}

abbrev pub number_of : ItemsError → ℕ
number_of (TooLong n) = 1
number_of (HighByte n) = 2
number_of (NoItem n) = 11
number_of (NoRoom n) = 12

abbrev pub gives_of : ItemsError → ℕ
gives_of (TooLong n) = n
gives_of (HighByte n) = n
gives_of (NoItem n) = n
gives_of (NoRoom n) = n
