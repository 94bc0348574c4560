-- The refusals of a reading in document 01's numbers, and what each gives.
use Rattle.std.specs.Prelude.{ℕ}
use Rattle.parser.specs.declared.error.ReadError.{ReadError}
use Rattle.parser.specs.declared.error.ReadError.TheVariants.{TooLong, HighByte, ScopeTooLarge, LevelTooLarge, TooDeep, NoRoomForRows, NoRoomForErrors, NoRoomForRequests}

abbrev pub number_of : ReadError → ℕ
number_of (TooLong n) = 1
number_of (HighByte n) = 2
number_of (ScopeTooLarge n) = 3
number_of (LevelTooLarge n) = 4
number_of (TooDeep n) = 5
number_of (NoRoomForRows n) = 6
number_of (NoRoomForErrors n) = 7
number_of (NoRoomForRequests n) = 8

abbrev pub gives_of : ReadError → ℕ
gives_of (TooLong n) = n
gives_of (HighByte n) = n
gives_of (ScopeTooLarge n) = n
gives_of (LevelTooLarge n) = n
gives_of (TooDeep n) = n
gives_of (NoRoomForRows n) = n
gives_of (NoRoomForErrors n) = n
gives_of (NoRoomForRequests n) = n
