-- Number types, and the answers of number::value, in document 01's numbers.
use Rattle.std.specs.Prelude.{◌≡◌, cond, ℕ, eqb, Result, Ok, Err, IfErr}
use Rattle.std.proofs.Math.Option.{Option, none, some}
use Rattle.reading.specs.Number.{Base, hexadecimal, decimal, binary}
use Rattle.reading.specs.Table.{Answer, answered, refused}
use Rattle.number.specs.declared.NumberType.{NumberType}
use Rattle.number.specs.declared.NumberType.TheVariants.{Hex, Dec, Bin}
use Rattle.number.specs.declared.UnknownType.{UnknownType}
use Rattle.number.specs.declared.ValueError.{ValueError}
use Rattle.number.specs.declared.ValueError.TheVariants.{NotANumber, TooLarge}

abbrev pub base_of : NumberType → Base
base_of Hex = hexadecimal
base_of Dec = decimal
base_of Bin = binary

abbrev pub type_number : NumberType → ℕ
type_number Hex = 1
type_number Dec = 2
type_number Bin = 3

-- the types as the details of rows of kind 49 have them
unfoldable pub base_numbered : ℕ → Option Base
base_numbered n = cond (eqb n 1) (some hexadecimal) (cond (eqb n 2) (some decimal) (cond (eqb n 3) (some binary) none))

abbrev pub base_told : Result NumberType UnknownType → Option Base
base_told (Ok t) = some (base_of t)
base_told (Err e) = none

-- what a number is tried as: the type that it has, or it back
pub record TypeOf (n : ℕ) (r : Result NumberType UnknownType) : Type 0 where
  pub base : base_told r ≡ base_numbered n
  pub back : IfErr r (λ e. e.0 ≡ n)

abbrev pub refusal_number : ValueError → ℕ
refusal_number NotANumber = 10
refusal_number TooLarge = 9

abbrev pub told : Result ℕ ValueError → Answer ℕ
told (Ok v) = answered v
told (Err e) = refused (refusal_number e) 0
