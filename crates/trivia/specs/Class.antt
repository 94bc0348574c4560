-- The classes of bytes by their numbers, and the table that has a bit for each.
use Rattle.std.specs.Prelude.{Bool, true, false, not, cond, ◌||◌, List, [], ◌∷◌, ℕ, zero, suc, ◌+◌, ◌*◌, ◌/◌, ◌%◌, ◌^◌, eqb, get_or}
use Rattle.reading.specs.Byte.{is, blank, letter, digit, alphanumeric, hex_digit, binary_digit, line_end, ends_error, ends_error_in_block, ends_piece, run}
use Rattle.trivia.specs.declared.class.Class.{Class}
use Rattle.trivia.specs.declared.class.Class.TheVariants.{Blank, Letter, Digit, HexDigit, BinaryDigit, EndsError, EndsPiece, EndsErrorInBlock}

-- in the order of the table's bits
abbrev pub classes : List (ℕ → Bool)
classes = blank ∷ letter ∷ digit ∷ hex_digit ∷ binary_digit ∷ ends_error ∷ ends_piece ∷ ends_error_in_block ∷ []

-- a class's place among them
abbrev pub bit_of : Class → ℕ
bit_of Blank = 0
bit_of Letter = 1
bit_of Digit = 2
bit_of HexDigit = 3
bit_of BinaryDigit = 4
bit_of EndsError = 5
bit_of EndsPiece = 6
bit_of EndsErrorInBlock = 7

abbrev pub member : ℕ → ℕ → Bool
member c = get_or classes c (λ b. false)

-- what a run is of: the bytes of a class, or those that are not of it
abbrev pub among : ℕ → Bool → ℕ → Bool
among c true = member c
among c false = λ b. not (member c b)

-- what a name begins with and goes on with: letters, then digits too, and the byte a in either place
abbrev pub starts : ℕ → ℕ → Bool
starts a b = letter b || is a b

abbrev pub goes : ℕ → ℕ → Bool
goes a b = alphanumeric b || is a b

-- a line comment's text
abbrev pub in_line : ℕ → Bool
in_line b = not (line_end b)

-- a byte of one class and a run of another: how many bytes, 0 where the first byte is not of the class
abbrev pub name_run : (ℕ → Bool) → (ℕ → Bool) → List ℕ → ℕ
name_run f g [] = 0
name_run f g (b ∷ t) = cond (f b) (suc (run g t)) 0

-- The table ----------------------------------------------------------------

abbrev pub one_if : Bool → ℕ
one_if true = 1
one_if false = 0

-- bit c of a byte's mask says whether it is of the class c
abbrev pub mask : List (ℕ → Bool) → ℕ → ℕ
mask [] b = 0
mask (f ∷ fs) b = one_if (f b) + 2 * mask fs b

abbrev pub bit : ℕ → ℕ → Bool
bit m c = eqb (m / 2 ^ c % 2) 1

-- the masks of n bytes, from b on; the table has those of all bytes
abbrev pub masks_from : ℕ → ℕ → List ℕ
masks_from zero b = []
masks_from (suc n) b = mask classes b ∷ masks_from n (suc b)

unfoldable pub table : List ℕ
table = masks_from 256 0
