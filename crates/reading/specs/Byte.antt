-- Bytes: their classes, and what a run of them begins with.
use Rattle.std.specs.Prelude.{Bool, true, false, ◌&&◌, ◌||◌, List, [], ◌∷◌, ℕ, zero, suc, ◌+◌, leb, eqb}
use Rattle.std.proofs.Math.Option.{Option, none, some}
use Prim.Native.Char.{code}
use Prim.Native.String.{String}

-- a quoted text as bytes
abbrev pub bytes : String → List ℕ
bytes String.[] = []
bytes (String.◌∷◌ c s) = code c ∷ bytes s

-- from the first character to the last, both included
abbrev pub within : ℕ → ℕ → ℕ → Bool
within a z b = leb a b && leb b z

abbrev pub is : ℕ → ℕ → Bool
is c b = eqb b c

-- nom's space1
abbrev pub blank : ℕ → Bool
blank b = is 32 b || is 9 b

-- alpha1
abbrev pub letter : ℕ → Bool
letter b = within 97 122 b || within 65 90 b

-- is_a("0123456789")
abbrev pub digit : ℕ → Bool
digit b = within 48 57 b

-- alphanumeric1
abbrev pub alphanumeric : ℕ → Bool
alphanumeric b = letter b || digit b

-- hex_digit1
abbrev pub hex_digit : ℕ → Bool
hex_digit b = digit b || (within 97 102 b || within 65 70 b)

-- is_a("01")
abbrev pub binary_digit : ℕ → Bool
binary_digit b = within 48 49 b

-- LF, CR
abbrev pub line_end : ℕ → Bool
line_end b = is 10 b || is 13 b

-- `)` and line ends end error text, in a block `}` too
abbrev pub ends_error : ℕ → Bool
ends_error b = is 41 b || line_end b

abbrev pub ends_error_in_block : ℕ → Bool
ends_error_in_block b = ends_error b || is 125 b

-- none_of("{}\"\r\n") stops here
abbrev pub ends_piece : ℕ → Bool
ends_piece b = (is 123 b || is 125 b) || (is 34 b || line_end b)

-- a letter or `_` begins a name, and digits may follow
abbrev pub name_start : ℕ → Bool
name_start b = letter b || is 95 b

abbrev pub name_byte : ℕ → Bool
name_byte b = alphanumeric b || is 95 b

-- a letter or `-` begins a config key, and digits may follow
abbrev pub key_start : ℕ → Bool
key_start b = letter b || is 45 b

abbrev pub key_byte : ℕ → Bool
key_byte b = alphanumeric b || is 45 b

abbrev pub lower : ℕ → ℕ
lower b = elim (within 65 90 b) [ true ↦ b + 32 | false ↦ b ]

-- tag: the text begins with the word, byte for byte
abbrev pub begins : List ℕ → List ℕ → Bool
begins [] t = true
begins (a ∷ w) [] = false
begins (a ∷ w) (b ∷ t) = elim (eqb a b) [ true ↦ begins w t | false ↦ false ]

-- tag_no_case: the same in any letter case; the word is given in lower case
abbrev pub begins_no_case : List ℕ → List ℕ → Bool
begins_no_case [] t = true
begins_no_case (a ∷ w) [] = false
begins_no_case (a ∷ w) (b ∷ t) = elim (eqb a (lower b)) [ true ↦ begins_no_case w t | false ↦ false ]

-- how many bytes in front pass the test
abbrev pub run : (ℕ → Bool) → List ℕ → ℕ
run f [] = 0
run f (b ∷ t) = elim (f b) [ true ↦ suc (run f t) | false ↦ 0 ]

abbrev pub at_least_one : ℕ → Option ℕ
at_least_one zero = none
at_least_one (suc n) = some (suc n)

abbrev pub given : Bool → ℕ → Option ℕ
given true n = some n
given false n = none

abbrev pub plus : ℕ → Option ℕ → Option ℕ
plus k none = none
plus k (some n) = some (k + n)

-- c_comment behind its first `/*`: how many bytes it takes, closing mark included, or none if the text ends first.
-- d more comments are open around this one; p is the byte before, 0 right behind a mark.
abbrev pub comment : ℕ → ℕ → List ℕ → Option ℕ
comment d p [] = none
comment d p (b ∷ t) =
    elim (is 42 p && is 47 b) [
      | true ↦ elim d [ zero ↦ some 1 | suc e ↦ plus 1 (comment e 0 t) ]
      | false ↦ elim (is 47 p && is 42 b) [ true ↦ plus 1 (comment (suc d) 0 t) | false ↦ plus 1 (comment d b t) ]
    ]
