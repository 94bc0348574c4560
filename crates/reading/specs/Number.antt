-- Number::value: the value of a number's text in the base of its type.
use Rattle.std.specs.Prelude.{Bool, true, false, ◌&&◌, cond, not, List, [], ◌∷◌, map, ℕ, ◌+◌, ◌*◌, ◌-◌, ltb, eqb}
use Rattle.reading.specs.Byte.{bytes, digit, hex_digit, binary_digit, lower}
use Rattle.reading.specs.Table.{Answer, answered, refused}

pub data Base : Type 0 where
  hexadecimal decimal binary : Base

abbrev pub radix : Base → ℕ
radix hexadecimal = 16
radix decimal = 10
radix binary = 2

abbrev pub is_digit : Base → ℕ → Bool
is_digit hexadecimal b = hex_digit b
is_digit decimal b = digit b
is_digit binary b = binary_digit b

-- `0` to `9`, and `a` to `f` in either case
abbrev pub digit_value : ℕ → ℕ
digit_value b = elim (digit b) [ true ↦ b - 48 | false ↦ lower b - 87 ]

abbrev pub same : List ℕ → List ℕ → Bool
same [] [] = true
same [] (b ∷ t) = false
same (a ∷ s) [] = false
same (a ∷ s) (b ∷ t) = eqb a b && same s t

abbrev pub all_digits : Base → List ℕ → Bool
all_digits x [] = true
all_digits x (b ∷ t) = is_digit x b && all_digits x t

-- one or more digits
abbrev pub digits : Base → List ℕ → Bool
digits x [] = false
digits x (b ∷ t) = all_digits x (b ∷ t)

-- the value so far, with the digits that follow
abbrev pub value_from : Base → ℕ → List ℕ → ℕ
value_from x n [] = n
value_from x n (b ∷ t) = value_from x (n * radix x + digit_value b) t

abbrev pub digits_value : Base → List ℕ → Answer ℕ
digits_value x t =
    cond (not (digits x t)) (refused 10 0)
    (cond (ltb 9223372036854775807 (value_from x 0 t)) (refused 9 0)
    (answered (value_from x 0 t)))

-- the letters in lower case
abbrev pub lowered : List ℕ → List ℕ
lowered t = map lower t

-- the words first, as the Rust has it, but in any letter case
unfoldable pub number_value : Base → List ℕ → Answer ℕ
number_value x t = cond (same (lowered t) (bytes "true")) (answered 1) (cond (same (lowered t) (bytes "false")) (answered 0) (digits_value x t))

-- document 01's definition, in which only the lower-case words have a value. Document 02, F-6, amends it; crate number, specs/Spelling, says
-- what that changed
unfoldable pub value_before : Base → List ℕ → Answer ℕ
value_before x t = cond (same t (bytes "true")) (answered 1) (cond (same t (bytes "false")) (answered 0) (digits_value x t))
