-- The parts of numbers and strings that have functions of their own.
use Rattle.std.specs.Prelude.{Bool, true, false, ℕ}
use Rattle.reading.specs.Byte.{is, digit}
use Rattle.reading.specs.Grammar.{one, run1, Parser, ◌▸◌, ◌or◌, leaf}
use Rattle.reading.specs.Kind.{number_typeᵏ, number_textᵏ}
use Rattle.reading.specs.Rules.{ws, word, decimal, piece, interpolation, interpolated_string, quoted_string}
use Rattle.trivia.specs.Class.{member}

-- a mark, with the number's type as its detail, and digits of a class
abbrev pub radix : ℕ → ℕ → ℕ → Parser
radix mark ty class = ws number_typeᵏ ty (leaf (one (is mark))) ▸ ws number_textᵏ 0 (leaf (run1 (member class)))

-- the text of a decimal number, without its row
abbrev pub numeral : Parser
numeral = leaf (run1 digit) or word "true" or word "false"

-- the decimal alternatives
abbrev pub decimals : Parser
decimals =
    (decimal ▸ ws number_textᵏ 0 (leaf (run1 digit)))
    or (decimal ▸ ws number_textᵏ 0 (word "true"))
    or (decimal ▸ ws number_textᵏ 0 (word "false"))

-- what is in a number: `$` and hexadecimal digits, `%` and binary ones, the others
abbrev pub value : Parser
value = radix 36 1 3 or radix 37 3 4 or decimals

-- an item of a string, interpolated or not, and the string
abbrev pub item_of : Bool → Parser
item_of true = piece or interpolation
item_of false = piece

abbrev pub string_of : Bool → Parser
string_of true = interpolated_string
string_of false = quoted_string
