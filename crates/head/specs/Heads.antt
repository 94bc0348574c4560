-- The parts of statements that are read as one, where Rules has no name for them.
use Rattle.std.specs.Prelude.{List, ℕ}
use Rattle.reading.specs.Byte.{is}
use Rattle.reading.specs.Grammar.{one, tag_no_case, Parser, ◌▸◌, ◌or◌, never, leaf, pick, over}
use Rattle.reading.specs.Kind.{instructionᵏ, variable_definitionᵏ, charᵏ, wordᵏ, mnemonicᵏ, data_sizeᵏ, variable_typeᵏ}
use Rattle.reading.specs.Mnemonic.{mnemonics, implied_mnemonics}
use Rattle.reading.specs.Rules.{opt, word, ws, mws, char, directive, multiline_trivia, name, mname, path, interpolated_string, identifier_arg_list, expression}
use Rattle.reading.specs.Rules.{expression_arg_list, operand, colon, import_args, encoding}

-- ws(char(c)) and mws(tag_no_case(s)), over the byte and over the word
unfoldable pub char_of : ℕ → Parser
char_of b = ws charᵏ b (leaf (one (is b)))

unfoldable pub word_of : ℕ → ℕ → List ℕ → Parser
word_of k d w = mws k d (leaf (tag_no_case w))

-- a directive, and with its expression: .segment, .loop, .if, .test
unfoldable pub directive_of : List ℕ → Parser
directive_of w = word_of wordᵏ 0 w

unfoldable pub directive_expression : List ℕ → Parser
directive_expression w = directive_of w ▸ expression

-- data_size's last two
unfoldable pub wide_size : Parser
wide_size = mws data_sizeᵏ 2 (word ".word") or mws data_sizeᵏ 3 (word ".dword")

-- instruction's two forms
unfoldable pub with_operand : Parser
with_operand = over instructionᵏ 0 (pick mnemonicᵏ multiline_trivia mnemonics) (opt operand)

unfoldable pub implied : Parser
implied = over instructionᵏ 0 (pick mnemonicᵏ multiline_trivia implied_mnemonics) (opt (never operand))

-- a definition by its word and its detail, and what stands behind the word
unfoldable pub assigned : Parser
assigned = char "=" ▸ expression

unfoldable pub named : Parser
named = name ▸ assigned

unfoldable pub varconst : List ℕ → ℕ → Parser
varconst w d = over variable_definitionᵏ 0 (word_of variable_typeᵏ d w) named

-- what stands before a block or a config map
unfoldable pub label_head : Parser
label_head = mname ▸ colon

unfoldable pub define_head : Parser
define_head = directive ".define" ▸ name

unfoldable pub parameters : Parser
parameters = char "(" ▸ opt identifier_arg_list ▸ char ")"

unfoldable pub macro_head : Parser
macro_head = directive ".macro" ▸ name ▸ parameters

-- behind.text, .assert and .trace
unfoldable pub encoded : Parser
encoded = (encoding ▸ expression) or expression

unfoldable pub asserted : Parser
asserted = expression ▸ opt interpolated_string

unfoldable pub traced : Parser
traced = char "(" ▸ opt expression_arg_list ▸ char ")"

-- an import's path with its new name, and all up to its file name
unfoldable pub as_path : Parser
as_path = ws wordᵏ 0 (word "as") ▸ path

unfoldable pub import_names : Parser
import_names = import_args ▸ directive "from"

unfoldable pub import_head : Parser
import_head = directive ".import" ▸ import_names
