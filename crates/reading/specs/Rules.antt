-- The parser of mos-core, function by function: each rule has the name of the Rust function that it follows (`-` for `_`; a prime where the
-- name is taken here), its alternatives in the Rust's order. mod.rs, and config_map.rs where it says so.
use Rattle.std.specs.Prelude.{Bool, true, false, not, [], ◌∷◌, ℕ, ◌+◌}
use Prim.Native.Char.{Char, code}
use Prim.Native.String.{String}
use Rattle.reading.specs.Byte.{bytes, is, blank, alphanumeric, digit, hex_digit, binary_digit, line_end, ends_error, ends_error_in_block, ends_piece, name_start, name_byte, key_start, key_byte}
use Rattle.reading.specs.Kind.{alignᵏ, assertᵏ, bracesᵏ, configᵏ, config_pairᵏ, dataᵏ, definitionᵏ, eofᵏ, errorᵏ, expressionᵏ, ifᵏ, fileᵏ, instructionᵏ, labelᵏ, loopᵏ, macro_definitionᵏ, macro_invocationᵏ, program_counter_definitionᵏ, segmentᵏ, testᵏ, textᵏ, traceᵏ, variable_definitionᵏ, blockᵏ, operandᵏ, stringᵏ, factorᵏ, current_pcᵏ, parensᵏ, callᵏ, identifierᵏ, numberᵏ, string_factorᵏ, charᵏ, wordᵏ, nameᵏ, pathᵏ, pieceᵏ, mnemonicᵏ, registerᵏ, operatorᵏ, number_typeᵏ, number_textᵏ, modifierᵏ, data_sizeᵏ, variable_typeᵏ, encodingᵏ, import_argumentᵏ, config_valueᵏ}
use Rattle.reading.specs.Grammar.{Row, Rows, Leaf, one, run0, run1, tag, tag_no_case, comment_rest, expr, config, stmt, Parser, empty, ◌▸◌, ◌or◌, never, many0, leaf, rule, unterminated, node, pick, over, scoped, import, argument, chain, bracket, braced, complain, expect, always}
use Rattle.reading.specs.Mnemonic.{◌↦ⁿ◌, mnemonics, implied_mnemonics}

infix 70 ◌↦ᵗ◌
abbrev pub opt : Parser → Parser
opt m = m or empty

abbrev pub byte : Char → Parser
byte c = leaf (one (is (code c)))

abbrev pub exactly : String → Parser
exactly s = leaf (tag (bytes s))

abbrev pub word : String → Parser
word s = leaf (tag_no_case (bytes s))

-- an operator or modifier, and the detail that it gives
abbrev pub ◌↦ᵗ◌ : String → ℕ → Leaf × ℕ
s ↦ᵗ d = (tag (bytes s), d)

-- Trivia -------------------------------------------------------------------

unfoldable pub cpp_comment : Parser
cpp_comment = exactly "//" ▸ leaf (run1 λ b. not (line_end b))

unfoldable pub c_comment : Parser
c_comment = exactly "/*" ▸ (leaf comment_rest or unterminated)

unfoldable pub trivia_impl : Parser
trivia_impl = leaf (run1 blank) or c_comment or cpp_comment

unfoldable pub new_line : Parser
new_line = opt (byte "\r") ▸ byte "\n"

-- opt(trivia) and opt(multiline_trivia), as ws and mws use them; many1 is one and many0
unfoldable pub trivia : Parser
trivia = opt (trivia_impl ▸ many0 trivia_impl)

unfoldable pub multiline_trivia : Parser
multiline_trivia = opt ((trivia_impl or new_line) ▸ many0 (trivia_impl or new_line))

-- ws, mws and located, with the kind and the detail of their row
abbrev pub ws : ℕ → ℕ → Parser → Parser
ws k d m = node k (always d) trivia m

abbrev pub mws : ℕ → ℕ → Parser → Parser
mws k d m = node k (always d) multiline_trivia m

abbrev pub located' : ℕ → ℕ → Parser → Parser
located' k d m = node k (always d) empty m

-- ws(char(c)) and mws(char(c)), mws(tag_no_case(s))
abbrev pub char : Char → Parser
char c = ws charᵏ (code c) (byte c)

abbrev pub mchar : Char → Parser
mchar c = mws charᵏ (code c) (byte c)

abbrev pub directive : String → Parser
directive s = mws wordᵏ 0 (word s)

-- Names --------------------------------------------------------------------

unfoldable pub identifier_name : Parser
identifier_name = leaf (one name_start) ▸ leaf (run0 name_byte)

unfoldable pub identifier_scope : Parser
identifier_scope = (byte "-" or byte "+") ▸ never (leaf (one alphanumeric))

unfoldable pub identifier_path : Parser
identifier_path = trivia ▸ (identifier_scope or identifier_name) ▸ many0 (byte "." ▸ (identifier_scope or identifier_name))

-- ws(identifier_name), mws(identifier_name), ws(identifier_path)
unfoldable pub name : Parser
name = ws nameᵏ 0 identifier_name

unfoldable pub mname : Parser
mname = mws nameᵏ 0 identifier_name

unfoldable pub path : Parser
path = ws pathᵏ 0 identifier_path

-- Strings ------------------------------------------------------------------

-- located(recognize(many1(none_of(..)))), and a path in braces
unfoldable pub piece : Parser
piece = located' pieceᵏ 0 (leaf (run1 λ b. not (ends_piece b)))

unfoldable pub interpolation : Parser
interpolation = byte "{" ▸ located' pathᵏ 0 identifier_path ▸ byte "}"

abbrev pub quoted : Parser → Parser
quoted m = over stringᵏ 0 (char "\"") (many0 m ▸ byte "\"")

unfoldable pub interpolated_string : Parser
interpolated_string = quoted (piece or interpolation)

unfoldable pub quoted_string : Parser
quoted_string = quoted piece

-- Expressions --------------------------------------------------------------

-- number types: 1 hexadecimal, 2 decimal, 3 binary
unfoldable pub decimal : Parser
decimal = located' number_typeᵏ 2 empty

unfoldable pub number : Parser
number = located' numberᵏ 0
    ((ws number_typeᵏ 1 (byte "$") ▸ ws number_textᵏ 0 (leaf (run1 hex_digit)))
    or (ws number_typeᵏ 3 (byte "%") ▸ ws number_textᵏ 0 (leaf (run1 binary_digit)))
    or (decimal ▸ ws number_textᵏ 0 (leaf (run1 digit)))
    or (decimal ▸ ws number_textᵏ 0 (word "true"))
    or (decimal ▸ ws number_textᵏ 0 (word "false")))

abbrev pub arg_list : Parser → Parser
arg_list m = many0 (m ▸ char ",") ▸ m

unfoldable pub identifier_arg_list : Parser
identifier_arg_list = arg_list name

unfoldable pub expression_arg : Parser
expression_arg = argument trivia (rule expr)

-- fn_call from its `(` on
unfoldable pub call_args : Parser
call_args = opt (arg_list expression_arg) ▸ char ")"

unfoldable pub call_parens : Parser
call_parens = bracket trivia 40 call_args

unfoldable pub fn_call : Parser
fn_call = located' callᵏ 0 (mname ▸ call_parens)

unfoldable pub modifier : Parser
modifier = pick modifierᵏ trivia ("<" ↦ᵗ 2 ∷ ">" ↦ᵗ 1 ∷ [])

unfoldable pub identifier_value : Parser
identifier_value = located' identifierᵏ 0 (opt modifier ▸ path)

unfoldable pub current_pc : Parser
current_pc = located' current_pcᵏ 0 (char "*")

unfoldable pub closed_expression : Parser
closed_expression = rule expr ▸ char ")"

unfoldable pub expression_parens : Parser
expression_parens = located' parensᵏ 0 (bracket trivia 40 closed_expression)

unfoldable pub interpolated_string_factor : Parser
interpolated_string_factor = located' string_factorᵏ 0 interpolated_string

unfoldable pub expression_factor_inner : Parser
expression_factor_inner = number or fn_call or identifier_value or current_pc or expression_parens or interpolated_string_factor

-- 1 for a `!` in front, plus 2 for a `-`
abbrev pub is_char : ℕ → Row → Bool
is_char c r = elim (is charᵏ r.kind) [ true ↦ is c r.detail | false ↦ false ]

abbrev pub minus : Rows → ℕ
minus [] = 0
minus (r ∷ rs) = elim (is_char 45 r) [ true ↦ 2 | false ↦ 0 ]

abbrev pub flags : Rows → ℕ
flags [] = 0
flags (r ∷ rs) = elim (is_char 33 r) [ true ↦ 1 + minus rs | false ↦ minus (r ∷ rs) ]

unfoldable pub factor_body : Parser
factor_body = expression_factor_inner or (opt (char "!") ▸ opt (char "-") ▸ expression_factor_inner)

unfoldable pub expression_factor : Parser
expression_factor = node factorᵏ flags trivia factor_body

unfoldable pub term_operator : Parser
term_operator = pick operatorᵏ trivia ("*" ↦ᵗ 3 ∷ "/" ↦ᵗ 4 ∷ "%" ↦ᵗ 5 ∷ "<<" ↦ᵗ 6 ∷ ">>" ↦ᵗ 7 ∷ "^" ↦ᵗ 8 ∷ [])

unfoldable pub expression_term : Parser
expression_term = chain term_operator expression_factor

unfoldable pub expression_operator : Parser
expression_operator = pick operatorᵏ trivia
    ("+" ↦ᵗ 1 ∷ "-" ↦ᵗ 2 ∷ "==" ↦ᵗ 9 ∷ "!=" ↦ᵗ 10 ∷ ">=" ↦ᵗ 12 ∷ "<=" ↦ᵗ 14 ∷ ">" ↦ᵗ 11 ∷ "<" ↦ᵗ 13 ∷ "&&" ↦ᵗ 15 ∷ "||" ↦ᵗ 16 ∷ [])

unfoldable pub expression : Parser
expression = chain expression_operator expression_term

-- the list in a statement, where the expression is not inside a bracket
unfoldable pub expression_arg_list : Parser
expression_arg_list = arg_list (argument trivia expression)

-- Operands -----------------------------------------------------------------

abbrev pub register_suffix : String → ℕ → Parser
register_suffix s d = char "," ▸ ws registerᵏ d (word s)

unfoldable pub optional_suffix : Parser
optional_suffix = opt (register_suffix "x" 1 or register_suffix "y" 2)

-- addressing modes: 1 AbsoluteOrZp, 2 Immediate, 4 Indirect, 5 OuterIndirect
unfoldable pub am_imm : Parser
am_imm = over operandᵏ 2 (char "#") expression

unfoldable pub am_ind : Parser
am_ind = over operandᵏ 5 (bracket trivia 40 (expression ▸ char ")")) optional_suffix

unfoldable pub am_outer_ind : Parser
am_outer_ind = over operandᵏ 4 (bracket trivia 40 (expression ▸ optional_suffix ▸ char ")")) empty

unfoldable pub am_abs : Parser
am_abs = over operandᵏ 1 expression optional_suffix

unfoldable pub operand : Parser
operand = am_imm or am_ind or am_outer_ind or am_abs

-- config_map.rs ------------------------------------------------------------

unfoldable pub config_key : Parser
config_key = leaf (one key_start) ▸ leaf (run0 key_byte)

unfoldable pub config_value : Parser
config_value = rule config or over expressionᵏ 0 expression empty

unfoldable pub kvp : Parser
kvp = over config_pairᵏ 0 (mws wordᵏ 0 config_key) (mchar "=" ▸ mws config_valueᵏ 0 config_value)

-- Token::Config around a Block
unfoldable pub config_map : Parser
config_map = over configᵏ 0 (over blockᵏ 0 (bracket multiline_trivia 123 (many0 kvp ▸ mchar "}")) empty) empty

-- Statements ---------------------------------------------------------------

abbrev pub error_impl : (ℕ → Bool) → Parser
error_impl ends = complain (mws errorᵏ 0 (leaf (run1 λ b. not (ends b))))

unfoldable pub error : Parser
error = error_impl ends_error

unfoldable pub error_in_block : Parser
error_in_block = error_impl ends_error_in_block

unfoldable pub block_item : Parser
block_item = rule stmt or error_in_block

unfoldable pub block : Parser
block = over blockᵏ 0 (braced multiline_trivia block_item) empty

unfoldable pub braces : Parser
braces = scoped bracesᵏ block empty

unfoldable pub colon : Parser
colon = located' charᵏ 58 (byte ":")

unfoldable pub label : Parser
label = over labelᵏ 0 mname (colon ▸ opt block)

-- expect(.., "") reports nothing: it is opt
unfoldable pub instruction : Parser
instruction = over instructionᵏ 0 (pick mnemonicᵏ multiline_trivia mnemonics) (opt operand)
    or over instructionᵏ 0 (pick mnemonicᵏ multiline_trivia implied_mnemonics) (opt (never operand))

-- variable types: 1 constant, 2 variable
abbrev pub varconst_impl : String → ℕ → Parser
varconst_impl s d = over variable_definitionᵏ 0 (mws variable_typeᵏ d (word s)) (name ▸ char "=" ▸ expression)

unfoldable pub variable_definition : Parser
variable_definition = varconst_impl ".var" 2

unfoldable pub const_definition : Parser
const_definition = varconst_impl ".const" 1

unfoldable pub pc_definition : Parser
pc_definition = over program_counter_definitionᵏ 0 (mchar "*") (char "=" ▸ expression)

unfoldable pub config_definition : Parser
config_definition = over definitionᵏ 0 (directive ".define") (name ▸ expect 4 config_map)

unfoldable pub macro_definition : Parser
macro_definition = over macro_definitionᵏ 0 (directive ".macro") (name ▸ char "(" ▸ opt identifier_arg_list ▸ char ")" ▸ block)

-- fn_call without its row
unfoldable pub macro_invocation : Parser
macro_invocation = over macro_invocationᵏ 0 mname call_parens

unfoldable pub data_size : Parser
data_size = mws data_sizeᵏ 1 (word ".byte") or mws data_sizeᵏ 2 (word ".word") or mws data_sizeᵏ 3 (word ".dword")

unfoldable pub data' : Parser
data' = over dataᵏ 0 data_size (expect 3 expression_arg_list)

unfoldable pub segment : Parser
segment = over segmentᵏ 0 (directive ".segment") (expression ▸ opt block)

unfoldable pub loop' : Parser
loop' = scoped loopᵏ (directive ".loop") (expression ▸ block)

unfoldable pub if' : Parser
if' = over ifᵏ 0 (directive ".if") (expression ▸ block ▸ opt (directive "else" ▸ block))

unfoldable pub align : Parser
align = over alignᵏ 0 (directive ".align") expression

unfoldable pub as' : Parser
as' = opt (ws wordᵏ 0 (word "as") ▸ path)

unfoldable pub specific_arg : Parser
specific_arg = ws import_argumentᵏ 0 (path ▸ as')

unfoldable pub import_args : Parser
import_args = (char "*" ▸ as') or arg_list specific_arg

unfoldable pub import' : Parser
import' = import (directive ".import") (import_args ▸ directive "from") quoted_string (opt block)

unfoldable pub encoding : Parser
encoding = pick encodingᵏ trivia ("ascii" ↦ⁿ 1 ∷ "petscii" ↦ⁿ 2 ∷ "petscreen" ↦ⁿ 3 ∷ [])

unfoldable pub text : Parser
text = over textᵏ 0 (directive ".text") ((encoding ▸ expression) or expression)

unfoldable pub file : Parser
file = over fileᵏ 0 (directive ".file") interpolated_string

unfoldable pub test : Parser
test = over testᵏ 0 (directive ".test") (expression ▸ block)

unfoldable pub assert : Parser
assert = over assertᵏ 0 (directive ".assert") (expression ▸ opt interpolated_string)

unfoldable pub trace : Parser
trace = over traceᵏ 0 (directive ".trace") (opt (char "(" ▸ opt expression_arg_list ▸ char ")"))

unfoldable pub statement : Parser
statement =
    braces or label or instruction or variable_definition or const_definition or pc_definition or config_definition or macro_definition
    or macro_invocation or data' or segment or loop' or if' or align or import' or text or file or test or assert or trace

unfoldable pub eof : Parser
eof = mws eofᵏ 0 (leaf (run0 λ b. true))

unfoldable pub source_file : Parser
source_file = many0 (statement or error) ▸ eof

-- every rule, for a proof that computes with all of them: `unfolding all_rules`
unfoldable pub all_rules : Unit {0}
unfolding cpp_comment c_comment trivia_impl new_line trivia multiline_trivia identifier_name identifier_scope identifier_path name mname path piece interpolation interpolated_string quoted_string decimal number identifier_arg_list expression_arg call_args call_parens fn_call modifier identifier_value current_pc closed_expression expression_parens interpolated_string_factor expression_factor_inner factor_body expression_factor term_operator expression_term expression_operator expression expression_arg_list optional_suffix am_imm am_ind am_outer_ind am_abs operand config_key config_value kvp config_map error error_in_block block_item block braces colon label instruction variable_definition const_definition pc_definition config_definition macro_definition macro_invocation data_size data' segment loop' if' align as' specific_arg import_args import' encoding text file test assert trace statement eof source_file
all_rules = tt
