-- What antt computes of the rules that statements are made of: that they are quiet, move, and that their bytes pay for what they do.
use mathlib.Core.Bool.{false}
use mathlib.Core.List.{List}
use Prim.Native.Nat.{ℕ, ◌≤◌}
use native.Mathlib.Omega.{arith}
use lib.Dec.{T as Passes}
use Rattle.reading.specs.Kind.{errorᵏ}
use Rattle.reading.specs.Grammar.{run1, Parser, ◌▸◌, ◌or◌, many0, leaf, expect}
use Rattle.reading.specs.Rules.{opt, mws, directive, block, block_item, braces, label, macro_definition, import', quoted_string, data_size, config_map, expression_arg_list, statement, error, eof, all_rules}
use Rattle.reading.specs.Rules.{instruction, variable_definition, const_definition, pc_definition, config_definition, macro_invocation, data', segment, loop', if', align, text, file, test, assert, trace}
use Rattle.reading.proofs.Tests.{quiet}
use Rattle.reading.proofs.Moves.{moves}
use Rattle.reading.proofs.Cost.{cost}
use Rattle.trivia.specs.Class.{among}
use Rattle.state.proofs.Bounds.{sober, settled}
use Rattle.statement.specs.declared.Body.{Body}
use Rattle.statement.specs.declared.Body.TheVariants.{Maybe, Block, Branches}
use Rattle.statement.specs.Shapes.{mark_of, body_of}
use Rattle.head.specs.Heads.{word_of, directive_of, directive_expression, label_head, define_head, parameters, macro_head, import_names, import_head}

-- paid for, with nothing owed
abbrev pub Paid : Parser → Type 0
Paid g = Passes (sober g) × Passes (settled g)

-- quiet, and nothing owed where it fails
abbrev pub Calm : Parser → Type 0
Calm g = Passes (quiet g) × Passes (sober g)

-- Leaves -------------------------------------------------------------------

abbrev pub text_of : ℕ → Parser
text_of class = mws errorᵏ 0 (leaf (run1 (among class false)))

pub text_quiet : (class : ℕ) → Passes (quiet (text_of class))
unfolding all_rules
text_quiet class = tt

pub text_paid : (class : ℕ) → Paid (text_of class)
unfolding all_rules
text_paid class = (tt, tt)

pub mark_quiet : (b : ℕ) → Passes (quiet (mark_of b))
unfolding all_rules mark_of
mark_quiet b = tt

pub mark_paid : (b : ℕ) → Paid (mark_of b)
unfolding all_rules mark_of
mark_paid b = (tt, tt)

pub mark_moves : (b : ℕ) → Passes (moves (mark_of b))
unfolding all_rules mark_of
mark_moves b = tt

pub eof_quiet : Passes (quiet eof)
unfolding all_rules
eof_quiet = tt

pub eof_sober : Passes (sober eof)
unfolding all_rules
eof_sober = tt

pub eof_debt : (cost eof).debt ≤ 4
unfolding all_rules
eof_debt = omega arith

-- Blocks -------------------------------------------------------------------

pub block_paid : Paid block
unfolding all_rules
block_paid = (tt, tt)

pub body_paid : (b : Body) → Paid (body_of b)
unfolding all_rules body_of
body_paid Maybe = (tt, tt)
body_paid Block = (tt, tt)
body_paid Branches = (tt, tt)

pub maybe_paid : Paid (opt block)
unfolding all_rules
maybe_paid = (tt, tt)

pub items_paid : Paid (many0 block_item)
unfolding all_rules
items_paid = (tt, tt)

pub item_paid : Paid block_item
unfolding all_rules
item_paid = (tt, tt)

pub item_moves : Passes (moves block_item)
unfolding all_rules
item_moves = tt

pub top_paid : Paid (statement or error)
unfolding all_rules
top_paid = (tt, tt)

pub top_moves : Passes (moves (statement or error))
unfolding all_rules
top_moves = tt

pub tops_paid : Paid (many0 (statement or error))
unfolding all_rules
tops_paid = (tt, tt)

-- Heads --------------------------------------------------------------------

pub label_paid : Paid label_head
unfolding all_rules label_head
label_paid = (tt, tt)

pub macro_paid : Paid macro_head
unfolding all_rules macro_head parameters
macro_paid = (tt, tt)

pub import_paid : Paid import_head
unfolding all_rules import_head import_names
import_paid = (tt, tt)

pub define_paid : Paid define_head
unfolding all_rules define_head
define_paid = (tt, tt)

pub size_paid : Paid data_size
unfolding all_rules
size_paid = (tt, tt)

pub size_moves : Passes (moves data_size)
unfolding all_rules
size_moves = tt

pub else_paid : Paid (directive "else")
unfolding all_rules
else_paid = (tt, tt)

pub quoted_paid : Paid quoted_string
unfolding all_rules
quoted_paid = (tt, tt)

pub quoted_moves : Passes (moves quoted_string)
unfolding all_rules
quoted_moves = tt

pub directive_sober : (w : List ℕ) → Passes (sober (directive_expression w))
unfolding all_rules directive_expression directive_of word_of
directive_sober w = tt

-- what is quiet, and read without the state
pub head_quiet : Passes (quiet label_head) × Passes (quiet define_head) × Passes (quiet macro_head) × Passes (quiet data_size) × Passes (quiet import_head)
    × Passes (quiet quoted_string) × Passes (quiet (directive "else"))
unfolding all_rules label_head define_head macro_head parameters import_names import_head
head_quiet = (tt, tt, tt, tt, tt, tt, tt)

pub directive_quiet : (w : List ℕ) → Passes (quiet (directive_expression w))
unfolding all_rules directive_of directive_expression word_of
directive_quiet w = tt

-- such a statement, or a part that may be missing
pub statement_calm : Calm instruction × Calm variable_definition × Calm const_definition × Calm pc_definition
    × Calm macro_invocation × Calm align × Calm text × Calm file × Calm assert × Calm trace
unfolding all_rules
statement_calm =
    ((tt, tt), (tt, tt), (tt, tt), (tt, tt), (tt, tt), (tt, tt), (tt, tt), (tt, tt), (tt, tt), (tt, tt))

pub missing_calm : Calm config_map × Calm expression_arg_list
unfolding all_rules
missing_calm = ((tt, tt), (tt, tt))

-- Statements: a failure leaves nothing but what was reported ------------------

pub statement_sober : Passes (sober statement)
unfolding all_rules
statement_sober = tt

pub first_sober : Passes (sober braces) × Passes (sober label) × Passes (sober (instruction or variable_definition or const_definition or pc_definition or config_definition))
unfolding all_rules
first_sober = (tt, tt, tt)

pub second_sober : Passes (sober macro_definition) × Passes (sober (macro_invocation or data')) × Passes (sober segment)
unfolding all_rules
second_sober = (tt, tt, tt)

pub third_sober : Passes (sober loop') × Passes (sober if')
unfolding all_rules
third_sober = (tt, tt)

pub fourth_sober : Passes (sober import') × Passes (sober (text or file)) × Passes (sober test)
unfolding all_rules
fourth_sober = (tt, tt, tt)

-- with the head, whose bytes pay for the report
pub definition_paid : Paid (define_head ▸ expect 4 config_map)
unfolding all_rules define_head
definition_paid = (tt, tt)

pub data_paid : Paid (data_size ▸ expect 3 expression_arg_list)
unfolding all_rules
data_paid = (tt, tt)
