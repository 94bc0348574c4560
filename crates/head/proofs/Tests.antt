-- The tests that the laws ask for, computed: a parser is quiet, its bytes pay for its rows, and its last row ends where it ends.
use mathlib.Core.Bool.{Bool, true, false, ◌&&◌}
use mathlib.Core.List.{List}
use Prim.Native.Nat.{ℕ, ◌+◌, ◌*◌, ◌≤◌}
use native.Mathlib.Omega.{arith}
use lib.Dec.{T, le→leb}
use lib.ListN.{length}
use Rattle.reading.specs.Grammar.{◌▸◌, never, pick}
use Rattle.reading.specs.Kind.{wordᵏ, mnemonicᵏ}
use Rattle.reading.specs.Rules.{opt, word, ws, multiline_trivia, expression, operand, call_parens, identifier_arg_list, expression_arg_list, encoding, all_rules}
use Rattle.reading.specs.Rules.{as', import_args, path}
use Rattle.reading.proofs.Tests.{quiet}
use Rattle.cursor.proofs.Laws.{Solid}
use Rattle.literal.specs.Parts.{string_of}
use Rattle.word.specs.Words.{mnemonic_list}
use Rattle.head.specs.Heads.{char_of, word_of, assigned, named, encoded, asserted, traced}
use Rattle.head.specs.Lists.{Item, names, import_arguments, item_of}
use Rattle.head.specs.Tails.{Tail, an_expression, a_text, an_assertion, a_trace, tail_of}
use Rattle.head.proofs.Bounds.{Owing}

-- Leaves ---------------------------------------------------------------------

pub char_solid : (b : ℕ) → Solid (char_of b)
unfolding all_rules char_of
char_solid b = record { quieted = tt; slimmed = tt; rooting = tt; paying = tt }

pub word_solid : (k d : ℕ) (w : List ℕ) → 1 ≤ length w → Solid (word_of k d w)
unfolding all_rules word_of
word_solid k d w h = record { quieted = tt; slimmed = tt; rooting = tt; paying = le→leb (1 + 0) (0 + 4 * length w) (omega arith) }

pub lines_quiet : T (quiet multiline_trivia && true)
unfolding all_rules
lines_quiet = tt

pub mnemonic_solid : (implied : Bool) → Solid (pick mnemonicᵏ multiline_trivia (mnemonic_list implied))
unfolding all_rules
mnemonic_solid true = record { quieted = tt; slimmed = tt; rooting = tt; paying = tt }
mnemonic_solid false = record { quieted = tt; slimmed = tt; rooting = tt; paying = tt }

pub encoding_solid : Solid encoding
unfolding all_rules
encoding_solid = record { quieted = tt; slimmed = tt; rooting = tt; paying = tt }

pub string_owing : (interpolated : Bool) → Owing 0 (string_of interpolated)
unfolding all_rules
string_owing true = record { quieted = tt; slimmed = tt; owing = tt }
string_owing false = record { quieted = tt; slimmed = tt; owing = tt }

-- Expressions ------------------------------------------------------------------

pub expression_owing : Owing 0 expression
unfolding all_rules
expression_owing = record { quieted = tt; slimmed = tt; owing = tt }

pub arguments_owing : Owing 0 (opt expression_arg_list)
unfolding all_rules
arguments_owing = record { quieted = tt; slimmed = tt; owing = tt }

pub call_owing : Owing 0 call_parens
unfolding all_rules
call_owing = record { quieted = tt; slimmed = tt; owing = tt }

pub operand_owing : Owing 1 (opt operand)
unfolding all_rules
operand_owing = record { quieted = tt; slimmed = tt; owing = tt }

pub operand_quiet : T (quiet operand)
unfolding all_rules
operand_quiet = tt

pub tried_owing : Owing 0 (opt (never operand))
unfolding all_rules
tried_owing = record { quieted = tt; slimmed = tt; owing = tt }

-- Statements -------------------------------------------------------------------

pub assigned_owing : Owing 0 assigned
unfolding all_rules assigned
assigned_owing = record { quieted = tt; slimmed = tt; owing = tt }

pub named_owing : Owing 0 named
unfolding all_rules assigned named
named_owing = record { quieted = tt; slimmed = tt; owing = tt }

pub encoded_owing : Owing 0 encoded
unfolding all_rules encoded
encoded_owing = record { quieted = tt; slimmed = tt; owing = tt }

pub asserted_owing : Owing 0 asserted
unfolding all_rules asserted
asserted_owing = record { quieted = tt; slimmed = tt; owing = tt }

pub traced_owing : Owing 0 (opt traced)
unfolding all_rules traced
traced_owing = record { quieted = tt; slimmed = tt; owing = tt }

pub tail_owing : (t : Tail) → Owing 0 (tail_of t)
tail_owing an_expression = expression_owing
tail_owing a_text = encoded_owing
tail_owing an_assertion = asserted_owing
tail_owing a_trace = traced_owing

-- Lists ------------------------------------------------------------------------

pub names_owing : Owing 0 (opt identifier_arg_list)
unfolding all_rules
names_owing = record { quieted = tt; slimmed = tt; owing = tt }

pub as_solid : Solid (ws wordᵏ 0 (word "as"))
unfolding all_rules
as_solid = record { quieted = tt; slimmed = tt; rooting = tt; paying = tt }

pub renamed_owing : Owing 0 (path ▸ as')
unfolding all_rules
renamed_owing = record { quieted = tt; slimmed = tt; owing = tt }

pub item_solid : (i : Item) → Solid (item_of i)
unfolding all_rules
item_solid names = record { quieted = tt; slimmed = tt; rooting = tt; paying = tt }
item_solid import_arguments = record { quieted = tt; slimmed = tt; rooting = tt; paying = tt }

-- with the comma behind it
pub item_comma_solid : (i : Item) → Solid (item_of i ▸ char_of 44)
unfolding all_rules char_of
item_comma_solid names = record { quieted = tt; slimmed = tt; rooting = tt; paying = tt }
item_comma_solid import_arguments = record { quieted = tt; slimmed = tt; rooting = tt; paying = tt }

pub import_args_owing : Owing 0 import_args
unfolding all_rules
import_args_owing = record { quieted = tt; slimmed = tt; owing = tt }
