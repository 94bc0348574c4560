-- What the tests say of the parsers that operands and config maps are made of: antt computes them.
use mathlib.Core.Path.{◌≡◌, refl}
use mathlib.Core.Bool.{Bool, true, false}
use Prim.Native.Nat.{◌+◌, ◌≤◌}
use lib.Dec.{T, lit≤}
use mathlib.Core.Option.{some}
use Rattle.reading.specs.Kind.{blockᵏ, wordᵏ, config_valueᵏ}
use Rattle.reading.specs.Grammar.{empty, ◌▸◌, never, many0, over, bracket}
use Rattle.reading.specs.Rules.{opt, char, mchar, mws, trivia, multiline_trivia, number, fn_call, identifier_value, current_pc, interpolated_string_factor}
use Rattle.reading.specs.Rules.{expression, optional_suffix, config_key, config_value, kvp, all_rules}
use Rattle.reading.proofs.Tests.{quiet}
use Rattle.reading.proofs.Cost.{cost, slim}
use Rattle.reading.proofs.Verdict.{no, nothing, front}
use Rattle.cursor.proofs.Laws.{Solid}
use Rattle.cursor.proofs.Loops.{Repeatable}
use Rattle.operand.specs.Parts.{closing_of}

pub multiline_quiet : T (quiet multiline_trivia)
unfolding all_rules
multiline_quiet = tt

-- Operands -------------------------------------------------------------------

-- `(` and an expression; what is behind them
pub opened_solid : Solid (bracket trivia 40 expression)
unfolding all_rules
opened_solid = record { quieted = tt; slimmed = tt; rooting = tt; paying = tt }

pub closing_quiet : T (quiet (expression ▸ char ")"))
unfolding all_rules
closing_quiet = tt

pub closed_quiet : T (quiet (bracket trivia 40 (expression ▸ char ")")))
unfolding all_rules
closed_quiet = tt

pub trying_quiet : T (quiet (expression ▸ (never (char ")") ▸ (optional_suffix ▸ char ")"))))
unfolding all_rules
trying_quiet = tt

pub tried_quiet : T (quiet (bracket trivia 40 (expression ▸ (never (char ")") ▸ (optional_suffix ▸ char ")")))))
unfolding all_rules
tried_quiet = tt

pub closing_solid : (suffix : Bool) → Solid (closing_of suffix)
unfolding all_rules closing_of
closing_solid true = record { quieted = tt; slimmed = tt; rooting = tt; paying = tt }
closing_solid false = record { quieted = tt; slimmed = tt; rooting = tt; paying = tt }

-- of the alternatives of a factor, only the parenthesised one begins with `(`
pub record AtParen : Type 0 where
  pub blank : front trivia (some 40) ≡ nothing
  pub numeral : front number (some 40) ≡ no
  pub call : front fn_call (some 40) ≡ no
  pub value : front identifier_value (some 40) ≡ no
  pub pc : front current_pc (some 40) ≡ no
  pub string : front interpolated_string_factor (some 40) ≡ no
  pub bang : front (opt (char "!")) (some 40) ≡ nothing
  pub minus : front (opt (char "-")) (some 40) ≡ nothing

pub at_paren : AtParen
unfolding all_rules
at_paren = record { blank = refl; numeral = refl; call = refl; value = refl; pc = refl; string = refl; bang = refl; minus = refl }

-- Config maps ----------------------------------------------------------------

pub key_solid : Solid (mws wordᵏ 0 config_key)
unfolding all_rules
key_solid = record { quieted = tt; slimmed = tt; rooting = tt; paying = tt }

pub pairs_solid : Solid (many0 kvp ▸ mchar "}")
unfolding all_rules
pairs_solid = record { quieted = tt; slimmed = tt; rooting = tt; paying = tt }

pub map_quiet : T (quiet (bracket multiline_trivia 123 (many0 kvp ▸ mchar "}")))
unfolding all_rules
map_quiet = tt

pub block_quiet : T (quiet (over blockᵏ 0 (bracket multiline_trivia 123 (many0 kvp ▸ mchar "}")) empty))
unfolding all_rules
block_quiet = tt

pub assigned_solid : Solid (mchar "=" ▸ mws config_valueᵏ 0 config_value)
unfolding all_rules
assigned_solid = record { quieted = tt; slimmed = tt; rooting = tt; paying = tt }

pub kvp_rounds : Repeatable kvp
unfolding all_rules
kvp_rounds = record { quieted = tt; slimmed = tt; moving = tt; paying = tt }

-- a value has one row that its bytes do not pay for
pub value_quiet : T (quiet config_value)
unfolding all_rules
value_quiet = tt

pub value_slim : T (slim config_value)
unfolding all_rules
value_slim = tt

pub value_cost : (cost config_value).debt ≤ (cost config_value).gain + 1
unfolding all_rules
value_cost = lit≤ tt
