-- What the tests say of the rules: computed.
use Prim.Native.Nat.{ℕ, ◌+◌, ◌≤◌}
use lib.Dec.{T, lit≤}
use Rattle.reading.specs.Grammar.{◌▸◌, bracket}
use Rattle.reading.specs.Rules.{all_rules, opt, trivia, mname, expression_arg, arg_list, call_parens, closed_expression, expression_factor_inner, expression_factor, term_operator, expression_term, expression_operator, expression}
use Rattle.reading.proofs.Tests.{quiet}
use Rattle.reading.proofs.Cost.{cost}
use Rattle.cursor.proofs.Laws.{Solid}
use Rattle.lexis.specs.Spaced.{spaced}
use Rattle.expression.specs.Sign.{signs}

pub trivia_quiet : T (quiet trivia)
unfolding all_rules
trivia_quiet = tt

pub mark_solid : (b : ℕ) → Solid (spaced b)
unfolding all_rules
mark_solid b = record { quieted = tt; slimmed = tt; rooting = tt; paying = tt }

pub opt_mark_quiet : (b : ℕ) → T (quiet (opt (spaced b)))
unfolding all_rules
opt_mark_quiet b = tt

pub signs_quiet : T (quiet signs)
unfolding all_rules signs
signs_quiet = tt

pub opt_list_quiet : T (quiet (opt (arg_list expression_arg)))
unfolding all_rules
opt_list_quiet = tt

pub bracket_solid : Solid (bracket trivia 40 closed_expression)
unfolding all_rules
bracket_solid = record { quieted = tt; slimmed = tt; rooting = tt; paying = tt }

pub call_solid : Solid (mname ▸ call_parens)
unfolding all_rules
call_solid = record { quieted = tt; slimmed = tt; rooting = tt; paying = tt }

pub name_solid : Solid mname
unfolding all_rules
name_solid = record { quieted = tt; slimmed = tt; rooting = tt; paying = tt }

pub inner_solid : Solid expression_factor_inner
unfolding all_rules
inner_solid = record { quieted = tt; slimmed = tt; rooting = tt; paying = tt }

pub factor_solid : Solid expression_factor
unfolding all_rules
factor_solid = record { quieted = tt; slimmed = tt; rooting = tt; paying = tt }

pub term_solid : Solid expression_term
unfolding all_rules
term_solid = record { quieted = tt; slimmed = tt; rooting = tt; paying = tt }

pub expression_solid : Solid expression
unfolding all_rules
expression_solid = record { quieted = tt; slimmed = tt; rooting = tt; paying = tt }

pub argument_solid : Solid expression_arg
unfolding all_rules
argument_solid = record { quieted = tt; slimmed = tt; rooting = tt; paying = tt }

pub list_solid : Solid (arg_list expression_arg)
unfolding all_rules
list_solid = record { quieted = tt; slimmed = tt; rooting = tt; paying = tt }

pub comma_solid : Solid (expression_arg ▸ spaced 44)
unfolding all_rules
comma_solid = record { quieted = tt; slimmed = tt; rooting = tt; paying = tt }

pub term_operator_solid : Solid term_operator
unfolding all_rules
term_operator_solid = record { quieted = tt; slimmed = tt; rooting = tt; paying = tt }

pub expression_operator_solid : Solid expression_operator
unfolding all_rules
expression_operator_solid = record { quieted = tt; slimmed = tt; rooting = tt; paying = tt }

pub term_chain : Solid (term_operator ▸ expression_factor)
unfolding all_rules
term_chain = record { quieted = tt; slimmed = tt; rooting = tt; paying = tt }

pub expression_chain : Solid (expression_operator ▸ expression_term)
unfolding all_rules
expression_chain = record { quieted = tt; slimmed = tt; rooting = tt; paying = tt }

-- the bytes of an operator and a part pay for the row of the pair too
pub term_pair : (cost (term_operator ▸ expression_factor)).debt + 1 ≤ (cost (term_operator ▸ expression_factor)).gain
unfolding all_rules
term_pair = lit≤ tt

pub expression_pair : (cost (expression_operator ▸ expression_term)).debt + 1 ≤ (cost (expression_operator ▸ expression_term)).gain
unfolding all_rules
expression_pair = lit≤ tt
