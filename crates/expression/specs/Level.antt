-- The two levels of operators: those between terms, and those between factors, which bind tighter.
use Rattle.reading.specs.Grammar.{Parser}
use Rattle.reading.specs.Rules.{term_operator, expression_operator, expression_factor, expression_term, expression}
use Rattle.expression.specs.declared.Level.{Level}
use Rattle.expression.specs.declared.Level.TheVariants.{Terms, Factors}

unfoldable pub operator_of : Level → Parser
operator_of Terms = expression_operator
operator_of Factors = term_operator

unfoldable pub part_of : Level → Parser
part_of Terms = expression_term
part_of Factors = expression_factor

-- parts with operators between them
unfoldable pub chain_of : Level → Parser
chain_of Terms = expression
chain_of Factors = expression_term
