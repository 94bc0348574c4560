use Rattle.expression.specs.Level.{operator_of}
use Rattle.expression.proofs.level_operator.Goals as goal

pub returns-in-Terms : goal.returns-in-Terms
unfolding operator_of
returns-in-Terms c = rw c.in-Terms.is c.expression_operator.ensures

pub returns-in-Factors : goal.returns-in-Factors
unfolding operator_of
returns-in-Factors c = rw c.in-Factors.is c.term_operator.ensures
