use Rattle.head.specs.Tails.{an_expression}
use Rattle.head.proofs.directive.align.Given as goal

abbrev pub ghost-worded : goal.ghost-worded
ghost-worded a = an_expression
