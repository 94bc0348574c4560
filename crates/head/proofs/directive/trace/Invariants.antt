use Rattle.head.specs.Tails.{a_trace}
use Rattle.head.proofs.directive.trace.Given as goal

abbrev pub ghost-worded : goal.ghost-worded
ghost-worded a = a_trace
