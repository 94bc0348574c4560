use Rattle.head.specs.Tails.{an_assertion}
use Rattle.head.proofs.directive.assert.Given as goal

abbrev pub ghost-worded : goal.ghost-worded
ghost-worded a = an_assertion
