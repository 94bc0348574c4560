use Rattle.head.specs.Tails.{a_text}
use Rattle.head.proofs.directive.text.Given as goal

abbrev pub ghost-worded : goal.ghost-worded
ghost-worded a = a_text
