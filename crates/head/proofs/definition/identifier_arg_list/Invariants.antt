use Rattle.head.specs.Lists.{names}
use Rattle.head.proofs.definition.identifier_arg_list.Given as goal

abbrev pub ghost-list : goal.ghost-list
ghost-list a = names
