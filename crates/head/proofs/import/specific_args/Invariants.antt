use Rattle.head.specs.Lists.{import_arguments}
use Rattle.head.proofs.import.specific_args.Given as goal

abbrev pub ghost-list : goal.ghost-list
ghost-list a = import_arguments
