-- What lists with commas are of.
use Rattle.reading.specs.Grammar.{Parser}
use Rattle.reading.specs.Rules.{name, specific_arg}

pub data Item : Type 0 where
  names : Item
  import_arguments : Item

abbrev pub item_of : Item → Parser
item_of names = name
item_of import_arguments = specific_arg
