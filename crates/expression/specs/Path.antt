-- A path, perhaps with an address modifier in front.
use Rattle.reading.specs.Grammar.{Parser, ◌▸◌}
use Rattle.reading.specs.Rules.{opt, modifier, path}

unfoldable pub modified_path : Parser
modified_path = opt modifier ▸ path
