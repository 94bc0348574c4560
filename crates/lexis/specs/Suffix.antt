-- A register suffix, read once: the comma, and one of the two registers. `proofs/Suffixes` shows that the rule, which tries the comma twice, is this.
use Rattle.reading.specs.Grammar.{Parser, ◌▸◌, ◌or◌}
use Rattle.reading.specs.Kind.{registerᵏ}
use Rattle.reading.specs.Rules.{ws, char, word}

unfoldable pub register : Parser
register = ws registerᵏ 1 (word "x") or ws registerᵏ 2 (word "y")

unfoldable pub suffix : Parser
suffix = char "," ▸ register
