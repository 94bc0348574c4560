-- Parts of an operand that have a function of their own.
use Rattle.std.specs.Prelude.{Bool, true, false}
use Rattle.reading.specs.Grammar.{Parser, ◌▸◌, ◌or◌}
use Rattle.reading.specs.Rules.{char, optional_suffix, am_ind, am_outer_ind, am_abs}

-- the forms that may begin with `(`
unfoldable pub addressed : Parser
addressed = am_ind or am_outer_ind or am_abs

-- `)`, with a suffix before it or not
unfoldable pub closing_of : Bool → Parser
closing_of true = optional_suffix ▸ char ")"
closing_of false = char ")"
