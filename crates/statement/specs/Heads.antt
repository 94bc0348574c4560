-- The alternatives of statement() from one on.
use Rattle.reading.specs.Grammar.{Parser, ◌or◌}
use Rattle.reading.specs.Rules.{macro_definition, macro_invocation, data', segment, loop', if', align, import', text, file, test, assert, trace}

unfoldable pub from_import : Parser
from_import = import' or text or file or test or assert or trace

unfoldable pub from_loop : Parser
from_loop = loop' or if' or align or from_import

unfoldable pub from_macro : Parser
from_macro = macro_definition or macro_invocation or data' or segment or from_loop
