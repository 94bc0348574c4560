-- The written reading of a text from a starting state: what parse_with_instance gives.
use Rattle.std.specs.Prelude.{Bool, List, [], ℕ, zero, suc, length}
use Rattle.reading.specs.Grammar.{Rows, State, Reply, ok, err, Parser, Rule, expr, config, stmt, Act, parse}
use Rattle.reading.specs.Rules.{expression, config_map, statement, source_file}

-- a starting state: the last scope number, and the flag
abbrev pub start : ℕ → Bool → State
start n f = record { scope = n; swallow = f; errors = []; requests = []; peak = 0 }

abbrev pub rule_of : Rule → Parser
rule_of expr = expression
rule_of config = config_map
rule_of stmt = statement

-- the rules; each is named behind a bracket only, so as many calls inside one another as there are bytes are enough (proofs/Written)
abbrev pub reads : ℕ → Rule → Act Rows
reads zero k = λ l p w. err w
reads (suc n) k = parse (reads n) (rule_of k)

unfoldable pub written : List ℕ → ℕ → Bool → Reply Rows
written t n f = parse (reads (length t)) source_file 0 (record { at = 0; left = t }) (start n f)

-- its rows, and the state at its end. It always answers (proofs/Answers), so that the second line is never used
abbrev pub rows_of : Reply Rows → Rows
rows_of (ok v q w) = v
rows_of (err w) = []

abbrev pub state_of : Reply Rows → State
state_of (ok v q w) = w
state_of (err w) = w
