-- Two tests that go through a parser, and that the rules pass them: computed, so that the laws by induction over parsers apply to the rules.
use mathlib.Core.Bool.{Bool, true, false, ◌&&◌}
use lib.Dec.{T}
use Rattle.reading.specs.Grammar.{Rule, expr, config, stmt, Parser, empty, ◌▸◌, ◌or◌, never, many0, leaf, rule, unterminated, node, pick, over, scoped, import, argument, chain, bracket, braced, complain, expect}
use Rattle.reading.specs.Rules.{source_file, all_rules}
use Rattle.reading.specs.Reading.{rule_of}

-- no rule is called before an opening character is read
abbrev pub guarded : Parser → Bool
guarded empty = true
guarded (m ▸ n) = guarded m && guarded n
guarded (m or n) = guarded m && guarded n
guarded (never m) = guarded m
guarded (many0 m) = guarded m
guarded (leaf f) = true
guarded (rule x) = false
guarded unterminated = true
guarded (node k d t m) = guarded t && guarded m
guarded (pick k t xs) = guarded t
guarded (over k d m n) = guarded m && guarded n
guarded (scoped k m n) = guarded m && guarded n
guarded (import m n s b) = (guarded m && guarded n) && (guarded s && guarded b)
guarded (argument t m) = guarded t && guarded m
guarded (chain o m) = guarded o && guarded m
guarded (bracket t c m) = guarded t
guarded (braced t m) = guarded t
guarded (complain m) = guarded m
guarded (expect c m) = guarded m

-- statements report and number; expressions and config maps do not
abbrev pub quiet_rule : Rule → Bool
quiet_rule expr = true
quiet_rule config = true
quiet_rule stmt = false

-- nothing is done to the state but to report an open comment and to go to a level
abbrev pub quiet : Parser → Bool
quiet empty = true
quiet (m ▸ n) = quiet m && quiet n
quiet (m or n) = quiet m && quiet n
quiet (never m) = quiet m
quiet (many0 m) = quiet m
quiet (leaf f) = true
quiet (rule x) = quiet_rule x
quiet unterminated = true
quiet (node k d t m) = quiet t && quiet m
quiet (pick k t xs) = quiet t
quiet (over k d m n) = quiet m && quiet n
quiet (scoped k m n) = false
quiet (import m n s b) = false
quiet (argument t m) = quiet t && quiet m
quiet (chain o m) = quiet o && quiet m
quiet (bracket t c m) = quiet t && quiet m
quiet (braced t m) = false
quiet (complain m) = false
quiet (expect c m) = false

-- every rule calls rules only behind an opening character
pub rule_guarded : (x : Rule) → T (guarded (rule_of x))
unfolding all_rules
rule_guarded expr = tt
rule_guarded config = tt
rule_guarded stmt = tt

pub file_guarded : T (guarded source_file)
unfolding all_rules
file_guarded = tt

pub rule_quiet : (x : Rule) → T (quiet_rule x) → T (quiet (rule_of x))
unfolding all_rules
rule_quiet expr t = tt
rule_quiet config t = tt
rule_quiet stmt t = absurd t
