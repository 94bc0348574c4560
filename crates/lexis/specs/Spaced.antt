-- A character behind its trivia.
use Rattle.std.specs.Prelude.{ℕ}
use Rattle.reading.specs.Byte.{is}
use Rattle.reading.specs.Kind.{charᵏ}
use Rattle.reading.specs.Grammar.{one, Parser, leaf, node, always}
use Rattle.reading.specs.Rules.{trivia}

-- `char`, by the number of its byte
abbrev pub spaced : ℕ → Parser
spaced b = node charᵏ (always b) trivia (leaf (one (is b)))
