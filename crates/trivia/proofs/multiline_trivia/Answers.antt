-- Where nothing starts, nothing is skipped.
use mathlib.Core.Bool.{true}
use Rattle.trivia.proofs.Walk.{walked_none, walked_skips}
use Rattle.trivia.proofs.multiline_trivia.Goals as goal

pub returns-then-bare : goal.returns-then-bare
returns-then-bare c = let n = c.bare.ensures c.if-bare.true in walked_skips (walked_none true _ _ _ c.requires) n.starts c.requires n.none
