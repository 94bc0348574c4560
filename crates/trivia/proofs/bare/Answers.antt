-- The byte decides.
use Rattle.trivia.proofs.Walk.{nothing_feed, nothing_plain}
use Rattle.trivia.proofs.bare.Goals as goal

pub returns-in-Some-eq10 : goal.returns-in-Some-eq10
returns-in-Some-eq10 c = nothing_feed _ _ _ c.in-Some-eq10.ensures.lookup.0 c.in-Some-eq10.ensures.lookup.1 c.in-Some-eq10.field-0-test

pub returns-in-Some : goal.returns-in-Some
returns-in-Some c = nothing_plain _ _ _ c.in-Some.ensures.lookup.0 c.in-Some.ensures.lookup.1
