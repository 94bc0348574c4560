-- The answer is that of the definition, so what is shown of it is what it exports.
use mathlib.Core.Path.{ap, ◌∙◌}
use Rattle.vireopatch.proofs.Shown.{walk_shown}
use Rattle.vireopatch.proofs.vireopatch_walk.Goals as goal
use Rattle.vireopatch.specs.Seen.{exported_walk}

pub returns : goal.returns
returns c =
    rw (c.code_of.ensures, c.given_of.ensures, c.unwrap_or-subtree.ensures) (walk_shown c.walk-answer.result ∙ ap exported_walk c.walk-answer.ensures)
