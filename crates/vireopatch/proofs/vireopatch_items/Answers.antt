-- The answer and the table are those of the definition, so what is shown of them is what it exports.
use mathlib.Core.Path.{ap, ◌∙◌}
use Rattle.vireopatch.proofs.Shown.{items_shown}
use Rattle.vireopatch.proofs.vireopatch_items.Goals as goal
use Rattle.vireopatch.specs.Seen.{exported_items}

pub returns : goal.returns
returns c =
    rw (c.code_of.ensures, c.given_of.ensures, c.unwrap_or.ensures) (items_shown c.items-answer.result _ ∙ ap exported_items c.items-answer.ensures)
