-- The answer and the table are those of the definition, so what is shown of them is what it exports.
use mathlib.Core.Path.{ap, ◌∙◌}
use Rattle.vireopatch.proofs.Shown.{words_shown}
use Rattle.vireopatch.proofs.vireopatch_text_words.Goals as goal
use Rattle.vireopatch.specs.Seen.{exported_words}

pub returns : goal.returns
returns c =
    rw (c.code_of.ensures, c.given_of.ensures, c.unwrap_or-words.ensures) (words_shown _ c.text_words-answer.result ∙ ap exported_words c.text_words-answer.ensures)
