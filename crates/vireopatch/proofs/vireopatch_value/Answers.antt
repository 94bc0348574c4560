-- No type, or the value in the base of the type.
use Rattle.vireopatch.proofs.Shown.{no_type_shown, value_shown}
use Rattle.vireopatch.proofs.vireopatch_value.Goals as goal

pub returns-in_default : goal.returns-in_default
returns-in_default c = rw c.number.ensures (no_type_shown c.try_from.result _ _ _ c.try_from.ensures.base c.in_default.is)

pub returns : goal.returns
returns c =
    rw (c.code_of.ensures, c.unwrap_or.ensures) (value_shown c.try_from.result _ _ _ c.value-answer.result c.try_from.ensures.base c.in-Ok.is c.value-answer.ensures)
