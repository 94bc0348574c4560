use mathlib.Core.Path.{sym, ◌∙◌}
use Rattle.share.proofs.Ranks.{put_some, put_none}
use Rattle.share.proofs.with_text.Goals as goal

pub returns-in-Some : goal.returns-in-Some
returns-in-Some c = put_some _ _ _ _ _ (sym c.place_of.ensures ∙ c.in-Some.is) c.rotate_right.ensures.after

pub returns-in_default : goal.returns-in_default
returns-in_default c = put_none _ _ _ (sym c.place_of.ensures ∙ c.in_default.is)
