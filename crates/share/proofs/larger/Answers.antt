-- The products are those of the definition, and none is too large.
use mathlib.Core.Path.{◌∙◌}
use Rattle.share.proofs.Pool.{larger_is}
use Rattle.share.proofs.larger.Goals as goal

pub returns : goal.returns
returns c =
    larger_is _ _ _ _ _ _ _ _ _ (c.from-2.ensures ∙ c.of-a.ensures.0) c.of-a.ensures.1 (c.from.ensures ∙ c.of-b.ensures.0) c.of-b.ensures.1
    c.over.ensures c.over-2.ensures
