use mathlib.Core.Path.{refl}
use Rattle.std.proofs.Common.{rules}
use Rattle.statement.proofs.Drafts.{lent_behind}
use Rattle.statement.proofs.token_behind.Goals as goal

pub returns : goal.returns
returns c =
    let split = c.split_at_mut-part.ensures in
    lent_behind c.part_at-k.ensures c.token.ensures.same c.token.ensures.does split.front split.back refl refl _ _ _ (search rules) (search rules) (search rules)
