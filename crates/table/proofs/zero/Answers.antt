use Rattle.table.proofs.Zeros.{zeroed_part}
use Rattle.table.proofs.zero.Goals as goal

pub returns : goal.returns
returns c = zeroed_part _ _ _ c.requires (c.fill.ensures.after (λ y e. e))
