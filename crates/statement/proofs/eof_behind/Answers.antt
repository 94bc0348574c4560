use Rattle.statement.proofs.Drafts.{part_behind}
use Rattle.statement.proofs.eof_behind.Goals as goal

pub returns : goal.returns
returns c = record { appends = λ left q. part_behind _ _ _ _ _ _ _ _ c.part_at-k.ensures c.eof.auto.rows (c.eof.ensures.does left q) }
