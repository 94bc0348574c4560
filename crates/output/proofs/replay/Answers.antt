-- What compares may be called again after each call, and so may the closure over it.
use Rattle.std.proofs.Common.{of_calls}
use denote.Param.Always.{always_mut, mut_by, mut_next}
use Rattle.output.proofs.replay.Goals as goal

pub replay_within-requires : goal.replay_within-requires
replay_within-requires g c =
    mut_by _ (λ s. always_mut g.F.FnMut s.0.now) (λ s a i. search (of_calls) parts 8) (λ s a r t i e. search (of_calls, mut_next) parts 8) _ c.requires
