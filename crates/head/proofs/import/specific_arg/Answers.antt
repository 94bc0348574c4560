use native.Mathlib.Omega.{arith}
use Rattle.expression.proofs.Steps.{ready_skip}
use Rattle.head.proofs.Wholes.{node_whole}
use Rattle.head.proofs.Bounds.{closable}
use Rattle.head.proofs.Tests.{renamed_owing}
use Rattle.reading.specs.Kind.{import_argumentᵏ}
use lib.Dec.{lit≤}
use Rattle.reading.specs.Rules.{specific_arg}
use Rattle.head.proofs.import.specific_arg.Goals as goal

pub whole-requires : goal.whole-requires
whole-requires c = closable renamed_owing (lit≤ tt) c.requires c.trivia-k.ensures (ready_skip
    c.requires c.trivia-k.ensures) (omega arith) (c.path_renamed-f.ensures.reads 0)

pub returns : goal.returns
unfolding specific_arg
returns c =
    let i = closable renamed_owing (lit≤ tt) c.requires c.trivia-k.ensures (ready_skip c.requires c.trivia-k.ensures) (omega arith)
    (c.path_renamed-f.ensures.reads 0) in
    record { reads = λ left. node_whole import_argumentᵏ c.trivia-k.ensures renamed_owing.quieted (c.path_renamed-f.ensures.reads left) i c.whole.ensures }
