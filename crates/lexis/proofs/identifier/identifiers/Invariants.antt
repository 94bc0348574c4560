-- The loop's invariant: from where the first identifier ended, identifiers behind dots were read up to `end`. The measure is what is left of the text.
use Prim.Native.Nat.{◌-◌}
use lib.ListN.{length}
use Rattle.lexis.proofs.Paths.{Dotting}
use Rattle.lexis.proofs.identifier.identifiers.Given as goal

abbrev pub invariant-loop-next : goal.invariant-loop-next
invariant-loop-next l = Dotting l.s l.initial.end.0 l.end.0

abbrev pub decreases-loop-next : goal.decreases-loop-next
decreases-loop-next l = length l.s - l.end.0
