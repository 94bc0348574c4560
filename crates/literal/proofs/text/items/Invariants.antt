use Prim.Native.Nat.{◌-◌}
use lib.ListN.{length}
use Rattle.cursor.proofs.Loops.{Looped}
use Rattle.literal.specs.Parts.{item_of}
use Rattle.literal.proofs.text.items.Given as goal

abbrev pub invariant-loop-e : goal.invariant-loop-e
invariant-loop-e l =
    Looped (λ l lim. lim) (item_of l.interpolated) l.s l.initial.d.at.0 l.initial.d.count.0 l.initial.d.met l.initial.rows l.d.at.0 l.d.count.0 l.d.met l.rows

abbrev pub decreases-loop-e : goal.decreases-loop-e
decreases-loop-e l = length l.s - l.d.at.0
