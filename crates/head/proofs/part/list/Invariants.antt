use Prim.Native.Nat.{ℕ, ◌-◌}
use lib.ListN.{length}
use Rattle.cursor.proofs.Loops.{Listed}
use Rattle.head.specs.Heads.{char_of}
use Rattle.head.specs.Lists.{item_of}
use Rattle.head.proofs.part.list.Given as goal

abbrev pub invariant-loop-item : goal.invariant-loop-item
invariant-loop-item g l = (left : ℕ) → Listed (item_of g.listed) (char_of 44) l.s left l.initial.next.at.0 l.initial.next.count.0 l.initial.next.met l.initial.rows l.next.at.0 l.next.count.0 l.next.met l.rows

abbrev pub decreases-loop-item : goal.decreases-loop-item
decreases-loop-item g l = length l.s - l.next.at.0
