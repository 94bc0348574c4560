use Prim.Native.Nat.{◌+◌, ◌*◌, ◌-◌, ◌≤◌}
use lib.ListN.{length}
use Rattle.reading.specs.Rules.{block_item}
use Rattle.state.specs.Lent.{seen, Same}
use Rattle.state.proofs.Items.{Walking}
use Rattle.statement.proofs.stmt.+statement.Given as goal

abbrev pub decreases-block : goal.decreases-block
decreases-block l = l.left * 64 + 1

abbrev pub decreases-body : goal.decreases-body
decreases-body l = l.left * 64 + 4

abbrev pub decreases-braced : goal.decreases-braced
decreases-braced l = l.left * 64 + 0

abbrev pub decreases-braces : goal.decreases-braces
decreases-braces l = l.left * 64 + 6

abbrev pub decreases-branches : goal.decreases-branches
decreases-branches l = l.left * 64 + 3

abbrev pub decreases-directive : goal.decreases-directive
decreases-directive l = l.left * 64 + 6

abbrev pub decreases-fourth : goal.decreases-fourth
decreases-fourth l = l.left * 64 + 7

abbrev pub decreases-import : goal.decreases-import
decreases-import l = l.left * 64 + 6

abbrev pub decreases-item : goal.decreases-item
decreases-item l = l.left * 64 + 11

abbrev pub decreases-items : goal.decreases-items
decreases-items l = l.left * 64 + 12

abbrev pub decreases-label : goal.decreases-label
decreases-label l = l.left * 64 + 6

abbrev pub decreases-macro_of : goal.decreases-macro_of
decreases-macro_of l = l.left * 64 + 6

abbrev pub decreases-maybe : goal.decreases-maybe
decreases-maybe l = l.left * 64 + 2

abbrev pub decreases-other : goal.decreases-other
decreases-other l = l.left * 64 + 2

abbrev pub decreases-rest : goal.decreases-rest
decreases-rest l = l.left * 64 + 5

abbrev pub decreases-second : goal.decreases-second
decreases-second l = l.left * 64 + 9

abbrev pub decreases-statement : goal.decreases-statement
decreases-statement l = l.left * 64 + 10

abbrev pub decreases-third : goal.decreases-third
decreases-third l = l.left * 64 + 8

abbrev pub invariant-items-loop-d : goal.invariant-items-loop-d
invariant-items-loop-d l =
    Walking block_item l.s l.left l.initial.next.at.0 l.initial.next.count.0 l.initial.state (seen l.initial.tables)
    l.next.at.0 l.next.count.0 l.state (seen l.tables)
    × (1 ≤ l.next.at.0)
    × Same l.initial.tables l.tables

abbrev pub decreases-items-loop-d : goal.decreases-items-loop-d
decreases-items-loop-d l = length l.s - l.next.at.0
