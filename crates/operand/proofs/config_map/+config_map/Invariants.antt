-- The cycle of a config map: a map has pairs, a pair has a value, a value may be a map. Each map takes a level, so that sixteen times the levels left
-- and the function's place in the cycle fall.
use Prim.Native.Nat.{◌+◌, ◌*◌, ◌-◌}
use lib.ListN.{length}
use Rattle.reading.specs.Rules.{kvp as kvpᵍ}
use Rattle.cursor.proofs.Loops.{Looped}
use Rattle.operand.proofs.config_map.+config_map.Given as goal

abbrev pub decreases-assigned : goal.decreases-assigned
decreases-assigned l = l.left * 16 + 4

abbrev pub decreases-config_map : goal.decreases-config_map
decreases-config_map l = l.left * 16 + 1

abbrev pub decreases-config_value : goal.decreases-config_value
decreases-config_value l = l.left * 16 + 2

abbrev pub decreases-kvp : goal.decreases-kvp
decreases-kvp l = l.left * 16 + 5

abbrev pub decreases-kvps : goal.decreases-kvps
decreases-kvps l = l.left * 16 + 6

abbrev pub decreases-value : goal.decreases-value
decreases-value l = l.left * 16 + 3

abbrev pub invariant-kvps-loop-e : goal.invariant-kvps-loop-e
invariant-kvps-loop-e l =
    Looped (λ k j. k + l.left) kvpᵍ l.s l.initial.d.at.0 l.initial.d.count.0 l.initial.d.met l.initial.rows l.d.at.0 l.d.count.0 l.d.met l.rows

abbrev pub decreases-kvps-loop-e : goal.decreases-kvps-loop-e
decreases-kvps-loop-e l = length l.s - l.d.at.0
