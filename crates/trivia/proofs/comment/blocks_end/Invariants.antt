-- The invariant: no closing mark starts before i.
use Prim.Native.Nat.{◌-◌}
use lib.ListN.{length}
use Rattle.trivia.specs.Piece.{closes_at, Clear}
use Rattle.trivia.proofs.comment.blocks_end.Given as goal

abbrev pub invariant-loop-i : goal.invariant-loop-i
invariant-loop-i l = Clear (closes_at l.s) l.initial.i l.i

abbrev pub decreases-loop-i : goal.decreases-loop-i
decreases-loop-i l = length l.s - l.i
