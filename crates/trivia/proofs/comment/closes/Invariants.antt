-- The invariant: no closing mark starts from the first byte looked at on, before i.
use Rattle.trivia.specs.Piece.{closes_at, Clear}
use Rattle.trivia.proofs.comment.closes.Given as goal

abbrev pub invariant-loop-i : goal.invariant-loop-i
invariant-loop-i l = Clear (closes_at l.s) l.initial.i l.i
