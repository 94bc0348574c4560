-- The invariant: unless one was found, neither byte stands in the bytes looked at.
use mathlib.Core.Path.{◌≡◌}
use mathlib.Core.Bool.{false}
use Prim.Native.Nat.{◌+◌}
use Rattle.trivia.specs.Piece.{either_at, Clear}
use Rattle.trivia.proofs.comment.block_has.Given as goal

abbrev pub invariant-loop-j : goal.invariant-loop-j
invariant-loop-j l = l.found ≡ false → Clear (either_at l.a l.b l.s) l.at.0 (l.at.0 + l.j)
