-- The invariant: unless one was found, no closing mark starts in the bytes looked at.
use mathlib.Core.Path.{◌≡◌}
use mathlib.Core.Bool.{false}
use Prim.Native.Nat.{◌+◌}
use Rattle.trivia.specs.Piece.{closes_at, Clear}
use Rattle.trivia.proofs.comment.block_closes.Given as goal

abbrev pub invariant-loop-j : goal.invariant-loop-j
invariant-loop-j l = l.found ≡ false → Clear (closes_at l.s) l.at.0 (l.at.0 + l.j)
