-- The invariant: the sums so far, which each text raises by less than 2^32.
use mathlib.Core.Path.{◌≡◌}
use Prim.Native.Nat.{◌*◌, ◌≤◌}
use Rattle.share.specs.Shares.{sum, trivia_of, length_of}
use Rattle.share.proofs.pooled.Given as goal

abbrev pub invariant-loop-i : goal.invariant-loop-i
invariant-loop-i l =
    (l.trivia ≡ sum (trivia_of l.words) l.i) × (l.length ≡ sum (length_of l.words) l.i) × (l.trivia ≤ l.i * 4294967296) × (l.length ≤ l.i * 4294967296)
