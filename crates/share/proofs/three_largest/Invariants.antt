-- The invariant: the largest of the texts looked at.
use mathlib.Core.Path.{◌≡◌}
use Rattle.share.specs.Shares.{ranked}
use Rattle.share.specs.Steps.{largest_of}
use Rattle.share.proofs.three_largest.Given as goal

abbrev pub invariant-loop-i : goal.invariant-loop-i
invariant-loop-i l = l.largest ≡ largest_of (ranked l.words l.i)
