-- The invariant: what is left of the words, put behind those that are there, gives what all of them give.
use mathlib.Core.Path.{◌≡◌}
use Prim.Native.Nat.{◌+◌}
use lib.ListN.{length, drop}
use Rattle.table.specs.Words.{put}
use Rattle.table.proofs.push.Given as goal

abbrev pub invariant-loop-k : goal.invariant-loop-k
invariant-loop-k g l = (length l.table ≡ length l.initial.table) × (put l.table (l.i + l.k) (drop l.k l.words) ≡ put l.initial.table l.i l.words)
