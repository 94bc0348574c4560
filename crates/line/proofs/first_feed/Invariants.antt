-- The invariant: as far as the bytes looked at and the first line feed among them go, all is one line.
use Prim.Native.Nat.{◌≤◌}
use Rattle.line.proofs.Lines.{Clear}
use Rattle.line.proofs.first_feed.Given as goal

abbrev pub invariant-loop-j : goal.invariant-loop-j
invariant-loop-j l = (l.first ≤ 96) × Clear l.text l.at l.j l.first
