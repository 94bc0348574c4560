-- The invariant: the rows before row m have their lines, whatever the text.
use mathlib.Core.Path.{◌≡◌}
use mathlib.Core.List.{List}
use Prim.Native.Nat.{ℕ, ◌+◌}
use lib.ListN.{length}
use Rattle.line.specs.Lines.{lined}
use Rattle.line.specs.Marks.{On}
use Rattle.line.proofs.fill.Given as goal

abbrev pub invariant-loop-m : goal.invariant-loop-m
invariant-loop-m l =
    (length l.rows ≡ length l.initial.rows) × ((s t : List ℕ) → On s l.here → l.initial.rows ≡ lined s t (l.n + 1) → l.rows ≡ lined s t l.m)
