-- The loop's invariant: what is left of the word is to be compared with the text behind `at + i`.
use mathlib.Core.Path.{◌≡◌}
use lib.ListN.{drop}
use Rattle.reading.specs.Byte.{begins_no_case}
use Rattle.word.proofs.begins.Given as goal

abbrev pub invariant-loop-i : goal.invariant-loop-i
invariant-loop-i l = begins_no_case l.word l.rest ≡ begins_no_case (drop l.i l.word) (drop l.i l.rest)
