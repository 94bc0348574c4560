-- The written reading of a text, for a reader of the statements: where it answers it stands in the text, and more fuel would change nothing.
use mathlib.Core.Path.{◌≡◌, subst}
use mathlib.Core.Bool.{Bool, false}
use mathlib.Core.List.{List}
use Prim.Native.Nat.{ℕ, ◌+◌, ◌≤◌}
use native.Mathlib.Omega.{arith}
use lib.ListN.{length}
use Rattle.reading.specs.Grammar.{Rows, State, Input, ok, parse}
use Rattle.reading.specs.Rules.{source_file}
use Rattle.reading.specs.Reading.{start, reads, written}
use Rattle.reading.proofs.Ahead.{Ahead, On, ahead}
use Rattle.reading.proofs.Tests.{file_guarded}
use Rattle.reading.proofs.Fuel.{agree, reads_on, enough_more}

abbrev from : List ℕ → Input
from t = record { at = 0; left = t }

written_on : (t : List ℕ) (n : ℕ) (f : Bool) → On (from t) (written t n f)
unfolding written
written_on t n f = ahead (reads (length t)) (reads_on (length t)) source_file 0 (from t) (start n f)

-- what it read and what it left make up the text
pub written_sum : (t : List ℕ) (n : ℕ) (f : Bool) (v : Rows) (q : Input) (w : State)
    → written t n f ≡ ok v q w → q.at + length q.left ≡ length t
written_sum t n f v q w e = let h : Ahead (from t) q = subst (On (from t)) e (written_on t n f) in omega (arith, h.sum)

pub written_in : (t : List ℕ) (n : ℕ) (f : Bool) (v : Rows) (q : Input) (w : State) → written t n f ≡ ok v q w → q.at ≤ length t
written_in t n f v q w e = omega (arith, written_sum t n f v q w e)

-- the text's length is fuel enough
pub written_fuel : (k : ℕ) (t : List ℕ) (n : ℕ) (f : Bool)
    → length t ≤ k → written t n f ≡ parse (reads k) source_file 0 (record { at = 0; left = t }) (start n f)
unfolding written
written_fuel k t n f h =
    agree (length t) (reads (length t)) (reads k) (reads_on (length t)) (λ x l p w r. enough_more (length t) k x l p w h r)
    source_file false file_guarded 0 (from t) (start n f) (omega arith)
