-- How many rows a reading has: at most four for each byte of its text, and one more.
use mathlib.Core.Path.{◌≡◌, subst}
use mathlib.Core.Bool.{Bool}
use mathlib.Core.List.{List}
use Prim.Native.Nat.{ℕ, ◌+◌, ◌*◌, ◌≤◌}
use native.Mathlib.Omega.{arith}
use lib.ListN.{length}
use Rattle.reading.specs.Grammar.{Rows, State, Input, ok}
use Rattle.reading.specs.Reading.{written}
use Rattle.reading.proofs.Written.{written_in}
use Rattle.reading.proofs.Cost.{price, Fit, Slim, written_slim}

pub row_bound : (t : List ℕ) (n : ℕ) (f : Bool) (v : Rows) (q : Input) (w : State) → written t n f ≡ ok v q w → length v ≤ 4 * length t + 1
row_bound t n f v q w e =
    let h : Fit (length v) (price 0 1) (record { at = 0; left = t }) q = (subst (Slim length (price 0 1) (record { at = 0; left = t })) e (written_slim t n f)).few in
    omega (arith, h.rows, written_in t n f v q w e)
