-- Document 02, F-3, on a page: "The outcome depends on that part's bytes and the number type alone, at any length: 65,535 zeros before a 1 give
-- 1." `Alone`, at the end, says it of any two calls with one number type: `p` and `q` are the parts that are lent, `r` and `s` what their callers
-- see. proofs/Part proves it of `number::value`, and proofs/Part of crate vireopatch of `vireopatch_value`.
use Rattle.std.specs.Prelude.{◌≡◌, true, List, [], ◌∷◌, ℕ, ◌+◌, ◌-◌, ◌≤◌, ◌<◌, length, get_or, take, drop}
use Rattle.std.proofs.Math.Option.{Option, some}
use Rattle.std.proofs.Common.{arith}
use Rattle.reading.specs.Number.{Base, is_digit}

-- A part of a text ------------------------------------------------------------

-- the bytes from low to high
abbrev pub part_of : ℕ → ℕ → List ℕ → List ℕ
part_of low high t = take (high - low) (drop low t)

pub record Part : Type 0 where
  pub text : List ℕ
  pub low : ℕ
  pub high : ℕ
  pub ordered : low ≤ high
  pub inside : high ≤ length text

-- how many bytes it has, and each of them, counted from 0
abbrev pub size : Part → ℕ
size p = p.high - p.low

abbrev pub byte : Part → ℕ → ℕ
byte p k = get_or p.text (p.low + k) 0

-- all of them: what a call is lent
abbrev pub bytes_of : Part → List ℕ
bytes_of p = part_of p.low p.high p.text

-- Two parts -------------------------------------------------------------------

-- the same bytes, whatever text they are a part of and wherever they stand in it
pub record Equal (p q : Part) : Type 0 where
  pub many : size p ≡ size q
  pub each : (k : ℕ) → k < size q → byte p k ≡ byte q k

-- n zeros, and the bytes of q behind them
pub record Zeros (n : ℕ) (p q : Part) : Type 0 where
  pub many : size p ≡ n + size q
  pub zeros : (k : ℕ) → k < n → byte p k ≡ 48
  pub behind : (k : ℕ) → k < size q → byte p (n + k) ≡ byte q k

-- one or more digits of the base
pub record Digits (x : Base) (q : Part) : Type 0 where
  pub any : 0 < size q
  pub each : (k : ℕ) → k < size q → is_digit x (byte q k) ≡ true

-- the text `1`
abbrev pub one : Part
one = record { text = 49 ∷ []; low = 0; high = 1; ordered = omega arith; inside = omega arith }

-- Two calls with one number type ----------------------------------------------

-- `x` is the type's base; in C a type may have none
pub record Alone {R : Type 0} (x : Option Base) (p : Part) (r : R) (q : Part) (s : R) : Type 0 where
  -- "The outcome depends on that part's bytes and the number type alone"
  pub same : Equal p q → r ≡ s
  -- and zeros before one or more digits of the base change nothing, "at any length"
  pub zeros : (b : Base) → x ≡ some b → (n : ℕ) → Zeros n p q → Digits b q → r ≡ s
