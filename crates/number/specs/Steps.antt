-- What the private functions give.
use Rattle.std.specs.Prelude.{Bool, cond, ℕ, suc, ◌-◌, min, ltb}
use Rattle.reading.specs.Byte.{within}
use Rattle.reading.specs.Table.{Answer, answered, refused}

-- a byte's value as a digit, or 16, which is a digit of no base
unfoldable pub digit_or_none : ℕ → ℕ
digit_or_none b = cond (within 48 57 b) (b - 48) (cond (within 97 102 b) (b - 87) (cond (within 65 70 b) (b - 55) 16))

-- the largest value that is answered
abbrev pub limit : ℕ
limit = 9223372036854775807

-- one more than the limit stands for all that is above it
unfoldable pub capped : ℕ → ℕ
capped n = min n (suc limit)

-- the answer, if there was a wrong digit, or for the total
unfoldable pub decided : Bool → ℕ → Answer ℕ
decided wrong n = cond wrong (refused 10 0) (cond (ltb limit n) (refused 9 0) (answered n))
