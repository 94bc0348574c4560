-- How many bytes a leaf takes at least, where it fits.
use mathlib.Core.Bool.{Bool, true, false, ◌&&◌}
use mathlib.Core.List.{List, [], ◌∷◌}
use mathlib.Core.Option.{Option, none, some}
use Prim.Native.Nat.{ℕ, zero, suc, ◌≤◌, zero-le, suc-le-suc}
use native.Mathlib.Omega.{arith}
use lib.Dec.{leb}
use lib.ListN.{length}
use Rattle.reading.specs.Byte.{begins, begins_no_case, run, at_least_one, given, comment}
use Rattle.reading.specs.Grammar.{Leaf, one, run0, run1, tag, tag_no_case, comment_rest, one_of, taken}

-- how many bytes a leaf takes at least
abbrev pub least : Leaf → ℕ
least (one f) = 1
least (run0 f) = 0
least (run1 f) = 1
least (tag w) = length w
least (tag_no_case w) = length w
least comment_rest = 0

-- each word takes a byte at least
abbrev pub all_one : List (Leaf × ℕ) → Bool
all_one [] = true
all_one (x ∷ xs) = leb 1 (least x.0) && all_one xs

abbrev pub Least : ℕ → Option ℕ → Type 0
Least k none = Unit {0}
Least k (some n) = k ≤ n

given_least : (b : Bool) (n : ℕ) → Least n (given b n)
given_least true n = omega arith
given_least false n = tt

pub one_least : (f : ℕ → Bool) (t : List ℕ) → Least 1 (one_of f t)
one_least f [] = tt
one_least f (b ∷ t) = given_least (f b) 1

at_least_one_least : (n : ℕ) → Least 1 (at_least_one n)
at_least_one_least zero = tt
at_least_one_least (suc n) = suc-le-suc zero-le

any_least : (o : Option ℕ) → Least 0 o
any_least none = tt
any_least (some n) = zero-le

pub taken_least : (f : Leaf) (t : List ℕ) → Least (least f) (taken f t)
taken_least (one f) t = one_least f t
taken_least (run0 f) t = zero-le
taken_least (run1 f) t = at_least_one_least (run f t)
taken_least (tag w) t = given_least (begins w t) (length w)
taken_least (tag_no_case w) t = given_least (begins_no_case w t) (length w)
taken_least comment_rest t = any_least (comment 0 0 t)
