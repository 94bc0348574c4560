-- The lemmas that docs/PORT.md names and nothing cites now.
use mathlib.Core.Path.{◌≡◌, ap, sym, subst, ◌∙◌}
use mathlib.Core.List.{List}
use mathlib.Core.Option.{none}
use Prim.Native.Nat.{ℕ, suc, ◌*◌, ◌^◌, min, ◌≤◌, ◌<◌}
use native.Mathlib.Omega.{arith}
use native.Mathlib.Nat.{mul-le-mul}
use Rattle.std.specs.Prelude.{Option as Found}
use Rattle.share.specs.Shares.{first_wrong, ranked, sum}
use Rattle.share.specs.Steps.{largest_of}
use Rattle.share.proofs.Divisors.{Common}

-- Divisors --------------------------------------------------------------------

pub common_turned : (a b : ℕ) → Common a b b a
common_turned a b = record { left = λ d h k. k; right = λ d h k. h; fst = λ d h k. k; snd = λ d h k. h }

-- Sums ------------------------------------------------------------------------

-- no more
pub sum_all : (f : ℕ → ℕ) (total i n : ℕ) → total ≡ sum f i → i ≤ n → n ≤ i → total ≡ sum f n
sum_all f total i n e h k = e ∙ ap (λ (j : ℕ). sum f j) (let u : i ≡ n = omega arith in u)

pub sum_within : (f : ℕ → ℕ) (total n m : ℕ) → total ≡ sum f n → total ≤ m → total ≡ min (sum f n) (suc m)
sum_within f total n m e h = omega (arith, e)

-- of two words there is one of 64 bits
pub product : (a b : ℕ) → a < 2 ^ 32 → b < 2 ^ 32 → a * b < 2 ^ 64
product a b h k = omega (arith, mul-le-mul {n₁ = a} {m₁ = b} {n₂ = 4294967295} {m₂ = 4294967295} (omega arith) (omega arith))

-- All the texts ---------------------------------------------------------------

module _ (w : List ℕ) where
  pub none_found : (i n : ℕ) → first_wrong w i ≡ none → i ≤ n → n ≤ i → none ≡ first_wrong w n
  none_found i n e h k = sym (subst (λ (j : ℕ). first_wrong w j ≡ none) (let u : i ≡ n = omega arith in u) e)

  -- the three largest of the first i texts
  pub held_all : (i n : ℕ) (ps : List (Found ℕ)) → ps ≡ largest_of (ranked w i) → i ≤ n → n ≤ i → ps ≡ largest_of (ranked w n)
  held_all i n ps e h k = e ∙ ap (λ (j : ℕ). largest_of (ranked w j)) (let u : i ≡ n = omega arith in u)
