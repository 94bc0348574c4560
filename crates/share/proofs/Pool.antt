-- Sums over the texts, and the first text that is wrong, one text after another.
use mathlib.Core.Path.{◌≡◌, refl, ap, sym, subst}
use mathlib.Core.Bool.{Bool, true, false, cond}
use mathlib.Core.List.{List}
use mathlib.Core.Option.{none, some}
use Prim.Native.Nat.{ℕ, zero, suc, ◌+◌, ◌*◌, min, max, ◌≤◌, ◌<◌}
use native.Mathlib.Omega.{arith}
use borrow.Author.Tests.{ltb-true, ltb-false}
use lib.Dec.{ltb}
use Rattle.std.specs.Prelude.{MatchOption, Option as Found, Some, None}
use Rattle.share.specs.Steps.{found_at}
use Rattle.share.specs.Shares.{or_else, wrong, first_wrong, trivia_of, length_of, sum, larger}

-- Sums ------------------------------------------------------------------------

pub sum_none : (f : ℕ → ℕ) → sum f 0 ≡ 0
unfolding sum
sum_none f = refl

-- one more
pub sum_next : (f : ℕ → ℕ) (total i v : ℕ) → total ≡ sum f i → v ≡ f i → total + v ≡ sum f (i + 1)
unfolding sum
sum_next f total i v e h = omega (arith, e, h, ap (λ (k : ℕ). sum f k) (let u : i + 1 ≡ suc i = omega arith in u))

-- no more
sum_grows : (f : ℕ → ℕ) (i n : ℕ) → i ≤ n → sum f i ≤ sum f n
unfolding sum
sum_grows f i zero h = omega (arith, ap (λ (k : ℕ). sum f k) (let e : i ≡ 0 = omega arith in e))
sum_grows f i (suc n) h = go (ltb n i) refl (sum_grows f i n)
  where
    go : (b : Bool) → ltb n i ≡ b → (i ≤ n → sum f i ≤ sum f n) → sum f i ≤ sum f n + f n
    go true q g = omega (arith, ap (λ (k : ℕ). sum f k) (let e : i ≡ suc n = omega (arith, ltb-true n i q) in e))
    go false q g = omega (arith, g (ltb-false n i q))

-- counted as far as one more than a bound
pub sum_above : (f : ℕ → ℕ) (total i n m : ℕ) → total ≡ sum f (i + 1) → i < n → m < total → m + 1 ≡ min (sum f n) (suc m)
sum_above f total i n m e h l = omega (arith, e, sum_grows f (i + 1) n (omega arith))

-- The first that is wrong -----------------------------------------------------

module _ (w : List ℕ) where
  abbrev wrong_at : ℕ → Bool
  wrong_at i = wrong (trivia_of w i) (length_of w i)

  none_first : (n : ℕ) → ((k : ℕ) → 0 ≤ k → k < n → wrong_at k ≡ false) → none ≡ first_wrong w n
  unfolding first_wrong
  none_first zero h = refl
  none_first (suc n) h = rw (sym (none_first n (λ k a l. h k a (omega arith))), h n (omega arith) (omega arith))

  one_first : (i n : ℕ) → i < n → none ≡ first_wrong w i → wrong_at i ≡ true → some i ≡ first_wrong w n
  unfolding first_wrong
  one_first i zero h e f = absurd (let z : ⊥ = omega arith in z)
  one_first i (suc n) h e f = go (ltb i n) refl (λ l. one_first i n l e f)
    where
      go : (b : Bool) → ltb i n ≡ b → (i < n → some i ≡ first_wrong w n) → some i ≡ or_else (first_wrong w n) (cond (wrong_at n) (some n) none)
      go true q g = rw (sym (g (ltb-true i n q)))
      go false q g =
          subst (λ (k : ℕ). some i ≡ or_else (first_wrong w k) (cond (wrong_at k) (some k) none)) (let u : i ≡ n = omega (arith, ltb-false i n q) in u)
          (rw (sym e, f))

  -- what `find` says of the texts' numbers
  pub found_first : (r : Found ℕ) (n : ℕ)
      → MatchOption r ((k : ℕ) → 0 ≤ k → k < n → wrong_at k ≡ false) (λ i. (0 ≤ i) × (i < n) × (wrong_at i ≡ true) × ((k : ℕ) → 0 ≤ k → k < i → wrong_at k ≡ false))
      → found_at r ≡ first_wrong w n
  found_first None n h = none_first n h
  found_first (Some i) n h = one_first i n h.1 (none_first i h.3) h.2

-- Products --------------------------------------------------------------------

-- a larger share, by the words and the products of the code
pub larger_is : (w : List ℕ) (i j a l c k b d : ℕ) → a ≡ trivia_of w i → l ≡ length_of w i → c ≡ trivia_of w j → k ≡ length_of w j
    → b ≡ max 1 l → d ≡ max 1 k → ltb (c * b) (a * d) ≡ larger w i j
unfolding larger
larger_is w i j a l c k b d e f g h p q = rw (p, q, e, f, g, h)
