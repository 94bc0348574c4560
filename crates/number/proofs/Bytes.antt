-- The digits of the three bases, by one test over all bytes.
use mathlib.Core.Path.{◌≡◌, refl, ap, sym, ◌∙◌}
use mathlib.Core.Bool.{Bool, true, false, ◌&&◌, not}
use Prim.Native.Nat.{ℕ, zero, suc, ◌≤◌, ◌<◌}
use native.Mathlib.Nat.{le_of_suc-le-suc, not-suc-le-zero}
use native.Mathlib.Omega.{arith}
use borrow.Author.Tests.{leb-true, eqb-true, not-true}
use lib.Dec.{eqb, leb}
use Rattle.reading.specs.Byte.{within}
use Rattle.reading.specs.Number.{Base, hexadecimal, decimal, binary, radix, is_digit, digit_value}
use Rattle.number.specs.Steps.{digit_or_none}

pub parts : (a b : Bool) → a && b ≡ true → (a ≡ true) × (b ≡ true)
parts true b e = (refl, e)
parts false b e = absurd (let z : ◌≡◌ {A = ℕ} 0 1 = cc in let y : ⊥ = omega arith in y)

pub at_least : (a z b : ℕ) → within a z b ≡ true → a ≤ b
at_least a z b e = leb-true a b (parts (leb a b) (leb b z) e).0

pub at_most : (a z b : ℕ) → within a z b ≡ true → b ≤ z
at_most a z b e = leb-true b z (parts (leb a b) (leb b z) e).1

-- the test passes at each number below n
abbrev pub below : (ℕ → Bool) → ℕ → Bool
below f zero = true
below f (suc n) = f 0 && below (λ k. f (suc k)) n

pub at : (f : ℕ → Bool) (n : ℕ) → below f n ≡ true → (k : ℕ) → k < n → f k ≡ true
at f zero e k h = absurd (not-suc-le-zero h)
at f (suc n) e zero h = (parts (f 0) (below (λ k. f (suc k)) n) e).0
at f (suc n) e (suc k) h = at (λ k. f (suc k)) n (parts (f 0) (below (λ k. f (suc k)) n) e).1 k (le_of_suc-le-suc h)

-- what is below the radix is the value of a digit, and any other byte is none
abbrev right : Base → ℕ → Bool → Bool
right x b true = not (is_digit x b)
right x b false = is_digit x b && eqb (digit_value b) (digit_or_none b)

abbrev wrong : Base → ℕ → Bool
wrong x b = leb (radix x) (digit_or_none b)

all : (x : Base) → below (λ b. right x b (wrong x b)) 256 ≡ true
unfolding digit_or_none
all hexadecimal = refl
all decimal = refl
all binary = refl

module _ (x : Base) (b : ℕ) (h : b < 256) where
  says : (y : Bool) → wrong x b ≡ y → right x b y ≡ true
  says y e = ap (right x b) (sym e) ∙ at (λ b. right x b (wrong x b)) 256 (all x) b h

  pub is_one : wrong x b ≡ false → (is_digit x b ≡ true) × (digit_value b ≡ digit_or_none b)
  is_one e =
      let p = parts (is_digit x b) (eqb (digit_value b) (digit_or_none b)) (says false e) in
      (p.0, eqb-true _ _ p.1)

  pub is_none : wrong x b ≡ true → is_digit x b ≡ false
  is_none e = not-true _ (says true e)
