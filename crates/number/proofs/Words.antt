-- The words in any letter case, and then digits.
use mathlib.Core.Path.{◌≡◌, refl, ap, ap₂, sym, ◌∙◌}
use mathlib.Core.Bool.{Bool, true, false, ◌&&◌, cond, and-false, beq}
use mathlib.Core.List.{List, [], ◌∷◌}
use Prim.Native.Nat.{ℕ, suc, ◌+◌, ◌≤◌, ◌<◌}
use native.Mathlib.Omega.{arith}
use borrow.Author.Tests.{eqb-true, eqb-false, eq-eqb, ne_eqb}
use lib.Dec.{eqb}
use lib.ListN.{length}
use Rattle.reading.specs.Byte.{bytes, within, lower, begins_no_case}
use Rattle.reading.specs.Table.{answered}
use Rattle.reading.specs.Number.{Base, hexadecimal, decimal, binary, is_digit, same, lowered, all_digits, digits, digits_value, number_value}
use Rattle.cursor.proofs.Places.{begins_no_case_at}
use Rattle.number.proofs.Bytes.{parts, at_most, below, at}

eqb_sym : (a b : ℕ) → eqb a b ≡ eqb b a
eqb_sym a b = go (eqb a b) refl
  where
    go : (y : Bool) → eqb a b ≡ y → eqb a b ≡ eqb b a
    go true e = e ∙ sym (eq-eqb b a (sym (eqb-true a b e)))
    go false e = e ∙ sym (ne_eqb b a λ h. eqb-false a b e (sym h))

-- a text no longer than the word begins with it if it is the word
pub whole : (w t : List ℕ) → length t ≤ length w → begins_no_case w t ≡ same (lowered t) w
whole [] [] h = refl
whole [] (b ∷ t) h = absurd (let z : ⊥ = omega (arith, h) in z)
whole (a ∷ w) [] h = refl
whole (a ∷ w) (b ∷ t) h =
    begins_no_case_at a w (b ∷ t) 0 (omega arith)
    ∙ ap₂ ◌&&◌ (eqb_sym a (lower b)) (whole w t (let z : length t ≤ length w = omega (arith, h) in z))

-- a text of another length is not
pub lengths : (w t : List ℕ) → (length t ≡ length w → ⊥) → same (lowered t) w ≡ false
lengths [] [] h = absurd (h refl)
lengths [] (b ∷ t) h = refl
lengths (a ∷ w) [] h = refl
lengths (a ∷ w) (b ∷ t) h = ap (λ x. eqb (lower b) a && x) (lengths w t λ e. h (ap suc e)) ∙ and-false (eqb (lower b) a)

pub words : (x : Base) (t : List ℕ) {p q : Bool} → same (lowered t) (bytes "true") ≡ p → same (lowered t) (bytes "false") ≡ q
    → number_value x t ≡ cond p (answered 1) (cond q (answered 0) (digits_value x t))
unfolding number_value
words x t e f = ap₂ (λ (p q : Bool). cond p (answered 1) (cond q (answered 0) (digits_value x t))) e f

-- Words and digits ------------------------------------------------------------

pub same_all : (s t : List ℕ) → same s t ≡ true → s ≡ t
same_all [] [] e = refl
same_all [] (b ∷ t) e = cc
same_all (a ∷ s) [] e = cc
same_all (a ∷ s) (b ∷ t) e = let p = parts (eqb a b) (same s t) e in ap₂ ◌∷◌ (eqb-true a b p.0) (same_all s t p.1)

-- a text that passes a test is none that does not
pub unlike : (f : List ℕ → Bool) (s t : List ℕ) → f s ≡ true → f t ≡ false → same s t ≡ false
unlike f s t h k = go (same s t) refl
  where
    go : (y : Bool) → same s t ≡ y → same s t ≡ false
    go false e = e
    go true e = let z : f t ≡ true = ap f (sym (same_all s t e)) ∙ h in cc

-- a digit is one in either letter case
either_case : (x : Base) (b : ℕ) → is_digit x (lower b) ≡ is_digit x b
either_case x b = go (within 65 90 b) refl
  where
    agreed : (p q : Bool) → beq p q ≡ true → p ≡ q
    agreed true true e = refl
    agreed true false e = cc
    agreed false true e = cc
    agreed false false e = refl

    all : (x : Base) → below (λ b. beq (is_digit x (lower b)) (is_digit x b)) 91 ≡ true
    all hexadecimal = refl
    all decimal = refl
    all binary = refl

    go : (y : Bool) → within 65 90 b ≡ y → is_digit x (lower b) ≡ is_digit x b
    go true e = agreed _ _ (at (λ b. beq (is_digit x (lower b)) (is_digit x b)) 91 (all x) b (let h : b < 91 = omega (arith, at_most 65 90 b e) in h))
    go false e = ap (λ y. is_digit x (elim y [ true ↦ b + 32 | false ↦ b ])) e

lowered_digits : (x : Base) (t : List ℕ) → digits x (lowered t) ≡ digits x t
lowered_digits x [] = refl
lowered_digits x (b ∷ t) = all (b ∷ t)
  where
    all : (t : List ℕ) → all_digits x (lowered t) ≡ all_digits x t
    all [] = refl
    all (b ∷ t) = ap₂ ◌&&◌ (either_case x b) (all t)

-- what is a word is no digits, and what is digits is no word
pub no_digits : (x : Base) (t w : List ℕ) → same (lowered t) w ≡ true → digits x w ≡ false → digits x t ≡ false
no_digits x t w e f = sym (lowered_digits x t) ∙ (ap (digits x) (same_all (lowered t) w e) ∙ f)

pub no_word : (x : Base) (t w : List ℕ) → digits x t ≡ true → digits x w ≡ false → same (lowered t) w ≡ false
no_word x t w d f = unlike (digits x) (lowered t) w (lowered_digits x t ∙ d) f

pub true_digits : (x : Base) → digits x (bytes "true") ≡ false
true_digits hexadecimal = refl
true_digits decimal = refl
true_digits binary = refl

pub false_digits : (x : Base) → digits x (bytes "false") ≡ false
false_digits hexadecimal = refl
false_digits decimal = refl
false_digits binary = refl
