-- A total above the limit need not be exact, since the digits behind it only make it larger.
use mathlib.Core.Path.{◌≡◌, refl, ap, ap₂, sym, ◌∙◌}
use mathlib.Core.Bool.{Bool, true, false, ◌&&◌, ◌||◌, cond, not}
use mathlib.Core.List.{List, [], ◌∷◌}
use Prim.Native.Nat.{ℕ, suc, ◌+◌, ◌*◌, ◌≤◌, ◌<◌}
use native.Mathlib.Nat.{le-mul_of_pos_right}
use native.Mathlib.Omega.{arith}
use borrow.Author.Tests.{lt-ltb, ltb-true, ltb-false}
use lib.Dec.{ltb, leb, eqb, eqb-suc-zero}
use lib.ListN.{length, get_or, drop, drop_of_length-le}
use Rattle.reading.specs.Table.{Answer, answered, refused}
use Rattle.reading.specs.Number.{Base, hexadecimal, decimal, binary, radix, digit_value, all_digits, value_from, digits_value}
use Rattle.number.specs.Steps.{digit_or_none, limit, capped, decided}
use Rattle.number.proofs.Bytes.{is_one, is_none}
use Rattle.cursor.proofs.Places.{cons}

pub radix_pos : (x : Base) → 0 < radix x
radix_pos hexadecimal = omega arith
radix_pos decimal = omega arith
radix_pos binary = omega arith

capped_same : (n : ℕ) → ltb limit n ≡ false → capped n ≡ n
unfolding capped
capped_same n e = omega (arith, ltb-false limit n e)

capped_top : (n : ℕ) → ltb limit n ≡ true → capped n ≡ suc limit
unfolding capped
capped_top n e = omega (arith, ltb-true limit n e)

-- with a digit behind it
capped_next : (n r d : ℕ) → 0 < r → capped (capped n * r + d) ≡ capped (n * r + d)
capped_next n r d h = go (ltb limit n) refl
  where
    top : (m : ℕ) → limit < m → capped (m * r + d) ≡ suc limit
    top m l = capped_top (m * r + d) (lt-ltb limit (m * r + d) (omega (arith, le-mul_of_pos_right m h)))

    go : (y : Bool) → ltb limit n ≡ y → capped (capped n * r + d) ≡ capped (n * r + d)
    go true e = ap (λ (m : ℕ). capped (m * r + d)) (capped_top n e) ∙ top (suc limit) (omega arith) ∙ sym (top n (ltb-true _ _ e))
    go false e = ap (λ (m : ℕ). capped (m * r + d)) (capped_same n e)

-- with any digits behind it, in any base
capped_from : (x : Base) (n : ℕ) (t : List ℕ) → capped (value_from x (capped n) t) ≡ capped (value_from x n t)
unfolding capped
capped_from x n [] = omega arith
capped_from x n (b ∷ t) =
    sym (capped_from x (capped n * radix x + digit_value b) t)
    ∙ ap (λ (m : ℕ). capped (value_from x m t)) (capped_next n (radix x) (digit_value b) (radix_pos x))
    ∙ capped_from x (n * radix x + digit_value b) t

decided_capped : (w : Bool) (n : ℕ) → decided w (capped n) ≡ decided w n
unfolding decided
decided_capped w n = go (ltb limit n) refl
  where
    go : (y : Bool) → ltb limit n ≡ y → decided w (capped n) ≡ decided w n
    go true e = ap (decided w) (capped_top n e) ∙ sym (ap (λ (y : Bool). cond w (refused 10 0) (cond y (refused 9 0) (answered n))) e)
    go false e = ap (decided w) (capped_same n e)

-- the answer for what was read, with these bytes behind it
unfoldable pub judged : Base → Bool → ℕ → List ℕ → Answer ℕ
judged x w n t = decided (w || not (all_digits x t)) (value_from x n t)

judged_capped : (x : Base) (w : Bool) (n : ℕ) (t : List ℕ) → judged x w (capped n) t ≡ judged x w n t
unfolding judged
judged_capped x w n t =
    sym (decided_capped (w || not (all_digits x t)) (value_from x (capped n) t))
    ∙ ap (decided (w || not (all_digits x t))) (capped_from x n t)
    ∙ decided_capped (w || not (all_digits x t)) (value_from x n t)

judged_all : (x : Base) (s : List ℕ) → judged x (eqb (length s) 0) 0 s ≡ digits_value x s
unfolding judged decided
judged_all x [] = refl
judged_all x (b ∷ t) = ap (λ (w : Bool). judged x w 0 (b ∷ t)) (eqb-suc-zero (length t))

judged_none : (x : Base) (w : Bool) (n : ℕ) → decided w n ≡ judged x w n []
unfolding judged
judged_none x true n = refl
judged_none x false n = refl

-- one byte more is read
judged_next : (x : Base) (w : Bool) (n b : ℕ) (t : List ℕ) → b < 256
    → judged x (w || leb (radix x) (digit_or_none b)) (capped (n * radix x + digit_or_none b)) t ≡ judged x w n (b ∷ t)
unfolding judged decided
judged_next x true n b t h = refl
judged_next x false n b t h = go (leb (radix x) (digit_or_none b)) refl
  where
    digit? : Bool → Answer ℕ
    digit? y = decided (not (y && all_digits x t)) (value_from x (n * radix x + digit_value b) t)

    go : (y : Bool) → leb (radix x) (digit_or_none b) ≡ y → judged x y (capped (n * radix x + digit_or_none b)) t ≡ judged x false n (b ∷ t)
    go true e = sym (ap digit? (is_none x b h e))
    go false e =
        let o = is_one x b h e in
        judged_capped x false (n * radix x + digit_or_none b) t
        ∙ ap (λ (d : ℕ). judged x false (n * radix x + d) t) (sym o.1)
        ∙ sym (ap digit? o.0)

-- the loop: what was read, with the bytes that are left behind it, is answered as the whole
pub record Left (s : List ℕ) (base : ℕ) (w : Bool) (n i : ℕ) : Type 0 where
  pub within : i ≤ length s
  pub whole : (x : Base) → base ≡ radix x → judged x w n (drop i s) ≡ digits_value x s

pub left_all : (s : List ℕ) (base : ℕ) → Left s base (eqb (length s) 0) 0 0
left_all s base = record { within = omega arith; whole = λ x p. judged_all x s }

pub left_next : {s : List ℕ} {base : ℕ} {w : Bool} {n i d m : ℕ} → Left s base w n i → i < length s → get_or s i 0 < 256
    → d ≡ digit_or_none (get_or s i 0) → m ≡ capped (n * base + d) → Left s base (w || leb base d) m (i + 1)
left_next {s} {base} {w} {n} {i} {d} u h f q r =
    record {
      within = omega arith;
      whole = λ x p.
          ap (λ (k : ℕ). judged x (w || leb base d) k (drop (i + 1) s)) r
          ∙ ap₂ (λ (y z : ℕ). judged x (w || leb y z) (capped (n * y + z)) (drop (i + 1) s)) p q
          ∙ judged_next x w n (get_or s i 0) (drop (i + 1) s) f
          ∙ ap (judged x w n) (sym (cons s i h)) ∙ u.whole x p;
    }

pub left_none : {s : List ℕ} {base : ℕ} {w : Bool} {n i : ℕ} → Left s base w n i → length s ≤ i → (x : Base) → base ≡ radix x → decided w n ≡ digits_value x s
left_none {s} {w = w} {n} u h x p = judged_none x w n ∙ ap (judged x w n) (sym (drop_of_length-le s h)) ∙ u.whole x p
