-- Document 02, F-3 (specs/Part), of `number::value`: any two calls with one number type that meet the contract.
use mathlib.Core.Path.{◌≡◌, refl, ap, ap₂, sym, ◌∙◌, subst}
use mathlib.Core.Bool.{true, ◌&&◌}
use mathlib.Core.List.{List, [], ◌∷◌, ◌++◌}
use mathlib.Core.Option.{some}
use Prim.Native.Nat.{ℕ, zero, suc, ◌+◌, ◌<◌}
use native.Mathlib.Omega.{arith}
use lib.ListN.{length, get_or, take, drop, replicate, length-replicate, get_or-replicate, length-drop, take-append-drop}
use lib.Seq.{length-take-le, get_or-take, get_or-drop, ext_get_or}
use Rattle.std.specs.Prelude.{Result, Ok, Err}
use Rattle.reading.specs.Byte.{bytes}
use Rattle.reading.specs.Table.{answered}
use Rattle.reading.specs.Number.{Base, hexadecimal, decimal, binary, is_digit, all_digits, digits, digits_value, number_value}
use Rattle.number.specs.declared.NumberType.{NumberType}
use Rattle.number.specs.declared.ValueError.{ValueError}
use Rattle.number.specs.declared.ValueError.TheVariants.{NotANumber, TooLarge}
use Rattle.number.specs.Answers.{base_of, told}
use Rattle.number.specs.Part.{Part, size, byte, bytes_of, Equal, Zeros, Digits, one, Alone}
use Rattle.number.proofs.Words.{words, no_word, true_digits, false_digits}

-- The bytes of a part ---------------------------------------------------------

many : (p : Part) → length (bytes_of p) ≡ size p
many p = length-take-le (size p) (drop p.low p.text) (omega (arith, length-drop p.low p.text, p.ordered, p.inside))

each : (p : Part) (k : ℕ) → k < size p → get_or (bytes_of p) k 0 ≡ byte p k
each p k h = get_or-take (size p) (drop p.low p.text) k 0 h ∙ get_or-drop p.low p.text k 0

-- as many bytes as the part has, and each of them
is_part : (t : List ℕ) (q : Part) → length t ≡ size q → ((k : ℕ) → k < size q → get_or t k 0 ≡ byte q k) → t ≡ bytes_of q
is_part t q e f = ext_get_or 0 t (bytes_of q) (e ∙ sym (many q)) λ k h. let l : k < size q = omega (arith, e, h) in f k l ∙ sym (each q k l)

pub same_bytes : {p q : Part} → Equal p q → bytes_of p ≡ bytes_of q
same_bytes {p} {q} e = is_part (bytes_of p) q (many p ∙ e.many) λ k h. each p k (omega (arith, e.many, h)) ∙ e.each k h

zeros_front : {n : ℕ} {p q : Part} → Zeros n p q → bytes_of p ≡ replicate n 48 ++ bytes_of q
zeros_front {n} {p} {q} z = sym (take-append-drop n (bytes_of p)) ∙ ap₂ ◌++◌ front back
  where
    long : length (take n (bytes_of p)) ≡ n
    long = length-take-le n (bytes_of p) (omega (arith, many p, z.many))

    front : take n (bytes_of p) ≡ replicate n 48
    front =
        ext_get_or 0 (take n (bytes_of p)) (replicate n 48) (long ∙ sym (length-replicate n 48)) λ k h.
        let l : k < n = omega (arith, long, h) in
        get_or-take n (bytes_of p) k 0 l ∙ each p k (omega (arith, z.many, l)) ∙ z.zeros k l ∙ sym (get_or-replicate n k 48 0 l)

    back : drop n (bytes_of p) ≡ bytes_of q
    back =
        is_part (drop n (bytes_of p)) q (omega (arith, length-drop n (bytes_of p), many p, z.many)) λ k h.
        get_or-drop n (bytes_of p) k 0 ∙ each p (n + k) (omega (arith, z.many, h)) ∙ z.behind k h

all_in : (x : Base) (t : List ℕ) → ((k : ℕ) → k < length t → is_digit x (get_or t k 0) ≡ true) → all_digits x t ≡ true
all_in x [] f = refl
all_in x (b ∷ t) f = ap₂ ◌&&◌ (f 0 (omega arith)) (all_in x t λ k h. f (suc k) (omega (arith, h)))

of_digits : {x : Base} {q : Part} → Digits x q → digits x (bytes_of q) ≡ true
of_digits {x} {q} d = go (bytes_of q) (many q) (all_in x (bytes_of q) λ k h. let l : k < size q = omega (arith, many q, h) in ap (is_digit x) (each q k l) ∙ d.each k l)
  where
    go : (t : List ℕ) → length t ≡ size q → all_digits x t ≡ true → digits x t ≡ true
    go [] e h = absurd (let z : ⊥ = omega (arith, e, d.any) in z)
    go (b ∷ t) e h = h

-- Zeros before digits ---------------------------------------------------------

digits_are : (x : Base) (t : List ℕ) → digits x t ≡ true → number_value x t ≡ digits_value x t
digits_are x t d = words x t (no_word x t (bytes "true") d (true_digits x)) (no_word x t (bytes "false") d (false_digits x))

-- one zero
zero_digits : (x : Base) (t : List ℕ) → digits x t ≡ true → digits x (48 ∷ t) ≡ true
zero_digits x [] d = cc
zero_digits hexadecimal (b ∷ t) d = d
zero_digits decimal (b ∷ t) d = d
zero_digits binary (b ∷ t) d = d

zero_value : (x : Base) (t : List ℕ) → digits x t ≡ true → digits_value x (48 ∷ t) ≡ digits_value x t
zero_value x [] d = cc
zero_value hexadecimal (b ∷ t) d = refl
zero_value decimal (b ∷ t) d = refl
zero_value binary (b ∷ t) d = refl

-- any number of them, one after the other
zeros_digits : (x : Base) (n : ℕ) (t : List ℕ) → digits x t ≡ true → digits x (replicate n 48 ++ t) ≡ true
zeros_digits x zero t d = d
zeros_digits x (suc n) t d = zero_digits x (replicate n 48 ++ t) (zeros_digits x n t d)

zeros_value : (x : Base) (n : ℕ) (t : List ℕ) → digits x t ≡ true → digits_value x (replicate n 48 ++ t) ≡ digits_value x t
zeros_value x zero t d = refl
zeros_value x (suc n) t d = zero_value x (replicate n 48 ++ t) (zeros_digits x n t d) ∙ zeros_value x n t d

pub zeros_before : (x : Base) {n : ℕ} {p q : Part} → Zeros n p q → Digits x q → number_value x (bytes_of p) ≡ number_value x (bytes_of q)
zeros_before x {n} {p} {q} z d =
    let h = of_digits d in
    ap (number_value x) (zeros_front z)
    ∙ digits_are x (replicate n 48 ++ bytes_of q) (zeros_digits x n (bytes_of q) h)
    ∙ zeros_value x n (bytes_of q) h
    ∙ sym (digits_are x (bytes_of q) h)

-- "65,535 zeros before a 1 give 1", and so does any number of them
pub zeros_one : (x : Base) {n : ℕ} {p : Part} → Zeros n p one → number_value x (bytes_of p) ≡ answered 1
zeros_one x z = zeros_before x z (one_digit x) ∙ is_one x
  where
    one_digit : (x : Base) → Digits x one
    one_digit x = record { any = omega arith; each = λ k h. let e : k ≡ 0 = omega (arith, h) in subst (λ (k : ℕ). is_digit x (byte one k) ≡ true) (sym e) (at x) }
      where
        at : (x : Base) → is_digit x 49 ≡ true
        at hexadecimal = refl
        at decimal = refl
        at binary = refl

    is_one : (x : Base) → number_value x (bytes_of one) ≡ answered 1
    is_one x = digits_are x (49 ∷ []) (of_digits (one_digit x)) ∙ go x
      where
        go : (x : Base) → digits_value x (49 ∷ []) ≡ answered 1
        go hexadecimal = refl
        go decimal = refl
        go binary = refl

-- The call --------------------------------------------------------------------

told_one : (r s : Result ℕ ValueError) → told r ≡ told s → r ≡ s
told_one (Ok v) (Ok w) e = cc
told_one (Ok v) (Err d) e = cc
told_one (Err d) (Ok w) e = cc
told_one (Err NotANumber) (Err NotANumber) e = refl
told_one (Err TooLarge) (Err TooLarge) e = refl
told_one (Err NotANumber) (Err TooLarge) e = cc
told_one (Err TooLarge) (Err NotANumber) e = cc

module _ (ty : NumberType) (p : Part) (r : Result ℕ ValueError) (m : told r ≡ number_value (base_of ty) (bytes_of p)) where
  pub value_alone : (q : Part) (s : Result ℕ ValueError) → told s ≡ number_value (base_of ty) (bytes_of q) → Alone (some (base_of ty)) p r q s
  value_alone q s n =
      record {
        same = λ e. told_one r s (m ∙ (ap (number_value (base_of ty)) (same_bytes e) ∙ sym n));
        zeros = λ b e k z d. let f : b ≡ base_of ty = cc in told_one r s (m ∙ (zeros_before (base_of ty) z (subst (λ (x : Base). Digits x q) f d) ∙ sym n));
      }

  pub value_one : {n : ℕ} → Zeros n p one → r ≡ Ok 1
  value_one z = told_one r (Ok 1) (m ∙ zeros_one (base_of ty) z)
