-- Words of three letters, found by their hash: one law for every list whose words the test `tidy` passes.
-- Assumes nothing.
use mathlib.Core.Path.{◌≡◌, refl, ap, sym, subst, ◌∙◌}
use mathlib.Core.Bool.{Bool, true, false, ◌&&◌}
use mathlib.Core.List.{List, [], ◌∷◌}
use mathlib.Core.Option.{Option, none, some}
use Prim.Native.Nat.{ℕ, zero, suc, ◌+◌, ◌-◌, ◌*◌, ◌/◌, ◌%◌, ◌≤◌, ◌<◌}
use native.Mathlib.Omega.{arith}
use borrow.Author.Tests.{eq-eqb, ne_eqb, eqb-true, eqb-false}
use lib.Dec.{T, ltb, leb, eqb, ltb→lt, leb→le, eqb→eq}
use lib.ListN.{length, get_or, drop, length-drop}
use Rattle.reading.specs.Byte.{lower, given}
use Rattle.reading.specs.Grammar.{Leaf, tag_no_case}
use Rattle.reading.proofs.Bool.{and_left, and_right}
use Rattle.cursor.specs.Word.{word_or, first_word}
use Rattle.cursor.proofs.Places.{cons}
use Rattle.word.specs.Hash.{pack, hash, letter, letters, this_or, entry_at, detail_of}
use Rattle.word.specs.Words.{mnemonic_list}
use Rattle.word.proofs.Arms.{Others, keyed, apart}
use Rattle.word.proofs.Picks.{too_long}

-- The test -----------------------------------------------------------------

abbrev byte : Leaf × ℕ → ℕ → Bool
byte x k = ltb (letter x k) 256

abbrev found : List (Leaf × ℕ) → Leaf × ℕ → Bool
found ws x = eqb (entry_at ws (hash (letters x)) % 16777216) (letters x)

-- each word's letters are bytes, its detail is not 0, and its hash leads to it in the list ws
abbrev pub tidy : List (Leaf × ℕ) → List (Leaf × ℕ) → Bool
tidy ws [] = true
tidy ws (x ∷ xs) = ((byte x 0 && byte x 1) && (byte x 2 && leb 1 x.1)) && (found ws x && tidy ws xs)

record Tidy (ws : List (Leaf × ℕ)) (x : Leaf × ℕ) (xs : List (Leaf × ℕ)) : Type 0 where
  first : letter x 0 < 256
  second : letter x 1 < 256
  third : letter x 2 < 256
  detailed : 1 ≤ x.1
  leads : entry_at ws (hash (letters x)) % 16777216 ≡ letters x
  rest : T (tidy ws xs)

tidily : (ws : List (Leaf × ℕ)) (x : Leaf × ℕ) (xs : List (Leaf × ℕ)) → T (tidy ws (x ∷ xs)) → Tidy ws x xs
tidily ws x xs t =
    let p = and_left ((byte x 0 && byte x 1) && (byte x 2 && leb 1 x.1)) (found ws x && tidy ws xs) t in
    let q = and_right ((byte x 0 && byte x 1) && (byte x 2 && leb 1 x.1)) (found ws x && tidy ws xs) t in
    let a = and_left (byte x 0 && byte x 1) (byte x 2 && leb 1 x.1) p in
    let b = and_right (byte x 0 && byte x 1) (byte x 2 && leb 1 x.1) p in
    record {
      first = ltb→lt (letter x 0) 256 (and_left (byte x 0) (byte x 1) a);
      second = ltb→lt (letter x 1) 256 (and_right (byte x 0) (byte x 1) a);
      third = ltb→lt (letter x 2) 256 (and_left (byte x 2) (leb 1 x.1) b);
      detailed = leb→le 1 x.1 (and_right (byte x 2) (leb 1 x.1) b);
      leads = eqb→eq (entry_at ws (hash (letters x)) % 16777216) (letters x) (and_left (found ws x) (tidy ws xs) q);
      rest = and_right (found ws x) (tidy ws xs) q;
    }

pub mnemonics_tidy : (b : Bool) → T (tidy (mnemonic_list b) (mnemonic_list b))
unfolding entry_at
mnemonics_tidy true = tt
mnemonics_tidy false = tt

-- The table ----------------------------------------------------------------

abbrev pub place : Leaf × ℕ → ℕ
place x = hash (letters x)

pub no_entry : (ks : List ℕ) (xs : List (Leaf × ℕ)) (h : ℕ) → T (keyed place ks xs) → Others (Unit {0}) ks h → 0 ≡ entry_at xs h
unfolding entry_at
no_entry ks [] h t o = refl
no_entry ks (x ∷ xs) h t o =
    let a = apart place ks x xs h t o in
    no_entry ks xs h a.1 o ∙ ap (λ (y : Bool). this_or y (x.1 * 16777216 + letters x) (entry_at xs h)) (sym a.0)

-- the entry at a number's hash has this number: its detail is the number's
pub there : (ws xs : List (Leaf × ℕ)) (n : ℕ) → T (tidy ws xs) → entry_at xs (hash n) % 16777216 ≡ n
    → entry_at xs (hash n) / 16777216 ≡ detail_of xs n
unfolding entry_at detail_of
there ws [] n t e = refl
there ws (x ∷ xs) n t e =
    let w : Tidy ws x xs = tidily ws x xs t in
    (elim (eqb (hash (letters x)) (hash n)) as (λ y. eqb (hash (letters x)) (hash n) ≡ y
    → this_or y (x.1 * 16777216 + letters x) (entry_at xs (hash n)) % 16777216 ≡ n
    → this_or y (x.1 * 16777216 + letters x) (entry_at xs (hash n)) / 16777216 ≡ detail_of (x ∷ xs) n) [
      | true ↦ λ q p.
          let l : letters x ≡ n = omega (arith, w.first, w.second, w.third, p) in
          let d : (x.1 * 16777216 + letters x) / 16777216 ≡ x.1 = omega (arith, w.first, w.second, w.third) in
          d ∙ ap (λ (y : Bool). this_or y x.1 (detail_of xs n)) (sym (eq-eqb (letters x) n l))
      | false ↦ λ q p.
          there ws xs n w.rest p
          ∙ ap (λ (y : Bool). this_or y x.1 (detail_of xs n)) (sym (ne_eqb (letters x) n λ l. eqb-false _ _ q (ap hash l)))
    ]) refl e

-- it has another: no word has the number
pub not_there : (ws xs : List (Leaf × ℕ)) (n : ℕ) → T (tidy ws xs) → (entry_at ws (hash n) % 16777216 ≡ n → ⊥) → 0 ≡ detail_of xs n
unfolding detail_of
not_there ws [] n t h = refl
not_there ws (x ∷ xs) n t h =
    let w : Tidy ws x xs = tidily ws x xs t in
    not_there ws xs n w.rest h
    ∙ ap (λ (y : Bool). this_or y x.1 (detail_of xs n))
    (sym (ne_eqb (letters x) n λ l. h (subst (λ (m : ℕ). entry_at ws (hash m) % 16777216 ≡ m) l w.leads)))

-- The word at a place ------------------------------------------------------

-- a detail's word
abbrev pub word_of : ℕ → Option (ℕ × ℕ)
word_of zero = none
word_of (suc d) = some (3, suc d)

pub no_detail : (d : ℕ) → d ≡ 0 → word_of d ≡ none
no_detail zero e = refl
no_detail (suc d) e = absurd (let z : ⊥ = omega arith in z)

pub a_detail : (d : ℕ) → 1 ≤ d → word_of d ≡ some (3, d)
a_detail zero h = absurd (let z : ⊥ = omega arith in z)
a_detail (suc d) h = refl

-- the list, its words written out again with three letters
abbrev three : List (Leaf × ℕ) → List (Leaf × ℕ)
three [] = []
three (x ∷ xs) = (tag_no_case (letter x 0 ∷ letter x 1 ∷ letter x 2 ∷ []), x.1) ∷ three xs

mnemonics_three : (b : Bool) → three (mnemonic_list b) ≡ mnemonic_list b
mnemonics_three true = refl
mnemonics_three false = refl

too_short : (xs : List (Leaf × ℕ)) (t : List ℕ) → length t < 3 → first_word (three xs) t ≡ none
unfolding first_word
too_short [] t h = refl
too_short (x ∷ xs) t h =
    ap (λ (y : Bool). word_or x.1 (given y 3) (first_word (three xs) t)) (too_long (letter x 0 ∷ letter x 1 ∷ letter x 2 ∷ []) t h)
    ∙ too_short xs t h

abbrev all_three : Bool → Bool → Bool → Bool
all_three x y z = elim x [ true ↦ elim y [ true ↦ elim z [ true ↦ true | false ↦ false ] | false ↦ false ] | false ↦ false ]

-- three letters are equal where their numbers are
same : (p q r a b c : ℕ) → p < 256 → q < 256 → r < 256 → a < 256 → b < 256 → c < 256
    → all_three (eqb p a) (eqb q b) (eqb r c) ≡ eqb (pack p q r) (pack a b c)
same p q r a b c hp hq hr ha hb hc = go (eqb p a) (eqb q b) (eqb r c) refl refl refl
  where
    go : (x y z : Bool) → eqb p a ≡ x → eqb q b ≡ y → eqb r c ≡ z
        → all_three x y z ≡ eqb (pack p q r) (pack a b c)
    go true true true e f g =
        sym (eq-eqb (pack p q r) (pack a b c) (omega (arith, eqb-true p a e, eqb-true q b f, eqb-true r c g)))
    go true true false e f g = sym (ne_eqb (pack p q r) (pack a b c) λ h. eqb-false r c g (omega arith))
    go true false z e f g = sym (ne_eqb (pack p q r) (pack a b c) λ h. eqb-false q b f (omega arith))
    go false y z e f g = sym (ne_eqb (pack p q r) (pack a b c) λ h. eqb-false p a e (omega arith))

module _ (x y z : ℕ) (u : List ℕ) (hx : lower x < 256) (hy : lower y < 256) (hz : lower z < 256) where
  by_detail : (ws xs : List (Leaf × ℕ)) → T (tidy ws xs)
      → first_word (three xs) (x ∷ y ∷ z ∷ u) ≡ word_of (detail_of xs (pack (lower x) (lower y) (lower z)))
  unfolding first_word detail_of
  by_detail ws [] t = refl
  by_detail ws (v ∷ xs) t =
      let w : Tidy ws v xs = tidily ws v xs t in
      ap (λ (e : Bool). word_or v.1 (given e 3) (first_word (three xs) (x ∷ y ∷ z ∷ u)))
      (same (letter v 0) (letter v 1) (letter v 2) (lower x) (lower y) (lower z) w.first w.second w.third hx hy hz)
      ∙ (elim (eqb (letters v) (pack (lower x) (lower y) (lower z))) as (λ e. word_or v.1 (given e 3) (first_word (three xs) (x ∷ y ∷ z ∷ u))
      ≡ word_of (this_or e v.1 (detail_of xs (pack (lower x) (lower y) (lower z))))) [
        | true ↦ sym (a_detail v.1 w.detailed)
        | false ↦ by_detail ws xs w.rest
      ])

three_bytes : (s : List ℕ) (i : ℕ) → i + 3 ≤ length s → drop i s ≡ get_or s i 0 ∷ get_or s (i + 1) 0 ∷ get_or s (i + 2) 0 ∷ drop (i + 2 + 1) s
three_bytes s i h =
    let e : i + 1 + 1 ≡ i + 2 = omega arith in
    cons s i (omega arith) ∙ ap (get_or s i 0 ∷◌) (cons s (i + 1) (omega arith)
    ∙ ap (get_or s (i + 1) 0 ∷◌) (ap (λ (k : ℕ). drop k s) e ∙ cons s (i + 2) (omega arith)))

-- The mnemonics ------------------------------------------------------------

module _ (b : Bool) (s : List ℕ) (i : ℕ) where
  pub no_mnemonic : length s - i < 3 → first_word (mnemonic_list b) (drop i s) ≡ none
  no_mnemonic h =
      ap (λ (xs : List (Leaf × ℕ)). first_word xs (drop i s)) (sym (mnemonics_three b))
      ∙ too_short (mnemonic_list b) (drop i s) (omega (arith, length-drop i s))

  pub mnemonic_is : (x y z : ℕ) → i + 3 ≤ length s → x ≡ lower (get_or s i 0) → y ≡ lower (get_or s (i + 1) 0) → z ≡ lower (get_or s (i + 2) 0)
      → x < 256 → y < 256 → z < 256 → first_word (mnemonic_list b) (drop i s) ≡ word_of (detail_of (mnemonic_list b) (pack x y z))
  mnemonic_is x y z h p q r hx hy hz =
      let e : pack (lower (get_or s i 0)) (lower (get_or s (i + 1) 0)) (lower (get_or s (i + 2) 0)) ≡ pack x y z = cc in
      ap (λ (xs : List (Leaf × ℕ)). first_word xs (drop i s)) (sym (mnemonics_three b))
      ∙ ap (first_word (three (mnemonic_list b))) (three_bytes s i h)
      ∙ by_detail (get_or s i 0) (get_or s (i + 1) 0) (get_or s (i + 2) 0) (drop (i + 2 + 1) s) (subst (◌< 256) p hx) (subst (◌< 256) q hy) (subst (◌< 256) r hz)
      (mnemonic_list b) (mnemonic_list b) (mnemonics_tidy b)
      ∙ ap (λ (n : ℕ). word_of (detail_of (mnemonic_list b) n)) e
