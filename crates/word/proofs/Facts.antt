-- What the readers' callers need: the lists are those of the rules, and a word that was picked is short and stays in the text.
-- Assumes nothing.
use mathlib.Core.Path.{◌≡◌, refl, ap, ap₂, sym, ◌∙◌}
use mathlib.Core.Bool.{Bool, true, false, ◌&&◌}
use mathlib.Core.List.{List, [], ◌∷◌}
use mathlib.Core.Option.{Option, none, some}
use Prim.Native.Nat.{ℕ, ◌+◌, ◌≤◌}
use native.Mathlib.Omega.{arith}
use lib.Dec.{T, leb, leb→le}
use lib.ListN.{length, drop}
use Rattle.reading.specs.Byte.{begins, begins_no_case, within, given}
use Rattle.reading.specs.Grammar.{Leaf, one, run0, run1, tag, tag_no_case, comment_rest, pick, taken}
use Rattle.reading.specs.Kind.{operatorᵏ, modifierᵏ, encodingᵏ}
use Rattle.reading.specs.Rules.{trivia, modifier, term_operator, expression_operator, encoding}
use Rattle.reading.proofs.Bool.{and_left, and_right}
use Rattle.cursor.specs.Word.{word_or, first_word}
use Rattle.cursor.proofs.Places.{leaf_within}
use Rattle.word.specs.Hash.{spelt}
use Rattle.std.specs.Prelude.{Option as Optional, Some}
use Rattle.word.specs.Words.{modifiers, term_operators, expression_operators, encodings, mnemonic_list, word, picked_of}
use Rattle.word.specs.declared.Word.{Word}

-- The rules ----------------------------------------------------------------

pub modifier_is : modifier ≡ pick modifierᵏ trivia modifiers
unfolding modifier
modifier_is = refl

pub term_operator_is : term_operator ≡ pick operatorᵏ trivia term_operators
unfolding term_operator
term_operator_is = refl

pub expression_operator_is : expression_operator ≡ pick operatorᵏ trivia expression_operators
unfolding expression_operator
expression_operator_is = refl

pub encoding_is : encoding ≡ pick encodingᵏ trivia encodings
unfolding encoding
encoding_is = refl

-- A word that begins at a place ----------------------------------------------

pub begins_within : (w s : List ℕ) (i : ℕ) → i ≤ length s → begins_no_case w (drop i s) ≡ true → i + length w ≤ length s
begins_within w s i h e = leaf_within (tag_no_case w) s i (length w) h (ap (λ (x : Bool). given x (length w)) e)

-- A word that was picked -----------------------------------------------------

-- each word has one to nine bytes, and its detail is at most 56
abbrev small : Leaf × ℕ → Bool
small x = within 1 9 (length (spelt x.0)) && leb x.1 56

abbrev pub slight : List (Leaf × ℕ) → Bool
slight [] = true
slight (x ∷ xs) = small x && slight xs

pub mnemonics_slight : (b : Bool) → T (slight (mnemonic_list b))
mnemonics_slight true = tt
mnemonics_slight false = tt

-- a word of n bytes at the place i, with the detail d
pub record Slight (s : List ℕ) (i n d : ℕ) : Type 0 where
  pub some_bytes : 1 ≤ n
  pub within : i + n ≤ length s
  pub short : n ≤ 9
  pub low : d ≤ 56

given_all : (b : Bool) (m n : ℕ) → given b m ≡ some n → n ≡ m
given_all true m n e = cc
given_all false m n e = cc

-- a leaf with bytes of its own takes these
exact : (f : Leaf) (t : List ℕ) (n : ℕ) → T (leb 1 (length (spelt f))) → taken f t ≡ some n → n ≡ length (spelt f)
exact (one f) t n u e = absurd u
exact (run0 f) t n u e = absurd u
exact (run1 f) t n u e = absurd u
exact (tag w) t n u e = given_all (begins w t) (length w) n e
exact (tag_no_case w) t n u e = given_all (begins_no_case w t) (length w) n e
exact comment_rest t n u e = absurd u

first_slight : (xs : List (Leaf × ℕ)) (s : List ℕ) (i n d : ℕ) → T (slight xs) → i ≤ length s
    → first_word xs (drop i s) ≡ some (n, d) → Slight s i n d
unfolding first_word
first_slight [] s i n d u h e = absurd (let z : ◌≡◌ {A = ℕ} 0 1 = cc in let y : ⊥ = omega arith in y)
first_slight (x ∷ xs) s i n d u h e =
    (elim (taken x.0 (drop i s)) as (λ o. taken x.0 (drop i s) ≡ o
    → word_or x.1 o (first_word xs (drop i s)) ≡ some (n, d) → Slight s i n d) [
      | none ↦ λ p q. first_slight xs s i n d (and_right (small x) (slight xs) u) h q
      | some m ↦ λ p q.
          let w : ◌≡◌ {A = ℕ × ℕ} (m, x.1) (n, d) = cc in
          let a : m ≡ n = ap (λ (v : ℕ × ℕ). v.0) w in
          let b : x.1 ≡ d = ap (λ (v : ℕ × ℕ). v.1) w in
          let v = and_left (small x) (slight xs) u in
          let k = length (spelt x.0) in
          let l = and_left (within 1 9 k) (leb x.1 56) v in
          let one = and_left (leb 1 k) (leb k 9) l in
          let z = exact x.0 (drop i s) m one p in
          let lo = leb→le 1 k one in
          let hi = leb→le k 9 (and_right (leb 1 k) (leb k 9) l) in
          let top = leb→le x.1 56 (and_right (within 1 9 k) (leb x.1 56) v) in
          let fit = leaf_within x.0 s i m h p in
          record { some_bytes = omega arith; within = omega arith; short = omega arith; low = omega arith }
    ]) refl e

picked_some : (o : Option (ℕ × ℕ)) (n d : ℕ) → picked_of o ≡ Some (word n d) → o ≡ some (n, d)
unfolding picked_of
picked_some none n d e = cc
picked_some (some w) n d e =
    let q : word w.0 w.1 ≡ word n d = cc in
    ap₂ (λ (x y : ℕ). some (x, y)) (ap (λ (v : Word). v.length) q) (ap (λ (v : Word). v.detail) q)

-- the list's test is `tt`, or mnemonics_slight; then what the reader ensures, and what its answer was found to be
pub picked_slight : (xs : List (Leaf × ℕ)) (s : List ℕ) (i : ℕ) {n d : ℕ} {r : Optional Word} → T (slight xs) → i ≤ length s
    → r ≡ picked_of (first_word xs (drop i s)) → r ≡ Some (word n d) → Slight s i n d
picked_slight xs s i {n} {d} u h e f = first_slight xs s i n d u h (picked_some (first_word xs (drop i s)) n d (sym e ∙ f))
