-- Document 02, F-6 (specs/Spelling), of the definition, and of `number::value`.
use mathlib.Core.Path.{◌≡◌, refl, ap, ap₂, sym, ◌∙◌}
use mathlib.Core.Bool.{Bool, true, false, ◌&&◌, ◌||◌, and-false, or-true, or-false, or_assoc, and-or_distrib_left, and-or_distrib_right, true≢false}
use mathlib.Core.List.{List, [], ◌∷◌, ◌++◌, map}
use Prim.Native.Nat.{ℕ, ◌+◌, ◌-◌}
use native.Mathlib.Omega.{arith}
use borrow.Author.Tests.{le-leb, eqb-true, eqb-false, eq-eqb, ne_eqb}
use lib.Dec.{eqb}
use lib.ListN.{length}
use Rattle.std.specs.Prelude.{Result}
use Rattle.reading.proofs.Bool.{neither}
use Rattle.reading.specs.Byte.{bytes, within, lower}
use Rattle.reading.specs.Table.{Answer, answered, refused}
use Rattle.reading.specs.Number.{Base, same, lowered, digits, number_value, value_before}
use Rattle.number.specs.declared.NumberType.{NumberType}
use Rattle.number.specs.declared.ValueError.{ValueError}
use Rattle.number.specs.Answers.{base_of, told}
use Rattle.number.specs.Spelling.{spellings, other_spellings, new_spellings, among, distinct, Amended}
use Rattle.number.proofs.Bytes.{parts, at_least, at_most}
use Rattle.number.proofs.Words.{words, same_all, unlike, no_digits, true_digits, false_digits}

-- The 46 ----------------------------------------------------------------------

pub forty_six : length new_spellings ≡ 46
forty_six = refl

pub all_different : distinct new_spellings ≡ true
all_different = refl

-- Spellings -------------------------------------------------------------------

among_both : (t : List ℕ) (l m : List (List ℕ)) → among t (l ++ m) ≡ among t l || among t m
among_both t [] m = refl
among_both t (s ∷ l) m = ap (λ x. same t s || x) (among_both t l m) ∙ sym (or_assoc (same t s) (among t l) (among t m))

among_none : (b : ℕ) (l : List (List ℕ)) → among [] (map (b ∷◌) l) ≡ false
among_none b [] = refl
among_none b (t ∷ l) = among_none b l

among_behind : (a b : ℕ) (t : List ℕ) (l : List (List ℕ)) → among (b ∷ t) (map (a ∷◌) l) ≡ eqb b a && among t l
among_behind a b t [] = sym (and-false (eqb b a))
among_behind a b t (s ∷ l) = ap (λ x. eqb b a && same t s || x) (among_behind a b t l) ∙ sym (and-or_distrib_left (eqb b a) (same t s) (among t l))

-- a byte whose lower case is the letter is the letter, or its upper case
letter : (a b : ℕ) → within 97 122 a ≡ true → eqb (lower b) a ≡ eqb b a || eqb b (a - 32)
letter a b h = go (within 65 90 b) refl
  where
    go : (y : Bool) → within 65 90 b ≡ y → eqb (elim y [ true ↦ b + 32 | false ↦ b ]) a ≡ eqb b a || eqb b (a - 32)
    go true e =
        raised (eqb b (a - 32)) refl
        ∙ sym (ap (λ x. x || eqb b (a - 32)) (ne_eqb b a λ k. omega (arith, k, at_least 97 122 a h, at_most 65 90 b e)))
      where
        raised : (y : Bool) → eqb b (a - 32) ≡ y → eqb (b + 32) a ≡ eqb b (a - 32)
        raised true k = eq-eqb (b + 32) a (omega (arith, eqb-true b (a - 32) k, at_least 97 122 a h)) ∙ sym k
        raised false k = ne_eqb (b + 32) a (λ m. eqb-false b (a - 32) k (omega (arith, m))) ∙ sym k
    go false e = sym (ap (λ x. eqb b a || x) (ne_eqb b (a - 32) λ k. true≢false (sym (upper k) ∙ e)) ∙ or-false (eqb b a))
      where
        upper : b ≡ a - 32 → within 65 90 b ≡ true
        upper k = ap₂ ◌&&◌ (le-leb 65 b (omega (arith, k, at_least 97 122 a h))) (le-leb b 90 (omega (arith, k, at_most 97 122 a h)))

abbrev letters : List ℕ → Bool
letters [] = true
letters (a ∷ w) = within 97 122 a && letters w

-- the list is what the definition asks for
pub spelled : (w t : List ℕ) → letters w ≡ true → among t (spellings w) ≡ same (lowered t) w
spelled [] [] h = refl
spelled [] (b ∷ t) h = refl
spelled (a ∷ w) [] h =
    among_both [] (map (a ∷◌) (spellings w)) (map ((a - 32) ∷◌) (spellings w))
    ∙ ap₂ ◌||◌ (among_none a (spellings w)) (among_none (a - 32) (spellings w))
spelled (a ∷ w) (b ∷ t) h =
    let p = parts (within 97 122 a) (letters w) h in
    among_both (b ∷ t) (map (a ∷◌) (spellings w)) (map ((a - 32) ∷◌) (spellings w))
    ∙ ap₂ ◌||◌ (among_behind a b t (spellings w)) (among_behind (a - 32) b t (spellings w))
    ∙ sym (and-or_distrib_right (eqb b a) (eqb b (a - 32)) (among t (spellings w)))
    ∙ ap₂ ◌&&◌ (sym (letter a b p.0)) (spelled w t p.1)

-- of a text and a word: the spellings that are new, and every other text
module _ (t w : List ℕ) (l : letters w ≡ true) (first : spellings w ≡ w ∷ other_spellings w) where
  both : same t w || among t (other_spellings w) ≡ same (lowered t) w
  both = ap (among t) (sym first) ∙ spelled w t l

  is_new : among t (other_spellings w) ≡ true → same (lowered t) w ≡ true
  is_new h = sym both ∙ (ap (λ x. same t w || x) h ∙ or-true (same t w))

  is_old : among t (other_spellings w) ≡ false → same (lowered t) w ≡ same t w
  is_old h = sym both ∙ (ap (λ x. same t w || x) h ∙ or-false (same t w))

-- What changed ----------------------------------------------------------------

abbrev trues : List (List ℕ)
trues = other_spellings (bytes "true")

abbrev falses : List (List ℕ)
falses = other_spellings (bytes "false")

either_word : (t : List ℕ) → among t new_spellings ≡ among t trues || among t falses
either_word t = among_both t trues falses

module _ (x : Base) (t : List ℕ) where
  value_true : same (lowered t) (bytes "true") ≡ true → number_value x t ≡ answered 1
  value_true e = words x t e refl

  value_false : same (lowered t) (bytes "false") ≡ true → number_value x t ≡ answered 0
  value_false e = words x t (ap (λ s. same s (bytes "true")) (same_all (lowered t) (bytes "false") e)) e

  none_before : same t (bytes "true") ≡ false → same t (bytes "false") ≡ false → digits x t ≡ false → value_before x t ≡ refused 10 0
  unfolding value_before
  none_before e f d = rw e (rw f (rw d refl))

  -- a new spelling was refused with 10, and has a value
  changed : among t new_spellings ≡ true → (value_before x t ≡ refused 10 0) × (v : ℕ) × (number_value x t ≡ answered v)
  changed h = go (among t trues) refl
    where
      go : (y : Bool) → among t trues ≡ y → (value_before x t ≡ refused 10 0) × (v : ℕ) × (number_value x t ≡ answered v)
      go true e =
          let s : same (lowered t) (bytes "true") ≡ true = is_new t (bytes "true") refl refl e in
          let p = unlike (λ u. among u trues) t (bytes "true") e refl in
          let q = unlike (λ u. same (lowered u) (bytes "true")) t (bytes "false") s refl in
          (none_before p q (no_digits x t (bytes "true") s (true_digits x)), 1, value_true s)
      go false e =
          let f : among t falses ≡ true = sym (ap (λ y. y || among t falses) e) ∙ (sym (either_word t) ∙ h) in
          let s : same (lowered t) (bytes "false") ≡ true = is_new t (bytes "false") refl refl f in
          let p = unlike (λ u. same (lowered u) (bytes "false")) t (bytes "true") s refl in
          let q = unlike (λ u. among u falses) t (bytes "false") f refl in
          (none_before p q (no_digits x t (bytes "false") s (false_digits x)), 0, value_false s)

  -- every other text keeps its outcome
  others : among t new_spellings ≡ false → number_value x t ≡ value_before x t
  unfolding value_before
  others h =
      let p = neither (among t trues) (among t falses) (sym (either_word t) ∙ h) in
      words x t (is_old t (bytes "true") refl refl p.0) (is_old t (bytes "false") refl refl p.1)

  kept : (v : ℕ) → value_before x t ≡ answered v → number_value x t ≡ answered v
  kept v e = go (among t new_spellings) refl
    where
      go : (y : Bool) → among t new_spellings ≡ y → number_value x t ≡ answered v
      go true h = let f : value_before x t ≡ refused 10 0 = (changed h).0 in cc
      go false h = others h ∙ e

-- A call ----------------------------------------------------------------------

pub amended : {R : Type 0} (seen : Answer ℕ → R) (x : Base) (t : List ℕ) (r : R) → r ≡ seen (number_value x t) → Amended seen x t r
amended seen x t r m =
    record {
      true_one = λ h. m ∙ ap seen (value_true x t (sym (spelled (bytes "true") t refl) ∙ h));
      false_zero = λ h. m ∙ ap seen (value_false x t (sym (spelled (bytes "false") t refl) ∙ h));
      kept = λ v e. m ∙ ap seen (kept x t v e);
      changed = λ h. let c = changed x t h in (c.0, c.1, m ∙ ap seen c.2);
      others = λ h. m ∙ ap seen (others x t h);
    }

pub value_amended : (ty : NumberType) (t : List ℕ) (r : Result ℕ ValueError) → told r ≡ number_value (base_of ty) t → Amended (λ a. a) (base_of ty) t (told r)
value_amended ty t r m = amended (λ a. a) (base_of ty) t (told r) m
