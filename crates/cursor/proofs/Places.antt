-- Places of a text, and what the leaves take there.
use mathlib.Core.Path.{◌≡◌, refl, ap, ap₂, sym, subst, ◌∙◌}
use mathlib.Core.Bool.{Bool, true, false, ◌&&◌}
use mathlib.Core.List.{List, [], ◌∷◌}
use mathlib.Core.Option.{none, some}
use Prim.Native.Nat.{ℕ, zero, suc, ◌+◌, ◌≤◌, ◌<◌}
use native.Mathlib.Numerals.{add-one}
use native.Mathlib.Nat.{add-zero}
use native.Mathlib.Omega.{arith}
use lib.Dec.{eqb}
use lib.ListN.{length, get_or, drop, drop_of_length-le, length-drop}
use lib.Seq.{drop-cons, drop-drop, drop-length}
use Rattle.reading.specs.Byte.{lower, begins, begins_no_case, run, at_least_one, given}
use Rattle.reading.specs.Grammar.{Rows, Input, Rule, Leaf, run0, leaf, behind, to_end, one_of, taken}
use Rattle.reading.specs.Summary.{fits, fails, Scan, takeˢ, scan}
use Rattle.reading.proofs.Ahead.{Fits, taken_fits}
use Rattle.cursor.specs.Text.{here}

-- Places -------------------------------------------------------------------

pub behind_here : (s : List ℕ) (i n : ℕ) → behind n (here s i) ≡ here s (i + n)
behind_here s i n = ap {B = Input} (λ (t : List ℕ). record { at = i + n; left = t }) (drop-drop n i s)

pub end_here : (s : List ℕ) (i : ℕ) → i ≤ length s → to_end (here s i) ≡ here s (length s)
end_here s i h =
    ap₂ {C = Input} (λ (n : ℕ) (t : List ℕ). record { at = n; left = t })
    (let z : i + length (drop i s) ≡ length s = omega (arith, length-drop i s) in z) (sym (drop-length s))

-- what is left at a place is its byte and the rest
pub cons : (s : List ℕ) (i : ℕ) → i < length s → drop i s ≡ get_or s i 0 ∷ drop (i + 1) s
cons s i h = rw add-one (drop-cons s i 0 h)

-- Leaves -------------------------------------------------------------------

module _ (τ : Rule → Scan Rows) (l : ℕ) (f : Leaf) (s : List ℕ) (i : ℕ) where
  pub leaf_is : (n : ℕ) → taken f (drop i s) ≡ some n → scan τ (leaf f) l (here s i) ≡ fits [] (here s (i + n)) false 0
  leaf_is n e = ap (λ o. takeˢ o (here s i)) e ∙ ap (λ q. fits [] q false 0) (behind_here s i n)

  pub leaf_no : taken f (drop i s) ≡ none → scan τ (leaf f) l (here s i) ≡ fails false 0
  leaf_no e = ap (λ o. takeˢ o (here s i)) e

-- what a leaf takes ends in the text
pub leaf_within : (f : Leaf) (s : List ℕ) (i n : ℕ) → i ≤ length s → taken f (drop i s) ≡ some n → i + n ≤ length s
leaf_within f s i n h e =
    let z : Fits (some n) (length (drop i s)) = subst (λ o. Fits o (length (drop i s))) e (taken_fits f (drop i s)) in
    omega (arith, length-drop i s)

-- One byte -----------------------------------------------------------------

pub one_of_is : (f : ℕ → Bool) (s : List ℕ) (i : ℕ) (x : Bool) → i < length s → f (get_or s i 0) ≡ x → one_of f (drop i s) ≡ given x 1
one_of_is f s i x h e = ap (one_of f) (cons s i h) ∙ ap (λ y. given y 1) e

pub one_of_end : (f : ℕ → Bool) (s : List ℕ) (i : ℕ) → length s ≤ i → one_of f (drop i s) ≡ none
one_of_end f s i h = ap (one_of f) (drop_of_length-le s h)

-- Runs ---------------------------------------------------------------------

abbrev run_if : (ℕ → Bool) → Bool → List ℕ → ℕ
run_if f x t = elim x [ true ↦ suc (run f t) | false ↦ 0 ]

-- where a run ends: at the end of the text, at a byte that does not pass, and else where it ends from the next place on
module _ (f : ℕ → Bool) (s : List ℕ) (i : ℕ) where
  pub run_end : length s ≤ i → i + run f (drop i s) ≡ i
  run_end h = ap (λ t. i + run f t) (drop_of_length-le s h) ∙ add-zero i

  pub run_stop : i < length s → f (get_or s i 0) ≡ false → i + run f (drop i s) ≡ i
  run_stop h e = ap (λ t. i + run f t) (cons s i h) ∙ ap (λ x. i + run_if f x (drop (i + 1) s)) e ∙ add-zero i

  pub run_go : i < length s → f (get_or s i 0) ≡ true → i + run f (drop i s) ≡ (i + 1) + run f (drop (i + 1) s)
  run_go h e =
      ap (λ t. i + run f t) (cons s i h) ∙ ap (λ x. i + run_if f x (drop (i + 1) s)) e
      ∙ (let z : i + suc (run f (drop (i + 1) s)) ≡ (i + 1) + run f (drop (i + 1) s) = omega arith in z)

  pub run_within : i ≤ length s → i + run f (drop i s) ≤ length s
  run_within h = leaf_within (run0 f) s i (run f (drop i s)) h refl

pub at_least_one_is : (n : ℕ) → 1 ≤ n → at_least_one n ≡ some n
at_least_one_is zero h = absurd (let z : ⊥ = omega arith in z)
at_least_one_is (suc n) h = refl

pub at_least_one_no : (n : ℕ) → n ≡ 0 → at_least_one n ≡ none
at_least_one_no n h = ap at_least_one h

-- Words --------------------------------------------------------------------

if_and : (x y : Bool) → elim x [ true ↦ y | false ↦ false ] ≡ x && y
if_and true y = refl
if_and false y = refl

-- a word byte by byte: the text ends, or its first byte is looked at, and the rest of the word behind it
module _ (a : ℕ) (w : List ℕ) (s : List ℕ) (i : ℕ) where
  pub begins_end : length s ≤ i → begins (a ∷ w) (drop i s) ≡ false
  begins_end h = ap (begins (a ∷ w)) (drop_of_length-le s h)

  pub begins_at : i < length s → begins (a ∷ w) (drop i s) ≡ eqb a (get_or s i 0) && begins w (drop (i + 1) s)
  begins_at h = ap (begins (a ∷ w)) (cons s i h) ∙ if_and (eqb a (get_or s i 0)) (begins w (drop (i + 1) s))

  pub begins_no_case_end : length s ≤ i → begins_no_case (a ∷ w) (drop i s) ≡ false
  begins_no_case_end h = ap (begins_no_case (a ∷ w)) (drop_of_length-le s h)

  pub begins_no_case_at : i < length s
      → begins_no_case (a ∷ w) (drop i s) ≡ eqb a (lower (get_or s i 0)) && begins_no_case w (drop (i + 1) s)
  begins_no_case_at h = ap (begins_no_case (a ∷ w)) (cons s i h) ∙ if_and (eqb a (lower (get_or s i 0))) (begins_no_case w (drop (i + 1) s))
