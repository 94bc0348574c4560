-- The last arm of a `match` on a number: the number is none of the other arms' keys.
-- Assumes nothing.
use mathlib.Core.Path.{◌≡◌, refl, sym, ◌∙◌}
use mathlib.Core.Bool.{Bool, true, false, ◌&&◌, ◌||◌}
use mathlib.Core.List.{List, [], ◌∷◌}
use Prim.Native.Nat.{ℕ}
use borrow.Author.Tests.{eqb-true, ne_eqb}
use types.Run.{OneOf}
use lib.Dec.{T, eqb}
use Rattle.reading.proofs.Bool.{and_left, and_right}

-- what is known there, as the borrow checker hands it on
abbrev pub Others : Type 0 → List ℕ → ℕ → Type 0
Others P [] n = P
Others P (k ∷ ks) n = Others (P × (OneOf (k ∷ []) n → ⊥)) ks n

abbrev pub among : ℕ → List ℕ → Bool
among m [] = false
among m (k ∷ ks) = eqb m k || among m ks

first : (P : Type 0) (ks : List ℕ) (n : ℕ) → Others P ks n → P
first P [] n h = h
first P (k ∷ ks) n h = (first (P × (OneOf (k ∷ []) n → ⊥)) ks n h).0

none_of : (P : Type 0) (ks : List ℕ) (n m : ℕ) → Others P ks n → T (among m ks) → m ≡ n → ⊥
none_of P [] n m h t e = t
none_of P (k ∷ ks) n m h t e =
    (elim (eqb m k) as (λ x. eqb m k ≡ x → T (x || among m ks) → ⊥) [
      | true ↦ λ q u. (first (P × (OneOf (k ∷ []) n → ⊥)) ks n h).1 (sym e ∙ eqb-true m k q)
      | false ↦ λ q u. none_of (P × (OneOf (k ∷ []) n → ⊥)) ks n m h u e
    ]) refl t

-- each element's number is among the keys
abbrev pub keyed : {A : Type 0} → (A → ℕ) → List ℕ → List A → Bool
keyed f ks [] = true
keyed f ks (x ∷ xs) = among (f x) ks && keyed f ks xs

-- so none of these numbers is the one that came to the last arm
pub apart : {A : Type 0} (f : A → ℕ) (ks : List ℕ) (x : A) (xs : List A) (n : ℕ) → T (keyed f ks (x ∷ xs)) → Others (Unit {0}) ks n
    → (eqb (f x) n ≡ false) × T (keyed f ks xs)
apart f ks x xs n t h =
    (ne_eqb (f x) n (none_of (Unit {0}) ks n (f x) h (and_left (among (f x) ks) (keyed f ks xs) t)), and_right (among (f x) ks) (keyed f ks xs) t)
