-- A block comment, byte by byte.
use mathlib.Core.Path.{◌≡◌, refl, ap, ap₂, sym, ◌∙◌}
use mathlib.Core.Bool.{Bool, true, false, ◌&&◌}
use mathlib.Core.List.{List}
use mathlib.Core.Option.{Option, none, some}
use Prim.Native.Nat.{ℕ, zero, suc, ◌+◌, ◌-◌, ◌≤◌, ◌<◌}
use native.Mathlib.Numerals.{add-one}
use native.Mathlib.Omega.{arith}
use lib.ListN.{length, get_or, drop, drop_of_length-le}
use lib.Dec.{eqb, ltb}
use borrow.Author.Tests.{eqb-true, ne_eqb, ltb-true, ltb-false}
use Rattle.reading.specs.Byte.{comment, plus}
use Rattle.cursor.proofs.Places.{cons}
use Rattle.trivia.specs.Piece.{close_of, closed, left}
use Rattle.std.specs.Prelude.{Option as Optional, Some, None}
use Rattle.table.specs.declared.Pos.{Pos}

close_plus : (i k : ℕ) (o : Option ℕ) → close_of i (plus k o) ≡ close_of (i + k) o
close_plus i k none = refl
close_plus i k (some n) = ap {B = Optional Pos} (λ (j : ℕ). Some (record { 0 = j })) (let h : i + (k + n) ≡ i + k + n = omega arith in h)

pub left_all : (s : List ℕ) (at : ℕ) → closed s at ≡ left s 0 0 at
unfolding left closed
left_all s at = refl

pub left_end : (s : List ℕ) (d p i : ℕ) → length s ≤ i → left s d p i ≡ None
unfolding left
left_end s d p i h = ap (λ t. close_of i (comment d p t)) (drop_of_length-le s h)

pub left_step : (s : List ℕ) (d i : ℕ) → i < length s → left s d 0 i ≡ left s d (get_or s i 0) (i + 1)
unfolding left
left_step s d i h = ap (λ t. close_of i (comment d 0 t)) (cons s i h) ∙ close_plus i 1 (comment d (get_or s i 0) (drop (i + 1) s))

-- the comment from the byte c on: x, c closes a mark; y, it opens one
abbrev pair : ℕ → ℕ → List ℕ → Bool → Bool → Option ℕ
pair d c t x y =
    elim x [
      | true ↦ elim d [ zero ↦ some 1 | suc e ↦ plus 1 (comment e 0 t) ]
      | false ↦ elim y [ true ↦ plus 1 (comment (suc d) 0 t) | false ↦ plus 1 (comment d c t) ]
    ]

module _ (s : List ℕ) (b i : ℕ) (h : i < length s) where
  byte : (d : ℕ) (x y : Bool) → eqb b 42 && eqb (get_or s i 0) 47 ≡ x → eqb b 47 && eqb (get_or s i 0) 42 ≡ y
      → left s d b i ≡ close_of i (pair d (get_or s i 0) (drop (i + 1) s) x y)
  unfolding left
  byte d x y e f = ap (λ t. close_of i (comment d b t)) (cons s i h) ∙ ap₂ (λ x y. close_of i (pair d (get_or s i 0) (drop (i + 1) s) x y)) e f

  pub left_close : (d : ℕ) → d ≡ 0 → eqb b 42 && eqb (get_or s i 0) 47 ≡ true → left s d b i ≡ Some (record { 0 = i + 1 })
  left_close d z e = ap (λ x. left s x b i) z ∙ byte 0 true _ e refl

  pub left_less : (d : ℕ) → (d ≡ 0 → ⊥) → eqb b 42 && eqb (get_or s i 0) 47 ≡ true → left s d b i ≡ left s (d - 1) 0 (i + 1)
  unfolding left
  left_less d z e =
      ap (λ x. left s x b i) (let h : d ≡ suc (d - 1) = omega (arith, z) in h) ∙ byte (suc (d - 1)) true _ e refl
      ∙ close_plus i 1 (comment (d - 1) 0 (drop (i + 1) s))

  pub left_deeper : (d : ℕ) → eqb b 42 && eqb (get_or s i 0) 47 ≡ false → eqb b 47 && eqb (get_or s i 0) 42 ≡ true
      → left s d b i ≡ left s (d + 1) 0 (i + 1)
  unfolding left
  left_deeper d e f = rw (add-one d) (byte d false true e f ∙ close_plus i 1 (comment (suc d) 0 (drop (i + 1) s)))

  pub left_on : (d : ℕ) → eqb b 42 && eqb (get_or s i 0) 47 ≡ false → eqb b 47 && eqb (get_or s i 0) 42 ≡ false → left s d b i ≡ left s d 0 i
  unfolding left
  left_on d e f = byte d false false e f ∙ sym (ap (λ t. close_of i (comment d 0 t)) (cons s i h))

-- By the two bytes at a place ------------------------------------------------

-- two tests that are not both met
not_both : (a x b y : ℕ) → (a ≡ x → b ≡ y → ⊥) → eqb a x && eqb b y ≡ false
not_both a x b y f = go (eqb a x) refl
  where
    go : (v : Bool) → eqb a x ≡ v → v && eqb b y ≡ false
    go true e = ne_eqb b y (f (eqb-true a x e))
    go false e = refl

module _ (s : List ℕ) (d i : ℕ) (h : i + 1 < length s) where
  first : left s d 0 i ≡ left s d (get_or s i 0) (i + 1)
  first = left_step s d i (omega arith)

  behind : i + 1 + 1 ≡ i + 2
  behind = omega arith

  module _ (p : get_or s i 0 ≡ 42) (q : get_or s (i + 1) 0 ≡ 47) where
    closing : eqb (get_or s i 0) 42 && eqb (get_or s (i + 1) 0) 47 ≡ true
    closing = ap₂ (λ a b. eqb a 42 && eqb b 47) p q

    pub mark_closes : d ≡ 0 → left s d 0 i ≡ Some (record { 0 = i + 2 })
    mark_closes z = first ∙ left_close s (get_or s i 0) (i + 1) h d z closing ∙ ap {B = Optional Pos} (λ (j : ℕ). Some (record { 0 = j })) behind

    pub mark_less : (d ≡ 0 → ⊥) → left s d 0 i ≡ left s (d - 1) 0 (i + 2)
    mark_less z = first ∙ left_less s (get_or s i 0) (i + 1) h d z closing ∙ ap (left s (d - 1) 0) behind

  pub mark_deeper : get_or s i 0 ≡ 47 → get_or s (i + 1) 0 ≡ 42 → left s d 0 i ≡ left s (d + 1) 0 (i + 2)
  mark_deeper p q =
      first ∙ left_deeper s (get_or s i 0) (i + 1) h d (ap₂ (λ a b. eqb a 42 && eqb b 47) p q) (ap₂ (λ a b. eqb a 47 && eqb b 42) p q)
      ∙ ap (left s (d + 1) 0) behind

  pub mark_none : (get_or s i 0 ≡ 42 → get_or s (i + 1) 0 ≡ 47 → ⊥) → (get_or s i 0 ≡ 47 → get_or s (i + 1) 0 ≡ 42 → ⊥) → left s d 0 i ≡ left s d 0 (i + 1)
  mark_none f g =
      first ∙ left_on s (get_or s i 0) (i + 1) h d (not_both (get_or s i 0) 42 (get_or s (i + 1) 0) 47 f) (not_both (get_or s i 0) 47 (get_or s (i + 1) 0) 42 g)

-- one byte is no mark
pub mark_last : (s : List ℕ) (d i : ℕ) → length s ≤ i + 1 → left s d 0 i ≡ None
mark_last s d i h = go (ltb i (length s)) refl
  where
    go : (v : Bool) → ltb i (length s) ≡ v → left s d 0 i ≡ None
    go true e = left_step s d i (ltb-true _ _ e) ∙ left_end s d (get_or s i 0) (i + 1) h
    go false e = left_end s d 0 i (ltb-false _ _ e)
