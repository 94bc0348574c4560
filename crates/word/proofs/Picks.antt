-- The word of a list that is picked by its first byte, and by its second; and a word compared byte by byte.
-- Assumes nothing.
use mathlib.Core.Path.{◌≡◌, refl, ap, sym, subst, ◌∙◌}
use mathlib.Core.Bool.{Bool, true, false}
use mathlib.Core.List.{List, [], ◌∷◌}
use Prim.Native.Nat.{ℕ, ◌+◌, ◌≤◌, ◌<◌}
use native.Mathlib.Omega.{arith}
use lib.ListN.{length, get_or, drop, drop_of_length-le}
use Rattle.reading.specs.Byte.{begins_no_case, given}
use Rattle.reading.specs.Grammar.{Leaf, tag_no_case}
use Rattle.reading.proofs.Ahead.{Fits, taken_fits}
use Rattle.cursor.specs.Word.{first_word}
use Rattle.cursor.proofs.Places.{cons}
use Rattle.word.specs.Words.{picked_of}
use Rattle.word.specs.declared.Word.{Word}
use Rattle.std.specs.Prelude.{Option as Optional}

-- By the first byte --------------------------------------------------------

-- from the byte at a place to the place
pub at_byte : (xs : List (Leaf × ℕ)) (s : List ℕ) (i b : ℕ) {r : Optional Word} → i < length s → get_or s i 0 ≡ b
    → r ≡ picked_of (first_word xs (b ∷ drop (i + 1) s)) → r ≡ picked_of (first_word xs (drop i s))
at_byte xs s i b h e p =
    p ∙ ap (λ (x : ℕ). picked_of (first_word xs (x ∷ drop (i + 1) s))) (sym e) ∙ ap (λ (t : List ℕ). picked_of (first_word xs t)) (sym (cons s i h))

pub at_end : (xs : List (Leaf × ℕ)) (s : List ℕ) (i : ℕ) {r : Optional Word} → length s ≤ i → r ≡ picked_of (first_word xs [])
    → r ≡ picked_of (first_word xs (drop i s))
at_end xs s i h p = p ∙ ap (λ (t : List ℕ). picked_of (first_word xs t)) (sym (drop_of_length-le s h))

-- Byte by byte -------------------------------------------------------------

pub too_long : (w t : List ℕ) → length t < length w → begins_no_case w t ≡ false
too_long w t h = go (begins_no_case w t) refl
  where
    go : (x : Bool) → begins_no_case w t ≡ x → begins_no_case w t ≡ false
    go true e =
        let z : length w ≤ length t = subst (λ (x : Bool). Fits (given x (length w)) (length t)) e (taken_fits (tag_no_case w) t) in
        absurd (let y : ⊥ = omega arith in y)
    go false e = e
