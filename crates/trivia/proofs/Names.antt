-- Where what starts with a byte of one class and goes on with bytes of another ends.
use mathlib.Core.Path.{◌≡◌, refl, ap, sym, ◌∙◌}
use mathlib.Core.Bool.{Bool, true, false, cond, ◌&&◌, and-true}
use mathlib.Core.List.{List, [], ◌∷◌}
use Prim.Native.Nat.{ℕ, suc, ◌+◌, ◌≤◌, ◌<◌}
use native.Mathlib.Nat.{add-zero}
use native.Mathlib.Omega.{arith}
use lib.ListN.{length, get_or, drop, drop_of_length-le}
use Rattle.reading.specs.Byte.{run, begins}
use Rattle.cursor.proofs.Places.{cons, begins_at, begins_end}
use lib.Dec.{eqb, ltb}
use borrow.Author.Tests.{ltb-true, ltb-false}
use Rattle.trivia.specs.Class.{name_run}

module _ (f g : ℕ → Bool) (s : List ℕ) (i : ℕ) where
  pub name_none : length s ≤ i → i + name_run f g (drop i s) ≡ i
  name_none h = ap (λ t. i + name_run f g t) (drop_of_length-le s h) ∙ add-zero i

  pub name_no : i < length s → f (get_or s i 0) ≡ false → i + name_run f g (drop i s) ≡ i
  name_no h e = ap (λ t. i + name_run f g t) (cons s i h) ∙ ap (λ x. i + cond x (suc (run g (drop (i + 1) s))) 0) e ∙ add-zero i

  pub name_go : i < length s → f (get_or s i 0) ≡ true → i + name_run f g (drop i s) ≡ (i + 1) + run g (drop (i + 1) s)
  name_go h e =
      ap (λ t. i + name_run f g t) (cons s i h) ∙ ap (λ x. i + cond x (suc (run g (drop (i + 1) s))) 0) e
      ∙ (let z : i + suc (run g (drop (i + 1) s)) ≡ (i + 1) + run g (drop (i + 1) s) = omega arith in z)

-- where the first of two bytes stands, the second decides
pub second_begins : (a b : ℕ) (s : List ℕ) (i : ℕ) → begins (a ∷ []) (drop i s) ≡ true → begins (a ∷ b ∷ []) (drop i s) ≡ begins (b ∷ []) (drop (i + 1) s)
second_begins a b s i e = go (ltb i (length s)) refl
  where
    go : (x : Bool) → ltb i (length s) ≡ x → begins (a ∷ b ∷ []) (drop i s) ≡ begins (b ∷ []) (drop (i + 1) s)
    go true h =
        let lt = ltb-true _ _ h in
        let first = sym (begins_at a [] s i lt) ∙ e in
        begins_at a (b ∷ []) s i lt ∙ ap (◌&& begins (b ∷ []) (drop (i + 1) s)) (sym (and-true (eqb a (get_or s i 0))) ∙ first)
    go false h = absurd (let z : true ≡ false = sym e ∙ begins_end a [] s i (ltb-false _ _ h) in let y : ◌≡◌ {A = ℕ} 0 1 = cc in omega arith)
