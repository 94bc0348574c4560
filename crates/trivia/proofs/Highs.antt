-- The first high byte: std's `position`, and the paper's.
use mathlib.Core.Path.{◌≡◌, refl, ap, sym, ◌∙◌}
use mathlib.Core.Bool.{Bool, true, false, cond}
use mathlib.Core.List.{List, [], ◌∷◌}
use mathlib.Core.Option.{Option as Maybe, none, some}
use Prim.Native.Nat.{ℕ, suc, ◌+◌, ◌≤◌, ◌<◌}
use native.Mathlib.Numerals.{add-one}
use borrow.Author.Tests.{le-leb, lt-leb}
use lib.Dec.{leb}
use lib.ListN.{length, get_or, drop, drop_of_length-le}
use Rattle.cursor.proofs.Places.{cons}
use Rattle.std.specs.Prelude.{Option, Some, None, position}
use Rattle.std.specs.List.{slice_index, position_from}
use Rattle.std.proofs.lemmas.Iterator.Adapters.{position_from-zero}
use Rattle.reading.specs.Table.{first_high}

abbrev high_if : ℕ → List ℕ → Bool → Maybe ℕ
high_if i t x = elim x [ true ↦ some i | false ↦ first_high (suc i) t ]

module _ (s : List ℕ) (i : ℕ) where
  pub high_none : length s ≤ i → first_high i (drop i s) ≡ none
  high_none h = rw (drop_of_length-le s h)

  high_at : (x : Bool) → i < length s → leb 128 (get_or s i 0) ≡ x → first_high i (drop i s) ≡ high_if i (drop (i + 1) s) x
  high_at x h e = ap (first_high i) (cons s i h) ∙ ap (high_if i (drop (i + 1) s)) e

  pub high_here : i < length s → 128 ≤ get_or s i 0 → first_high i (drop i s) ≡ some i
  high_here h g = high_at true h (le-leb _ _ g)

  pub high_on : i < length s → get_or s i 0 < 128 → first_high i (drop i s) ≡ first_high (i + 1) (drop (i + 1) s)
  high_on h g = high_at false h (lt-leb _ _ g) ∙ ap (λ n. first_high n (drop (i + 1) s)) (sym (add-one i))

pub none_high : (s : List ℕ) (i : ℕ) → ((k : ℕ) → slice_index s k < 128) → first_high i s ≡ none
none_high [] i h = refl
none_high (b ∷ t) i h = ap (high_if i t) (lt-leb _ _ (h 0)) ∙ none_high t (suc i) (λ k. h (suc k))

-- math's option
abbrev pub maybe : Option ℕ → Maybe ℕ
maybe (Some n) = some n
maybe None = none

from_is : (s : List ℕ) (i : ℕ) → maybe (position_from (leb 128) i s) ≡ first_high i s
from_is [] i = refl
from_is (b ∷ t) i = on (leb 128 b) (from_is t (i + 1) ∙ ap (λ n. first_high n t) (add-one i))
  where
    on : (x : Bool) → maybe (position_from (leb 128) (i + 1) t) ≡ first_high (suc i) t → maybe (cond x (Some i) (position_from (leb 128) (i + 1) t)) ≡ high_if i t x
    on true e = refl
    on false e = e

pub high_is : (s : List ℕ) {r o : Option ℕ} → r ≡ position (leb 128) s → r ≡ o → maybe o ≡ first_high 0 s
high_is s e f = ap maybe (sym f ∙ e ∙ position_from-zero (leb 128) s) ∙ from_is s 0
