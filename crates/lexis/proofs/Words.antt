-- A word of a list that was picked: its row was pushed, or there is none.
use mathlib.Core.List.{List}
use mathlib.Core.Option.{Option as Maybe, none, some}
use mathlib.Core.Path.{◌≡◌, refl, ap, ap₂, sym, subst, ◌∙◌}
use Prim.Native.Nat.{ℕ, ◌+◌, ◌^◌, ◌<◌}
use native.Mathlib.Omega.{arith}
use lib.Dec.{T}
use lib.ListN.{drop}
use Rattle.reading.specs.Grammar.{Leaf, pick}
use Rattle.cursor.proofs.Laws.{reading_to, pick_got, pick_no}
use Rattle.cursor.specs.Agree.{Reading}
use Rattle.cursor.specs.Word.{first_word}
use Rattle.cursor.specs.declared.Cursor.{Cursor}
use Rattle.cursor.specs.Read.{Read}
use Rattle.cursor.specs.declared.Skip.{Skip}
use Rattle.word.proofs.Facts.{slight, picked_slight}
use Rattle.word.specs.Words.{word, picked_of}
use Rattle.word.specs.declared.Word.{Word}
use Rattle.lexis.specs.Behind.{Rowed}
use Rattle.lexis.specs.Picks.{Chosen, Fitting}
use Rattle.lexis.proofs.Marks.{Placed, row_fits}
use Rattle.cursor.specs.declared.Stop.TheVariants.{Miss}
use Rattle.std.specs.Prelude.{Err, Option, Some, None}

word_is : (o : Maybe (ℕ × ℕ)) (x : Word) → ◌≡◌ {A = Option Word} (Some x) (picked_of o) → o ≡ some (x.length, x.detail)
unfolding picked_of
word_is none x e = cc
word_is (some w) x e =
    let p : word w.0 w.1 ≡ x = cc in ap₂ (λ (x y : ℕ). some (x, y)) (ap (λ (x : Word). x.length) p) (ap (λ (x : Word). x.detail) p)

nothing_is : (o : Maybe (ℕ × ℕ)) → ◌≡◌ {A = Option Word} None (picked_of o) → o ≡ none
unfolding picked_of
nothing_is none e = refl
nothing_is (some w) e = cc

module _ (kind : ℕ) {c : Cursor} {k : Skip} {t : List ℕ} where
  pub chosen_word : {p : Option Word} (x : Word) → p ≡ Some x → {t' : List ℕ} {r : Read} → Rowed kind x.detail c k (k.at.0 + x.length) t t' r → Chosen kind p c k t t' r
  chosen_word y e {t'} {r} w =
      record {
        picks = λ s xs h. record {
          leafs = λ g x. record {
            reading = λ l lim.
                subst (λ (y : Read). Reading (pick kind g xs) s l lim c.at.0 c.met c.count.0 t t' y) (sym w.answer)
                (reading_to w.table (pick_got kind x xs l lim c.count.0 t y.length y.detail (word_is (first_word xs (drop k.at.0 s)) y (sym e ∙ h))));
          };
        };
      }

  pub chosen_none : {p : Option Word} → p ≡ None → Chosen kind p c k t t (Err (Miss k.met))
  chosen_none e =
      record {
        picks = λ s xs h. record {
          leafs = λ g x. record {
            reading = λ l lim. pick_no kind x xs l lim c.count.0 t (nothing_is (first_word xs (drop k.at.0 s)) (sym e ∙ h));
          };
        };
      }

-- Bounds ---------------------------------------------------------------------

pub fitting_word : (i : ℕ) (x : Word) {p : Option Word} → p ≡ Some x → Fitting i p → (i + x.length < 2 ^ 32) × (x.detail < 2 ^ 32)
unfolding Fitting
fitting_word i x e h = subst (Fitting i) e h

-- what `picked` asks for, of a word of such a list
module _ (xs : List (Leaf × ℕ)) (u : T (slight xs)) {s : List ℕ} {c : Cursor} {k : Skip} (h : Placed s c k) where
  fitting : (p : Option Word) → p ≡ picked_of (first_word xs (drop k.at.0 s)) → Fitting k.at.0 p
  unfolding Fitting
  fitting (Some w) e =
      let small = h.ready.small in
      let x = picked_slight xs s k.at.0 u h.within e refl in
      (omega (arith, x.within), omega (arith, x.low))
  fitting None e = tt

  pub picked_fits : {p : Option Word} → p ≡ picked_of (first_word xs (drop k.at.0 s))
      → ((c.count.0 < 2 ^ 32) × (c.at.0 < 2 ^ 32) × (k.at.0 < 2 ^ 32)) × Fitting k.at.0 p
  picked_fits {p} e = let f = row_fits h 0 0 (omega arith) (omega arith) in ((f.0, f.1, f.2), fitting p e)
