-- The items of a text, one after another, and the table that they are pushed to.
use mathlib.Core.Path.{◌≡◌, refl, ap, ◌∙◌}
use mathlib.Core.List.{List, [], ◌∷◌, ◌++◌, append-nil, append_assoc}
use mathlib.Core.Option.{none, some}
use Prim.Native.Nat.{ℕ, ◌+◌, ◌≤◌, ◌<◌}
use native.Mathlib.Omega.{arith}
use lib.ListN.{length, length-append}
use Rattle.reading.specs.Items.{Item as Entry, item, items_from, items, item_width, item_words}
use Rattle.reading.specs.Table.{error_width}
use Rattle.cursor.specs.Text.{here}
use Rattle.table.specs.Words.{pushed, error_record, Holds}
use Rattle.table.proofs.Holds.{Writes, holds_more}
use Rattle.trivia.specs.Answers.{Lists}
use Rattle.trivia.specs.Piece.{item_of, Starts}
use Rattle.std.specs.Prelude.{Option as Optional, Some, None}
use Rattle.trivia.specs.Kind.{item_number}
use Rattle.trivia.specs.declared.Item.{Item}
use Rattle.trivia.proofs.Walk.{item_bounds}

abbrev entry : ℕ → ℕ → ℕ → Entry
entry k i e = record { kind = k; low = i; high = e }

-- the items from a place on, and where none starts
pub data Items (s : List ℕ) : ℕ → List Entry → ℕ → Type 0 where
  stop : {i : ℕ} → item (here s i) ≡ none → Items s i [] i
  step : {i k e j : ℕ} {xs : List Entry} → item (here s i) ≡ some (k, here s e) → i < e → e ≤ length s → Items s e xs j → Items s i (entry k i e ∷ xs) j

from_is : {s : List ℕ} {i j : ℕ} {xs : List Entry} → Items s i xs j → (f : List ℕ) → length s ≤ length f + i → items_from f (here s i) ≡ (xs, here s j)
from_is (stop e) [] h = refl
from_is (stop e) (b ∷ f) h = rw e
from_is (step e l w o) [] h = absurd (let z : ⊥ = omega arith in z)
from_is (step e l w o) (b ∷ f) h = rw (e, from_is o f (omega arith))

items_are : {s : List ℕ} {j : ℕ} {xs : List Entry} → Items s 0 xs j → items s ≡ (xs, here s j)
unfolding items
items_are {s} o = from_is o s (omega arith)

-- where the loop stands: n items are passed, and in the table
pub record Passed (s t : List ℕ) (i n : ℕ) : Type 0 where
  pub within : i ≤ length s
  pub few : n ≤ i
  pub passed : List Entry
  pub count : n ≡ length passed
  pub back : (xs : List Entry) (j : ℕ) → Items s i xs j → Items s 0 (passed ++ xs) j
  pub held : Holds item_width t (item_words passed)

pub items_written : Writes item_width (λ (x : Entry). error_record x.kind x.low x.high) item_words
items_written = record { some = omega arith; len = λ x. refl; nil = refl; cons = λ x xs. refl }

pub passed_none : (s t : List ℕ) → Passed s t 0 0
passed_none s t =
    record {
      within = omega arith;
      few = omega arith;
      passed = [];
      count = refl;
      back = λ xs j o. o;
      held = record { word = λ i g l. absurd (let z : ⊥ = omega arith in z) };
    }

module _ {s t : List ℕ} {i n : ℕ} (u : Passed s t i n) {r : Optional Item} (a : Starts s i r) where
  pub passed_more : {t' : List ℕ} (y : Item) → r ≡ Some y → t' ≡ pushed error_width t n (error_record (item_number y.kind) i y.end.0) → Passed s t' y.end.0 (n + 1)
  unfolding item_of
  passed_more {t'} y q p =
      let x : Entry = entry (item_number y.kind) i y.end.0 in
      let m = item_bounds a y q in
      record {
        within = m.1;
        few = omega (arith, m.0);
        passed = u.passed ++ (x ∷ []);
        count = omega (arith, u.count, length-append u.passed (x ∷ []));
        back = λ xs j o. rw (append_assoc u.passed (x ∷ []) xs) (u.back (x ∷ xs) j (step (a.listed ∙ ap (item_of s) q) m.0 m.1 o));
        held = rw p (holds_more items_written t u.passed n x u.count u.held);
      }

  pub passed_all : r ≡ None → Lists s t (record { count = n; end = record { 0 = i } })
  unfolding item_of
  passed_all q =
      let o : items s ≡ (u.passed, here s i) = rw (append-nil u.passed) at (items_are (u.back [] i (stop (a.listed ∙ ap (item_of s) q)))) in
      record { count = rw o u.count; ends = rw o; holds = rw o u.held }
