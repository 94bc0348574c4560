-- Where something without rows ends: the laws of `Finds`, one for each way of making parsers.
use mathlib.Core.Bool.{Bool, true, false, or-false}
use mathlib.Core.List.{List, [], ◌∷◌}
use mathlib.Core.Option.{none, some}
use mathlib.Core.Path.{◌≡◌, refl, ap, sym, subst, ◌∙◌}
use Prim.Native.Nat.{ℕ, ◌+◌, ◌≤◌, ◌<◌}
use native.Mathlib.Omega.{arith}
use borrow.Author.Tests.{ltb-true, ltb-false}
use lib.Dec.{T, ltb}
use lib.ListN.{length, get_or, drop}
use Rattle.reading.proofs.Cost.{cost, slim}
use Rattle.reading.proofs.Tests.{quiet}
use Rattle.reading.specs.Byte.{is, begins, begins_no_case, run, given}
use Rattle.reading.specs.Grammar.{Leaf, one, run0, run1, tag_no_case, Parser, ◌▸◌, ◌or◌, never, leaf, taken}
use Rattle.reading.specs.Summary.{fits}
use Rattle.table.specs.declared.Pos.{Pos}
use Rattle.cursor.proofs.Agree.{got_miss}
use Rattle.cursor.proofs.Laws.{Moved, moved, bare_got, bare_no, seq_out, seq_got, or_miss, or_first, never_got, never_miss}
use Rattle.cursor.proofs.Places.{leaf_is, leaf_no, one_of_is, one_of_end, at_least_one_is, at_least_one_no}
use Rattle.cursor.specs.Agree.{full, Reading}
use Rattle.cursor.specs.Text.{here, cursor}
use Rattle.trivia.proofs.Names.{name_none, name_no, name_go}
use Rattle.trivia.proofs.Pieces.{one_begins}
use Rattle.trivia.specs.Class.{name_run}
use Rattle.lexis.specs.Finds.{read_of, Finds}
use Rattle.std.specs.Prelude.{Ok, Option, Some, None}

-- an answer that is known
pub finds_to : {g : Parser} {s : List ℕ} {i : ℕ} {f r : Option Pos} → f ≡ r → Finds g s i f → Finds g s i r
finds_to {g} {s} {i} e a = subst (λ (x : Option Pos). Finds g s i x) e a

-- leaves
module _ (f : Leaf) (s : List ℕ) (i : ℕ) where
  leaf_at : (p : Pos) (n : ℕ) → p.0 ≡ i + n → taken f (drop i s) ≡ some n → Finds (leaf f) s i (Some p)
  unfolding read_of
  leaf_at p n e h =
      record {
        reading = λ l lim met base t. bare_got (leaf f) s l lim i met base t false met (sym (or-false met)) p.0
            (leaf_is (full s) l f s i n h ∙ ap (λ j. fits [] (here s j) false 0) (sym e));
      }

  leaf_none : taken f (drop i s) ≡ none → Finds (leaf f) s i None
  unfolding read_of
  leaf_none h =
      record { reading = λ l lim met base t. bare_no (leaf f) s l lim i met base t false met (sym (or-false met)) (leaf_no (full s) l f s i h) }

-- one byte of a class, at a place of the text or at its end
module _ (f : ℕ → Bool) (s : List ℕ) (i : ℕ) where
  pub one_at : i < length s → f (get_or s i 0) ≡ true → (p : Pos) → p.0 ≡ i + 1 → Finds (leaf (one f)) s i (Some p)
  one_at h e p z = leaf_at (one f) s i p 1 z (one_of_is f s i true h e)

  pub one_no : i < length s → f (get_or s i 0) ≡ false → Finds (leaf (one f)) s i None
  one_no h e = leaf_none (one f) s i (one_of_is f s i false h e)

  pub one_end : length s ≤ i → Finds (leaf (one f)) s i None
  one_end h = leaf_none (one f) s i (one_of_end f s i h)

  -- a run, which may be empty, or may not
  module _ (p : Pos) (e : p.0 ≡ i + run f (drop i s)) where
    pub run_at : Finds (leaf (run0 f)) s i (Some p)
    run_at = leaf_at (run0 f) s i p (run f (drop i s)) e refl

    pub some_at : i < p.0 → Finds (leaf (run1 f)) s i (Some p)
    some_at h = leaf_at (run1 f) s i p (run f (drop i s)) e (at_least_one_is (run f (drop i s)) (omega arith))

    pub some_no : p.0 ≤ i → Finds (leaf (run1 f)) s i None
    some_no h = leaf_none (run1 f) s i (at_least_one_no (run f (drop i s)) (omega arith))

-- a byte, and a word in any letter case
module _ (b : ℕ) (s : List ℕ) (i : ℕ) where
  pub byte_at : begins (b ∷ []) (drop i s) ≡ true → (p : Pos) → p.0 ≡ i + 1 → Finds (leaf (one (is b))) s i (Some p)
  byte_at h p e = leaf_at (one (is b)) s i p 1 e (one_begins b (drop i s) ∙ ap (λ x. given x 1) h)

  pub byte_no : begins (b ∷ []) (drop i s) ≡ false → Finds (leaf (one (is b))) s i None
  byte_no h = leaf_none (one (is b)) s i (one_begins b (drop i s) ∙ ap (λ x. given x 1) h)

module _ (w : List ℕ) (s : List ℕ) (i : ℕ) where
  pub word_at : begins_no_case w (drop i s) ≡ true → (p : Pos) → p.0 ≡ i + length w → Finds (leaf (tag_no_case w)) s i (Some p)
  word_at h p e = leaf_at (tag_no_case w) s i p (length w) e (ap (λ x. given x (length w)) h)

  pub word_no : begins_no_case w (drop i s) ≡ false → Finds (leaf (tag_no_case w)) s i None
  word_no h = leaf_none (tag_no_case w) s i (ap (λ x. given x (length w)) h)

module _ {m : Parser} {s : List ℕ} {i : ℕ} (n : Parser) where
  -- one behind another
  pub seq_at : {p : Pos} {r : Option Pos} → T (quiet m) → Finds m s i (Some p) → Finds n s p.0 r → Finds (m ▸ n) s i r
  unfolding read_of
  seq_at {p} u a b =
      record { reading = λ l lim met base t. seq_got (a.reading l lim met base t) n u (cursor p.0 base met) refl (b.reading l lim met base t) }

  pub seq_no : Finds m s i None → Finds (m ▸ n) s i None
  unfolding read_of
  seq_no a = record { reading = λ l lim met base t. seq_out (a.reading l lim met base t) n refl }

  -- alternatives
  pub or_at : {p : Pos} → Finds m s i (Some p) → Finds (m or n) s i (Some p)
  unfolding read_of
  or_at {p} a = record { reading = λ l lim met base t. or_first (a.reading l lim met base t) n λ x e. got_miss (cursor p.0 base met) x e }

  pub or_found : (r : Option Pos) → (r ≡ None → ⊥) → Finds m s i r → Finds (m or n) s i r
  or_found (Some p) h a = or_at a
  or_found None h a = absurd (h refl)

  pub or_no : {r : Option Pos} → Finds m s i None → Finds n s i r → Finds (m or n) s i r
  unfolding read_of
  or_no a b = record { reading = λ l lim met base t. or_miss (a.reading l lim met base t) n met refl (b.reading l lim met base t) }

-- not
module _ {m : Parser} {s : List ℕ} {i : ℕ} where
  pub never_at : {p : Pos} → T (quiet m) → Finds m s i (Some p) → Finds (never m) s i None
  unfolding read_of
  never_at {p} u a = record { reading = λ l lim met base t. never_got (a.reading l lim met base t) u (cursor p.0 base met) refl }

  pub never_no : Finds m s i None → (p : Pos) → p.0 ≡ i → Finds (never m) s i (Some p)
  unfolding read_of
  never_no a p e =
      record {
        reading = λ l lim met base t. subst (λ (j : ℕ). Reading (never m) s l lim i met base t t (Ok (cursor j base met))) (sym e)
            (never_miss (a.reading l lim met base t) met refl);
      }

  -- it stands in the text
  pub end_in : T (quiet m) → T (slim m) → {p : Pos} → i ≤ length s → Finds m s i (Some p) → Moved (cost m) s i 0 (cursor p.0 0 false)
  unfolding read_of
  end_in u w {p} h a = moved m u w (cursor p.0 0 false) h (a.reading 0 0 false 0 []) refl

-- a byte of one class and a run of another
module _ (f g : ℕ → Bool) (s : List ℕ) (i : ℕ) (p : Pos) (e : p.0 ≡ i + name_run f g (drop i s)) where
  pub name_at : (p.0 ≡ i → ⊥) → Finds (leaf (one f) ▸ leaf (run0 g)) s i (Some p)
  name_at n = among (ltb i (length s)) refl
    where
      byte : (x : Bool) → f (get_or s i 0) ≡ x → i < length s → Finds (leaf (one f) ▸ leaf (run0 g)) s i (Some p)
      byte true q h = seq_at (leaf (run0 g)) tt (one_at f s i h q (record { 0 = i + 1 }) refl) (run_at g s (i + 1) p (e ∙ name_go f g s i h q))
      byte false q h = absurd (n (e ∙ name_no f g s i h q))

      among : (x : Bool) → ltb i (length s) ≡ x → Finds (leaf (one f) ▸ leaf (run0 g)) s i (Some p)
      among true q = byte (f (get_or s i 0)) refl (ltb-true i (length s) q)
      among false q = absurd (n (e ∙ name_none f g s i (ltb-false i (length s) q)))

  pub no_name : p.0 ≡ i → Finds (leaf (one f) ▸ leaf (run0 g)) s i None
  no_name n = among (ltb i (length s)) refl
    where
      byte : (x : Bool) → f (get_or s i 0) ≡ x → i < length s → Finds (leaf (one f) ▸ leaf (run0 g)) s i None
      byte true q h = absurd (let z = sym n ∙ e ∙ name_go f g s i h q in let y : ⊥ = omega (arith, z) in y)
      byte false q h = seq_no (leaf (run0 g)) (one_no f s i h q)

      among : (x : Bool) → ltb i (length s) ≡ x → Finds (leaf (one f) ▸ leaf (run0 g)) s i None
      among true q = byte (f (get_or s i 0)) refl (ltb-true i (length s) q)
      among false q = seq_no (leaf (run0 g)) (one_end f s i (ltb-false i (length s) q))
