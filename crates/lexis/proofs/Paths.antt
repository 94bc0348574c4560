-- Identifiers and paths.
use mathlib.Core.Bool.{Bool, true, false, ◌||◌}
use mathlib.Core.List.{List, []}
use mathlib.Core.Path.{◌≡◌, refl, sym, subst}
use Prim.Native.Nat.{ℕ, ◌+◌, ◌≤◌, ◌<◌}
use lib.Dec.{T, eqb}
use lib.ListN.{length, get_or}
use Rattle.reading.proofs.Tests.{quiet}
use Rattle.reading.specs.Byte.{is, alphanumeric}
use Rattle.reading.specs.Grammar.{one, Parser, ◌or◌, never, many0, leaf, always, node}
use Rattle.reading.specs.Kind.{pathᵏ}
use Rattle.reading.specs.Rules.{byte, trivia, identifier_name, identifier_scope, identifier_path, all_rules}
use Rattle.table.specs.declared.Pos.{Pos}
use Rattle.cursor.proofs.Laws.{seq_got, seq_skip}
use Rattle.cursor.proofs.Loops.{Repeatable, Round, Looped, looped_none, many_step, many_more, many_end}
use Rattle.cursor.specs.Agree.{Reading, Leafs}
use Rattle.cursor.specs.Text.{cursor, skip, Skips}
use Rattle.cursor.specs.declared.Cursor.{Cursor}
use Rattle.cursor.specs.Read.{Read}
use Rattle.cursor.specs.declared.Skip.{Skip}
use Rattle.lexis.specs.Behind.{Rowed}
use Rattle.lexis.specs.Finds.{read_of, Finds, identifier, dotted, identifiers}
use Rattle.lexis.proofs.Ends.{one_at, one_no, one_end, end_in, seq_at, seq_no, or_at, or_no}
use Rattle.lexis.proofs.Marks.{behind_got, behind_no}
use Rattle.cursor.specs.declared.Stop.TheVariants.{Miss}
use Rattle.std.specs.Prelude.{Ok, Err, Option, Some, None}

-- Signs ----------------------------------------------------------------------

abbrev sign : Parser
sign = byte "-" or byte "+"

abbrev apart : Parser
apart = never (leaf (one alphanumeric))

module _ (s : List ℕ) (i : ℕ) where
  pub scope_end : length s ≤ i → Finds identifier_scope s i None
  unfolding identifier_scope
  scope_end h = seq_no apart (or_no (byte "+") (one_end (is 45) s i h) (one_end (is 43) s i h))

  module _ (h : i < length s) where
    pub scope_no : eqb (get_or s i 0) 45 || eqb (get_or s i 0) 43 ≡ false → Finds identifier_scope s i None
    unfolding identifier_scope
    scope_no e = seq_no apart (go (eqb (get_or s i 0) 45) (eqb (get_or s i 0) 43) refl refl e)
      where
        go : (x y : Bool) → eqb (get_or s i 0) 45 ≡ x → eqb (get_or s i 0) 43 ≡ y → x || y ≡ false → Finds sign s i None
        go true y p q e = absurd (subst T e tt)
        go false true p q e = absurd (subst T e tt)
        go false false p q e = or_no (byte "+") (one_no (is 45) s i h p) (one_no (is 43) s i h q)

    pub scope_at : eqb (get_or s i 0) 45 || eqb (get_or s i 0) 43 ≡ true → {r : Option Pos} → Finds apart s (i + 1) r → Finds identifier_scope s i r
    unfolding identifier_scope
    scope_at e a = seq_at apart {p = record { 0 = i + 1 }} tt (go (eqb (get_or s i 0) 45) (eqb (get_or s i 0) 43) refl refl e) a
      where
        go : (x y : Bool) → eqb (get_or s i 0) 45 ≡ x → eqb (get_or s i 0) 43 ≡ y → x || y ≡ true → Finds sign s i (Some (record { 0 = i + 1 }))
        go true y p q e = or_at (byte "+") (one_at (is 45) s i h p (record { 0 = i + 1 }) refl)
        go false true p q e = or_no (byte "+") (one_no (is 45) s i h p) (one_at (is 43) s i h q (record { 0 = i + 1 }) refl)
        go false false p q e = absurd (subst T (sym e) tt)

-- Dots -----------------------------------------------------------------------

dotted_repeats : Repeatable dotted
unfolding identifier_scope identifier_name
dotted_repeats = record { quieted = tt; slimmed = tt; moving = tt; paying = tt }

identifier_quiet : T (quiet identifier)
unfolding identifier_scope identifier_name
identifier_quiet = tt

-- an identifier, and identifiers, end in the text
module _ {s : List ℕ} {i : ℕ} (h : i ≤ length s) {p : Pos} where
  pub identifier_in : Finds identifier s i (Some p) → p.0 ≤ length s
  unfolding identifier_scope identifier_name
  identifier_in a = (end_in tt tt h a).within

  pub identifiers_in : Finds identifiers s i (Some p) → p.0 ≤ length s
  unfolding identifier_scope identifier_name
  identifiers_in a = (end_in tt tt h a).within

-- the loop over identifiers behind dots stands at i; it began at j
pub record Dotting (s : List ℕ) (j i : ℕ) : Type 0 where
  pub loops : (met : Bool) (base : ℕ) (t : List ℕ) → Looped (λ l lim. lim) dotted s j base met t i base met t

pub dotting_none : {s : List ℕ} {i : ℕ} → i ≤ length s → Dotting s i i
dotting_none {s} {i} h = record { loops = λ met base t. looped_none (λ l lim. lim) dotted s i base met t h }

module _ {s : List ℕ} {j i : ℕ} (u : Dotting s j i) where
  module _ {q : Pos} (a : Finds dotted s i (Some q)) where
    pub dotting_step : Round s i 0 (cursor q.0 0 false)
    unfolding read_of
    dotting_step = many_step (u.loops false 0 []) (λ l lim. a.reading l lim false 0 []) dotted_repeats (cursor q.0 0 false) refl

    pub dotting_more : Dotting s j q.0
    unfolding read_of
    dotting_more =
        record {
          loops = λ met base t. many_more (u.loops met base t) (λ l lim. a.reading l lim met base t) dotted_repeats (cursor q.0 base met) refl refl;
        }

  -- no more
  pub dotting_end : {at : ℕ} {p : Pos} → p.0 ≡ j → Finds identifier s at (Some p) → Finds dotted s i None → (e : Pos) → e.0 ≡ i → Finds identifiers s at (Some e)
  unfolding read_of
  dotting_end {at} {p} z f a e y =
      record {
        reading = λ l lim met base t.
            subst (λ (n : ℕ). Reading identifiers s l lim at met base t t (Ok (cursor n base met))) (sym y)
            (seq_got (f.reading l lim met base t) (many0 dotted) identifier_quiet (cursor p.0 base met) refl
            (subst (λ (n : ℕ). Reading (many0 dotted) s l lim n met base t t (Ok (cursor i base met))) (sym z)
            (many_end (u.loops met base t) (λ l lim. a.reading l lim met base t) met refl l lim)));
      }

-- Paths ----------------------------------------------------------------------

path_quiet : T (quiet identifier_path)
unfolding all_rules
path_quiet = tt

-- behind what was skipped before, the path's own trivia and identifiers
module _ {g : Parser} {s : List ℕ} {c : Cursor} {k j : Skip} (y : Skips g s c.at.0 c.met k) (x : Skips trivia s k.at.0 k.met j) {t : List ℕ} where
  pub path_got : {p : Pos} → Finds identifiers s j.at.0 (Some p) → {t' : List ℕ} {r : Read}
      → Rowed pathᵏ 0 c (skip k.at.0 j.met) p.0 t t' r → Leafs (node pathᵏ (always 0) g identifier_path) s c t t' r
  unfolding identifier_path read_of
  path_got {p} a w = behind_got y pathᵏ 0 path_quiet p.0 j.met (λ l lim. seq_skip x (a.reading l lim j.met c.count.0 t)) w

  pub path_no : Finds identifiers s j.at.0 None → Leafs (node pathᵏ (always 0) g identifier_path) s c t t (Err (Miss j.met))
  unfolding identifier_path read_of
  path_no a = behind_no y pathᵏ 0 j.met λ l lim. seq_skip x (a.reading l lim j.met c.count.0 t)
