-- A statement without a block: its first child stands behind the trivia that was skipped, the others follow, and the row is pushed.
use mathlib.Core.Path.{refl}
use mathlib.Core.Bool.{Bool}
use mathlib.Core.List.{List}
use Prim.Native.Nat.{ℕ, ◌≤◌}
use lib.ListN.{length}
use Rattle.reading.specs.Grammar.{Rows, tag_no_case, Parser, leaf, node, pick, over, always}
use Rattle.reading.specs.Kind.{mnemonicᵏ, wordᵏ}
use Rattle.reading.specs.Rules.{multiline_trivia}
use Rattle.reading.specs.Summary.{scan}
use Rattle.reading.proofs.Summaries.{Yields}
use Rattle.cursor.specs.Agree.{full, Reads, Leafs, Ready}
use Rattle.cursor.specs.Text.{here, Skips}
use Rattle.cursor.specs.declared.Cursor.{Cursor}
use Rattle.cursor.specs.declared.Skip.{Skip}
use Rattle.cursor.specs.Read.{Read}
use Rattle.cursor.proofs.Laws.{Solid, ready_on, reads_leaf}
use Rattle.cursor.proofs.Lows.{First, low_first, low_node, low_pick}
use Rattle.word.specs.Words.{mnemonic_list}
use Rattle.head.specs.Heads.{word_of, directive_of}
use Rattle.head.specs.Parts.{Flat, Whole, Closable}
use Rattle.head.proofs.Bounds.{Owing, paid_up, next, closable}
use Rattle.head.proofs.Tests.{word_solid, mnemonic_solid}
use Rattle.head.proofs.Wholes.{over_whole}
use Rattle.std.specs.Prelude.{Ok}

-- First children ---------------------------------------------------------------

-- m was read from c to d, and its row begins behind the trivia that ends at k
pub record Begun (m : Parser) (s : List ℕ) (c : Cursor) (k : Skip) (t t₁ : List ℕ) (d : Cursor) : Type 0 where
  pub ready : Ready 8 s c
  pub skips : Skips multiline_trivia s c.at.0 c.met k
  pub solid : Solid m
  pub lows : (l : ℕ) → Yields (First k.at.0) (scan (full s) m l (here s c.at.0))
  pub reads : (left : ℕ) → Reads m s c left t t₁ (Ok d)

module _ {s : List ℕ} {c : Cursor} (h : Ready 8 s c) {k : Skip} (x : Skips multiline_trivia s c.at.0 c.met k) {t t₁ : List ℕ} {d : Cursor} where
  pub node_begun : {kind : ℕ} {f : Rows → ℕ} {m : Parser} → Solid (node kind f multiline_trivia m) → Leafs (node kind f multiline_trivia m) s c t t₁ (Ok d)
      → Begun (node kind f multiline_trivia m) s c k t t₁ d
  node_begun {kind} {f} {m} ok a =
      record { ready = h; skips = x; solid = ok; lows = λ l. low_first (low_node kind x l f m); reads = λ left. reads_leaf left a }

  pub directive_begun : (w : List ℕ) → 1 ≤ length w → Flat (directive_of w) s c t t₁ (Ok d) → Begun (directive_of w) s c k t t₁ d
  unfolding directive_of word_of
  directive_begun w i a =
      record { ready = h; skips = x; solid = word_solid wordᵏ 0 w i; lows = λ l. low_first (low_node wordᵏ x l (always 0) (leaf (tag_no_case w))); reads = a.reads }

  pub mnemonic_begun : (implied : Bool) → Leafs (pick mnemonicᵏ multiline_trivia (mnemonic_list implied)) s c t t₁ (Ok d)
      → Begun (pick mnemonicᵏ multiline_trivia (mnemonic_list implied)) s c k t t₁ d
  mnemonic_begun implied a =
      record {
        ready = h;
        skips = x;
        solid = mnemonic_solid implied;
        lows = λ l. low_first (low_pick mnemonicᵏ x l (mnemonic_list implied));
        reads = λ left. reads_leaf left a;
      }

-- The others -------------------------------------------------------------------

module _ {m : Parser} {s : List ℕ} {c : Cursor} {k : Skip} {t t₁ : List ℕ} {d : Cursor} (h : Begun m s c k t t₁ d) where
  pub rest_ready : Ready 8 s d
  rest_ready = ready_on h.solid d h.ready (h.reads 0) refl

  module _ {o : ℕ} {n : Parser} (ok : Owing o n) (few : o ≤ 8) {left : ℕ} {t₂ : List ℕ} {r₂ : Read} (b : Reads n s d left t₁ t₂ r₂) where
    pub rest_closable : Closable c k r₂
    rest_closable = closable ok few h.ready h.skips rest_ready (next (paid_up h.solid) h.ready (h.reads 0) refl).grown b

    pub rest_whole : {kind : ℕ} {t' : List ℕ} {r : Read} → Whole kind c k r₂ t₂ t' r → Reads (over kind 0 m n) s c left t t' r
    rest_whole {kind} w = over_whole kind n (h.reads left) h.solid.quieted ok.quieted refl b h.lows rest_closable w
