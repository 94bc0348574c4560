-- Config maps, their pairs and values, each from what its parts answered.
use mathlib.Core.Path.{◌≡◌, refl, ap, ◌∙◌}
use mathlib.Core.Bool.{Bool}
use mathlib.Core.List.{List}
use Prim.Native.Nat.{ℕ, ◌+◌}
use lib.ListN.{length}
use Rattle.reading.specs.Kind.{configᵏ, config_pairᵏ, expressionᵏ, blockᵏ, wordᵏ, config_valueᵏ}
use Rattle.reading.specs.Grammar.{Parser, empty, ◌▸◌, many0, over, bracket, always}
use Rattle.reading.specs.Rules.{mws, mchar, trivia, multiline_trivia, expression, config_key, config_value, kvp, config_map}
use Rattle.reading.specs.Summary.{scan}
use Rattle.reading.proofs.Summaries.{Yields}
use Rattle.cursor.specs.Text.{here, cursor, Skips}
use Rattle.cursor.specs.Agree.{full, Reads, Leafs}
use Rattle.cursor.specs.declared.Cursor.{Cursor}
use Rattle.cursor.specs.declared.Skip.{Skip}
use Rattle.cursor.specs.Read.{Read}
use Rattle.cursor.proofs.Lows.{First, low_first, low_node, low_over, first_bracket}
use Rattle.cursor.proofs.Laws.{reads_leaf, seq_out, seq_got}
use Rattle.cursor.proofs.Loops.{Looped, Round, many_step, many_more, many_end, many_deep}
use Rattle.expression.proofs.Facts.{expression_solid}
use Rattle.expression.proofs.Terms.{low_expression}
use Rattle.lexis.specs.Around.{Finished}
use Rattle.operand.proofs.Facts.{key_solid, pairs_solid, map_quiet, block_quiet, assigned_solid, kvp_rounds}
use Rattle.operand.proofs.Steps.{reads_empty, over_misses, over_done}
use Rattle.cursor.specs.declared.Stop.{Stop}
use Rattle.cursor.specs.declared.Stop.TheVariants.{Miss, Deep}
use Rattle.std.specs.Prelude.{Ok, Err, IsErr}

-- Maps -----------------------------------------------------------------------

-- what stands behind `{`
abbrev pairs : Parser
pairs = many0 kvp ▸ mchar "}"

-- the two rows around it, from what the bracket comes to
module _ {s : List ℕ} {c : Cursor} {left : ℕ} {t t₁ : List ℕ} {r₁ : Read} (a : Reads (bracket multiline_trivia 123 pairs) s c left t t₁ r₁) where
  pub map_misses : IsErr r₁ → Reads config_map s c left t t₁ r₁
  unfolding config_map
  map_misses h = over_misses (over_misses a h) h

  pub map_done : {k : Skip} → Skips multiline_trivia s c.at.0 c.met k → {x : Cursor} → r₁ ≡ Ok x
      → {t₂ t' : List ℕ} {y u : Cursor} → Finished blockᵏ 0 c k.at.0 x t₁ t₂ y → Finished configᵏ 0 c k.at.0 y t₂ t' u
      → Reads config_map s c left t t' (Ok u)
  unfolding config_map
  map_done {k} gap {x} q {t₂} {y = y} f g =
      let low : (l : ℕ) → Yields (First k.at.0) (scan (full s) (bracket multiline_trivia 123 pairs) l (here s c.at.0)) =
      λ l. first_bracket 123 pairs pairs_solid.quieted gap l in
      let block = over_done a map_quiet q (reads_empty s x left t₁) tt refl low f in
      over_done block block_quiet refl (reads_empty s y left t₂) tt refl
      (λ l. low_first (low_over blockᵏ 0 (bracket multiline_trivia 123 pairs) empty s l c.at.0 (low l))) g

-- The loop over pairs; l + left is the limit at the level l.
module _ {s : List ℕ} {left at₀ count₀ : ℕ} {met₀ : Bool} {t₀ : List ℕ} {at count : ℕ} {met : Bool} {t : List ℕ}
    (u : Looped (λ l j. l + left) kvp s at₀ count₀ met₀ t₀ at count met t) {t₁ : List ℕ} {r₁ : Read} (a : Reads kvp s (cursor at count met) left t t₁ r₁) where
  module _ {d : Cursor} (e : r₁ ≡ Ok d) where
    pub pairs_round : Round s at count d
    pairs_round = many_step u (λ l j. a.reading l) kvp_rounds d e

    pub pairs_more : length t₁ ≡ length t → Looped (λ l j. l + left) kvp s at₀ count₀ met₀ t₀ d.at.0 d.count.0 d.met t₁
    pairs_more same = many_more u (λ l j. a.reading l) kvp_rounds d e same

  pub pairs_end : {z : Stop Bool} {x : Bool} → r₁ ≡ Err z → z ≡ Miss x → {t₂ : List ℕ} {r₂ : Read} → Leafs (mchar "}") s (cursor at count x) t₁ t₂ r₂
      → Reads pairs s (cursor at₀ count₀ met₀) left t₀ t₂ r₂
  pairs_end {x = x} e q b =
      record { reading = λ l. seq_got (many_end u (λ l j. a.reading l) x (e ∙ ap Err q) l 0) (mchar "}") kvp_rounds.quieted (cursor at count x) refl (b.reading l (l + left)) }

  pub pairs_deep : r₁ ≡ Err Deep → Reads pairs s (cursor at₀ count₀ met₀) left t₀ t₁ (Err Deep)
  pairs_deep e = record { reading = λ l. seq_out (many_deep u (λ l j. a.reading l) e l 0) (mchar "}") refl }

-- Pairs ----------------------------------------------------------------------

pub kvp_done : {s : List ℕ} {c : Cursor} {k : Skip} → Skips multiline_trivia s c.at.0 c.met k → {left : ℕ} {t t₁ : List ℕ} {d : Cursor}
    → Leafs (mws wordᵏ 0 config_key) s c t t₁ (Ok d) → {t₂ : List ℕ} {r₂ : Read} → Reads (mchar "=" ▸ mws config_valueᵏ 0 config_value) s d left t₁ t₂ r₂
    → {x : Cursor} → r₂ ≡ Ok x → {t' : List ℕ} {z : Cursor} → Finished config_pairᵏ 0 c k.at.0 x t₂ t' z → Reads kvp s c left t t' (Ok z)
unfolding kvp
kvp_done gap {left} a b q f =
    over_done (reads_leaf left a) key_solid.quieted refl b assigned_solid.quieted q (λ l. low_first (low_node wordᵏ gap l (always 0) config_key)) f

-- Values ---------------------------------------------------------------------

pub expression_done : {s : List ℕ} {c : Cursor} {k : Skip} → Skips trivia s c.at.0 c.met k → {left : ℕ} {t t₁ : List ℕ} {r₁ : Read}
    → Reads expression s c left t t₁ r₁ → {d : Cursor} → r₁ ≡ Ok d → {t' : List ℕ} {z : Cursor} → Finished expressionᵏ 0 c k.at.0 d t₁ t' z
    → Reads (over expressionᵏ 0 expression empty) s c left t t' (Ok z)
expression_done {s} gap {left} {t₁ = t₁} a {d} e f =
    over_done a expression_solid.quieted e (reads_empty s d left t₁) tt refl (λ l. low_first (low_expression gap l)) f
