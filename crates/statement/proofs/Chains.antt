-- Sequences and alternatives of readers with the state: the order of statement(), items, blocks.
use mathlib.Core.Path.{◌≡◌, refl, ap, sym, subst, ◌∙◌}
use mathlib.Core.Bool.{true, false}
use mathlib.Core.List.{List, [], ◌∷◌}
use Prim.Native.Nat.{ℕ, ◌-◌, ◌≤◌, ◌<◌}
use native.Mathlib.Omega.{arith}
use lib.Dec.{T as Passes}
use lib.ListN.{length}
use Rattle.reading.specs.Kind.{blockᵏ, loopᵏ, ifᵏ, segmentᵏ, testᵏ}
use Rattle.reading.specs.Grammar.{Parser, ◌▸◌, ◌or◌, many0}
use Rattle.reading.specs.Rules.{opt, directive, expression, multiline_trivia, block, block_item, braces, label, macro_definition, import', statement, error_in_block}
use Rattle.reading.specs.Rules.{instruction, variable_definition, const_definition, pc_definition, config_definition, macro_invocation, data', segment, loop', if', align, text, file, test, assert, trace}
use Rattle.reading.proofs.Moves.{moves}
use Rattle.reading.proofs.Tests.{quiet}
use Rattle.lexis.specs.Around.{Finished}
use Rattle.cursor.specs.Text.{cursor}
use Rattle.cursor.specs.Agree.{Reads}
use Rattle.cursor.specs.Read.{Read}
use Rattle.cursor.specs.declared.Cursor.{Cursor}
use Rattle.state.specs.declared.State.{State as Counts}
use Rattle.state.specs.Done.{Done}
use Rattle.state.specs.Acts.{Tables, tables, Does, TellsLeaf, Closes, opening, Fit}
use Rattle.state.proofs.Laws.{rule_is, seq_out, seq_got, or_first, or_miss, opt_first, opt_miss}
use Rattle.state.proofs.Bounds.{sober, acted, moved, fit_got, fit_miss}
use Rattle.state.proofs.Blocks.{block_out, block_none, block_items, block_end, block_got}
use Rattle.statement.specs.declared.Body.{Body}
use Rattle.statement.specs.declared.Body.TheVariants.{Maybe, Block, Branches}
use Rattle.statement.specs.Shapes.{mark_of, optional, body_of, closing, Lifted}
use Rattle.statement.specs.Heads.{from_macro, from_loop, from_import}
use Rattle.head.specs.Heads.{word_of, directive_of}
use Rattle.statement.proofs.Same.{Same, does_same, same_then, or_same, or_assoc}
use Rattle.statement.proofs.Lifts.{Reached, lift_flat}
use Rattle.statement.proofs.Tests.{Paid, mark_paid, mark_moves}
use Rattle.cursor.specs.declared.Stop.{Stop}
use Rattle.cursor.specs.declared.Stop.TheVariants.{Miss, Deep}
use Rattle.std.specs.Prelude.{Ok, Err, IsErr}

-- One after the other ------------------------------------------------------

module _ {m : Parser} {s : List ℕ} {c : Cursor} {st : Counts} {left : ℕ} {T T₁ : Tables} {r : Done} (a : Does m s c st left T T₁ r) where
  pub does_first : {n : Parser} → ((x : Counts) → r ≡ Err (Miss x) → ⊥) → Does (m or n) s c st left T T₁ r
  does_first {n} h = record { acting = λ l. or_first (a.acting l) n h }

  -- a match says in two steps that the first attempt was a miss
  pub does_next : {n : Parser} {z : Stop Counts} {x : Counts} → r ≡ Err z → z ≡ Miss x → {T₂ : Tables} {r₂ : Done} → Does n s c x left T₁ T₂ r₂
      → Does (m or n) s c st left T T₂ r₂
  does_next {n} {x = x} is q b = record { acting = λ l. or_miss (a.acting l) n x (is ∙ ap Err q) (b.acting l) }

  pub does_out : {n : Parser} → IsErr r → Does (m ▸ n) s c st left T T₁ r
  does_out {n} h = record { acting = λ l. seq_out (a.acting l) n h }

  pub does_then : {n : Parser} {d : Cursor} {x : Counts} → r ≡ Ok (d, x) → {T₂ : Tables} {r₂ : Done} → Does n s d x left T₁ T₂ r₂ → Does (m ▸ n) s c st left T T₂ r₂
  does_then {n} {d} {x} q b = record { acting = λ l. seq_got (a.acting l) n d x q (b.acting l) }

  pub does_optional : {r₂ : Done} → r₂ ≡ optional c r → Does (opt m) s c st left T T₁ r₂
  unfolding optional
  does_optional {r₂} e = go r refl
    where
      from : {x : Done} → r₂ ≡ x → Does (opt m) s c st left T T₁ x → Does (opt m) s c st left T T₁ r₂
      from q b = subst (Does (opt m) s c st left T T₁) (sym q) b

      go : (y : Done) → r ≡ y → Does (opt m) s c st left T T₁ r₂
      go (Ok d) q = from (e ∙ ap (optional c) q ∙ sym q) (record { acting = λ l. opt_first (a.acting l) λ x z. grind arith })
      go (Err (Miss x)) q = from (e ∙ ap (optional c) q) (record { acting = λ l. opt_miss (a.acting l) x q })
      go (Err Deep) q = from (e ∙ ap (optional c) q ∙ sym q) (record { acting = λ l. opt_first (a.acting l) λ x z. grind arith })

  module _ (fit : Fit 0 s c st) where
    pub reached : Paid m → {d : Cursor} {x : Counts} → r ≡ Ok (d, x) → Reached s c d x
    reached t {d} {x} q = record { fit = fit_got fit m t.0 t.1 (a.acting 0) d x q; grown = (acted m fit.within (a.acting 0) t.0 d x q).grown }

    pub moved_then : Passes (moves m) → {d : Cursor} {x : Counts} → r ≡ Ok (d, x) → c.at.0 < d.at.0
    moved_then t {d} {x} q = moved m fit.within (a.acting 0) t d x q

    pub fit_next : Passes (sober m) → {z : Stop Counts} {x : Counts} → r ≡ Err z → z ≡ Miss x → Fit 0 s c x
    fit_next t {x = x} is q = fit_miss fit m t (a.acting 0) x (is ∙ ap Err q)

-- a head that was read without the state, and came to d
pub record Headway (g : Parser) (s : List ℕ) (c : Cursor) (st : Counts) (t t₁ e e₁ : List ℕ) (d : Cursor) (x : Counts) : Type 0 where
  pub tells : TellsLeaf g s c st t t₁ e e₁ (Ok (d, x))
  pub reached : Reached s c d x

pub head_read : {g : Parser} → Passes (quiet g) → Paid g → {s : List ℕ} {c : Cursor} {st : Counts} → Fit 0 s c st → {t t₁ e e₁ : List ℕ} {f : Read}
    {d : Cursor} {x : Counts} → Lifted (length s) f st e e₁ (Ok (d, x)) → ((left : ℕ) → Reads g s (cursor c.at.0 c.count.0 false) left t t₁ f)
    → Headway g s c st t t₁ e e₁ d x
head_read u p fit n a = let h = lift_flat u fit.within n a in record { tells = h; reached = reached (h.does 0 []) fit p refl }

-- Alternatives that were read as a group -----------------------------------

five_same : (s : List ℕ) (a b c d e n : Parser) → Same s (a or b or c or d or e or n) ((a or b or c or d or e) or n)
five_same s a b c d e n =
    same_then (or_same a (same_then (or_same b (same_then (or_same c (or_assoc s d e n)) (or_assoc s c (d or e) n))) (or_assoc s b (c or d or e) n)))
    (or_assoc s a (b or c or d or e) n)

module _ {s : List ℕ} {c : Cursor} {st : Counts} {left : ℕ} {T T₁ : Tables} {r : Done} where
  pub statement_is : Does (braces or (label or ((instruction or variable_definition or const_definition or pc_definition or config_definition) or from_macro))) s c st left T T₁ r
      → Does statement s c st left T T₁ r
  unfolding statement from_macro from_loop from_import
  statement_is a =
      does_same (or_same braces (or_same label (five_same s instruction variable_definition const_definition pc_definition config_definition from_macro))) a

  pub second_is : Does (macro_definition or ((macro_invocation or data') or (segment or from_loop))) s c st left T T₁ r → Does from_macro s c st left T T₁ r
  unfolding from_macro
  second_is a = does_same (or_same macro_definition (or_assoc s macro_invocation data' (segment or from_loop))) a

  pub third_is : Does (loop' or (if' or (align or from_import))) s c st left T T₁ r → Does from_loop s c st left T T₁ r
  unfolding from_loop
  third_is a = a

  pub fourth_is : Does (import' or ((text or file) or (test or (assert or trace)))) s c st left T T₁ r → Does from_import s c st left T T₁ r
  unfolding from_import
  fourth_is a = does_same (or_same import' (or_assoc s text file (test or (assert or trace)))) a

  -- the directives' words
  pub segment_is : Does (closing false segmentᵏ (directive_of (46 ∷ 115 ∷ 101 ∷ 103 ∷ 109 ∷ 101 ∷ 110 ∷ 116 ∷ [])) (expression ▸ body_of Maybe)) s c st left T T₁ r
      → Does segment s c st left T T₁ r
  unfolding segment directive_of word_of body_of
  segment_is a = a

  pub loop_is : Does (closing true loopᵏ (directive_of (46 ∷ 108 ∷ 111 ∷ 111 ∷ 112 ∷ [])) (expression ▸ body_of Block)) s c st left T T₁ r → Does loop' s c st left T T₁ r
  unfolding loop' directive_of word_of body_of
  loop_is a = a

  pub if_is : Does (closing false ifᵏ (directive_of (46 ∷ 105 ∷ 102 ∷ [])) (expression ▸ body_of Branches)) s c st left T T₁ r → Does if' s c st left T T₁ r
  unfolding if' directive_of word_of body_of
  if_is a = a

  pub test_is : Does (closing false testᵏ (directive_of (46 ∷ 116 ∷ 101 ∷ 115 ∷ 116 ∷ [])) (expression ▸ body_of Block)) s c st left T T₁ r → Does test s c st left T T₁ r
  unfolding test directive_of word_of body_of
  test_is a = a

  -- what stands behind a head
  pub body_maybe : {b : Body} → b ≡ Maybe → Does (opt block) s c st left T T₁ r → Does (body_of b) s c st left T T₁ r
  unfolding body_of
  body_maybe e a = subst (λ (b : Body). Does (body_of b) s c st left T T₁ r) (sym e) a

  pub body_block : {b : Body} → b ≡ Block → Does block s c st left T T₁ r → Does (body_of b) s c st left T T₁ r
  unfolding body_of
  body_block e a = subst (λ (b : Body). Does (body_of b) s c st left T T₁ r) (sym e) a

  pub body_branches : {b : Body} → b ≡ Branches → Does (block ▸ opt (directive "else" ▸ block)) s c st left T T₁ r → Does (body_of b) s c st left T T₁ r
  unfolding body_of
  body_branches e a = subst (λ (b : Body). Does (body_of b) s c st left T T₁ r) (sym e) a

-- Items --------------------------------------------------------------------

module _ {s : List ℕ} {c : Cursor} (h : 1 ≤ c.at.0) {st : Counts} (fit : Fit 0 s c st) {left : ℕ} {T T₁ : Tables} {r : Done} (a : Does statement s c st left T T₁ r) where
  pub item_first : ((x : Counts) → r ≡ Err (Miss x) → ⊥) → Does block_item s c st left T T₁ r
  unfolding block_item
  item_first o = record { acting = λ l. or_first (rule_is h fit.within (a.acting l)) error_in_block o }

  pub item_error : {z : Stop Counts} {x : Counts} → r ≡ Err z → z ≡ Miss x → {t' e' : List ℕ} {r₂ : Done} → TellsLeaf error_in_block s c x T₁.rows t' T₁.errors e' r₂
      → Does block_item s c st left T (tables t' e' T₁.requests) r₂
  unfolding block_item
  item_error {x = x} is q b = record { acting = λ l. or_miss (rule_is h fit.within (a.acting l)) error_in_block x (is ∙ ap Err q) ((b.does _ _).acting l) }

-- Blocks -------------------------------------------------------------------

module _ {s : List ℕ} {c : Cursor} {st : Counts} {t t₁ e e₁ : List ℕ} {d : Cursor} {x : Counts} (a : TellsLeaf (mark_of 123) s c st t t₁ e e₁ (Ok (d, x)))
    (fit : Fit 0 s c st) where
  pub brace_reached : Reached s c d x
  brace_reached = reached (a.does 0 []) fit (mark_paid 123) refl

  pub brace_at : c.at.0 < d.at.0
  brace_at = moved_then (a.does 0 []) fit (mark_moves 123) refl

module _ {s : List ℕ} {c : Cursor} {st : Counts} {left : ℕ} {t t₁ e e₁ q : List ℕ} {r₁ : Done} (a : TellsLeaf (mark_of 123) s c st t t₁ e e₁ r₁) where
  pub block_no_brace : IsErr r₁ → Does block s c st left (tables t e q) (tables t₁ e₁ q) r₁
  unfolding block mark_of
  block_no_brace h = block_out block_item blockᵏ 0 (a.does left q) h

  module _ {d : Cursor} {x : Counts} (z : r₁ ≡ Ok (d, x)) where
    pub block_too_deep : left ≡ 0 → Does block s c st left (tables t e q) (tables t₁ e₁ q) (Err Deep)
    unfolding block mark_of
    block_too_deep n = block_none block_item blockᵏ 0 (a.does left q) d x z n

    module _ (some : left ≡ 0 → ⊥) {T₂ : Tables} {r₂ : Done} (b : Does (many0 block_item) s d x (left - 1) (tables t₁ e₁ q) T₂ r₂) where
      pub block_items_out : IsErr r₂ → Does block s c st left (tables t e q) T₂ r₂
      unfolding block mark_of
      block_items_out h = block_items block_item blockᵏ 0 (a.does left q) d x z some b h

      module _ (at : 1 ≤ d.at.0) {g : Cursor} {y : Counts} (z₂ : r₂ ≡ Ok (g, y)) {t₃ e₃ : List ℕ} {r₃ : Done}
          (shut : Closes multiline_trivia (opening c.at.0 (d.at.0 - 1)) s g y T₂.rows t₃ T₂.errors e₃ r₃) where
        pub block_end_out : IsErr r₃ → Does block s c st left (tables t e q) (tables t₃ e₃ T₂.requests) r₃
        unfolding block mark_of
        block_end_out h = block_end block_item blockᵏ 0 (a.does left q) d x z some b (d.at.0 - 1) (omega arith) g y z₂ shut h

        pub block_whole : {h : Cursor} {w : Counts} → r₃ ≡ Ok (h, w) → {f : List ℕ} {v : Cursor} → Finished blockᵏ 0 c (d.at.0 - 1) h t₃ f v
            → Does block s c st left (tables t e q) (tables f e₃ T₂.requests) (Ok (record { at = v.at; count = v.count; met = false }, w))
        unfolding block mark_of
        block_whole {h} {w} z₃ {f} row =
            subst (Does block s c st left (tables t e q) (tables f e₃ T₂.requests))
            (sym (ap {B = Done} (λ (v : Cursor). Ok (record { at = v.at; count = v.count; met = false }, w)) row.is))
            (block_got block_item blockᵏ 0 (a.does left q) d x z some b (d.at.0 - 1) (omega arith) g y z₂ shut h w z₃ row.size row.counts row.table)
