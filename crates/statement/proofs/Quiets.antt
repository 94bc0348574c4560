-- Groups of quiet statements, and statements that report what is missing.
use mathlib.Core.Path.{◌≡◌, refl, sym, subst}
use mathlib.Core.Bool.{false}
use mathlib.Core.List.{List, []}
use Prim.Native.Nat.{ℕ, ◌^◌, ◌≤◌, ◌<◌}
use native.Mathlib.Omega.{arith}
use lib.ListN.{length}
use Rattle.cursor.specs.Agree.{Reads}
use Rattle.cursor.specs.Read.{Read}
use Rattle.statement.proofs.Lifts.{lift}
use Rattle.statement.proofs.Tests.{Calm}
use Rattle.reading.specs.Kind.{definitionᵏ, dataᵏ, data_sizeᵏ, wordᵏ}
use Rattle.reading.specs.Grammar.{Parser, ◌▸◌, ◌or◌, expect, always}
use Rattle.reading.specs.Rules.{word, multiline_trivia, config_map, config_definition, expression_arg_list, data_size, data'}
use Rattle.cursor.specs.Text.{cursor, Skips}
use Rattle.cursor.specs.declared.Cursor.{Cursor}
use Rattle.cursor.specs.declared.Skip.{Skip}
use Rattle.state.specs.declared.State.{State as Counts}
use Rattle.state.specs.Done.{Done}
use Rattle.state.specs.Acts.{Tells, TellsLeaf, Fit}
use Rattle.state.proofs.Bounds.{fit_errors}
use Rattle.state.proofs.Laws.{seq_assoc, expect_first, expect_miss}
use Rattle.state.proofs.Rows.{Starts, line_quiet, starts_node, starts_or}
use Rattle.statement.specs.Shapes.{Closed, Expected, Lifted}
use Rattle.head.specs.Heads.{define_head}
use Rattle.statement.proofs.Tails.{closing_out, closing_got}
use Rattle.statement.proofs.Chains.{does_first, does_next, does_out, does_then, fit_next}
use Rattle.cursor.specs.declared.Stop.{Stop}
use Rattle.cursor.specs.declared.Stop.TheVariants.{Miss, Deep}
use Rattle.std.specs.Prelude.{Ok, Err, IsErr}

-- Groups -------------------------------------------------------------------

module _ {m : Parser} {s : List ℕ} {c : Cursor} {st : Counts} {left : ℕ} {t t₁ e e₁ : List ℕ} {r : Done} (a : Tells m s c st left t t₁ e e₁ r) where
  pub tells_first : {n : Parser} → ((x : Counts) → r ≡ Err (Miss x) → ⊥) → Tells (m or n) s c st left t t₁ e e₁ r
  tells_first h = record { does = λ q. does_first (a.does q) h }

  pub tells_next : {n : Parser} {z : Stop Counts} {x : Counts} → r ≡ Err z → z ≡ Miss x → {t₂ e₂ : List ℕ} {r₂ : Done} → Tells n s c x left t₁ t₂ e₁ e₂ r₂
      → Tells (m or n) s c st left t t₂ e e₂ r₂
  tells_next is z b = record { does = λ q. does_next (a.does q) is z (b.does q) }

  -- what may be missing, with a report of its code where it would begin
  pub tells_expected : (code : ℕ) {e₂ : List ℕ} {r₂ : Done} → Expected code c r e₁ e₂ r₂ → Tells (expect code m) s c st left t t₁ e e₂ r₂
  tells_expected code {e₂} {r₂} w = go r refl
    where
      kept : ((x : Counts) → r ≡ Err (Miss x) → ⊥) → Tells (expect code m) s c st left t t₁ e e₂ r₂
      kept h =
          let is = w.kept h in
          subst (λ f. Tells (expect code m) s c st left t t₁ e f r₂) (sym is.1)
          (subst (Tells (expect code m) s c st left t t₁ e e₁) (sym is.0)
          (record { does = λ q. record { acting = λ l. expect_first ((a.does q).acting l) code h } }))

      go : (y : Done) → r ≡ y → Tells (expect code m) s c st left t t₁ e e₂ r₂
      go (Ok d) z = kept λ x q. grind arith
      go (Err Deep) z = kept λ x q. grind arith
      go (Err (Miss x)) z =
          let is = w.missing x z in
          subst (Tells (expect code m) s c st left t t₁ e e₂) (sym is.2)
          (record { does = λ q. record { acting = λ l. expect_miss ((a.does q).acting l) code x z is.1 } })

-- A quiet reader's answer as one of several alternatives ------------------------

module _ {m : Parser} (u : Calm m) {s : List ℕ} {c : Cursor} {st : Counts} (fit : Fit 0 s c st) {t t₁ e e₁ : List ℕ} {f : Read} {r : Done}
    (h : Lifted (length s) f st e e₁ r) {left : ℕ} (a : Reads m s (cursor c.at.0 c.count.0 false) left t t₁ f) where
  pub tried : Tells m s c st left t t₁ e e₁ r
  tried = lift u.0 fit.within h a

  pub tried_fit : {z : Stop Counts} {x : Counts} → r ≡ Err z → z ≡ Miss x → Fit 0 s c x
  tried_fit is q = fit_next (tried.does []) fit u.1 is q

  -- the report of a miss has room
  pub tried_room : (x : Counts) → r ≡ Err (Miss x) → x.errors < 2 ^ 32
  tried_room x z = let k = fit_errors (tried_fit z refl) in omega (arith, fit.small, fit.within, k)

  pub tried_first : {n : Parser} → ((x : Counts) → r ≡ Err (Miss x) → ⊥) → Tells (m or n) s c st left t t₁ e e₁ r
  tried_first o = tells_first tried o

  pub tried_next : {n : Parser} {z : Stop Counts} {x : Counts} → r ≡ Err z → z ≡ Miss x → {t₂ e₂ : List ℕ} {r₂ : Done}
      → (Fit 0 s c x → Tells n s c x left t₁ t₂ e₁ e₂ r₂) → Tells (m or n) s c st left t t₂ e e₂ r₂
  tried_next is q b = tells_next tried is q (b (tried_fit is q))

-- A head that was read without the state, and what stands behind it --------------

module _ {m n : Parser} {s : List ℕ} {c : Cursor} {st : Counts} {left : ℕ} {t t₁ e e₁ : List ℕ} where
  pub tells_out : {r : Done} → TellsLeaf m s c st t t₁ e e₁ r → IsErr r → Tells (m ▸ n) s c st left t t₁ e e₁ r
  tells_out a h = record { does = λ q. does_out (a.does left q) h }

  pub tells_then : {d : Cursor} {x : Counts} → TellsLeaf m s c st t t₁ e e₁ (Ok (d, x)) → {t₂ e₂ : List ℕ} {r : Done} → Tells n s d x left t₁ t₂ e₁ e₂ r
      → Tells (m ▸ n) s c st left t t₂ e e₂ r
  tells_then a b = record { does = λ q. does_then (a.does left q) refl (b.does q) }

-- The row around a definition and its map ---------------------------------------

module _ {s : List ℕ} {c : Cursor} {st : Counts} {left : ℕ} {t t₁ e e₁ : List ℕ} {r : Done} (a : Tells (define_head ▸ expect 4 config_map) s c st left t t₁ e e₁ r) where
  pub definition_out : IsErr r → Tells config_definition s c st left t t₁ e e₁ r
  unfolding define_head config_definition
  definition_out h = record { does = λ q. record { acting = λ l. closing_out false definitionᵏ (seq_assoc ((a.does q).acting l)) h } }

  pub definition_got : {k : Skip} → Skips multiline_trivia s c.at.0 false k → {g : Cursor} {y : Counts} → r ≡ Ok (g, y) → c.count.0 ≤ g.count.0
      → {t' : List ℕ} {r' : Done} → Closed false definitionᵏ c k g y t₁ t' r' → Tells config_definition s c st left t t' e e₁ r'
  unfolding define_head config_definition
  definition_got skip {g} {y} z grown w =
      record { does = λ q. record { acting = λ l. closing_got false (seq_assoc ((a.does q).acting l)) (starts_node wordᵏ (always 0) (word ".define") line_quiet skip) g y z grown w } }

-- The row around data and its values ---------------------------------------------

size_starts : {s : List ℕ} {l lim i : ℕ} {st : Counts} {k : Skip} → Skips multiline_trivia s i false k → Starts data_size s l lim i st k.at.0
unfolding data_size
size_starts skip =
    starts_or (starts_node data_sizeᵏ (always 1) (word ".byte") line_quiet skip)
    λ lim st. starts_or (starts_node data_sizeᵏ (always 2) (word ".word") line_quiet skip)
    λ lim st. starts_node data_sizeᵏ (always 3) (word ".dword") line_quiet skip

module _ {s : List ℕ} {c : Cursor} {st : Counts} {left : ℕ} {t t₁ e e₁ : List ℕ} {r : Done} (a : Tells (data_size ▸ expect 3 expression_arg_list) s c st left t t₁ e e₁ r) where
  pub data_out : IsErr r → Tells data' s c st left t t₁ e e₁ r
  unfolding data'
  data_out h = record { does = λ q. record { acting = λ l. closing_out false dataᵏ ((a.does q).acting l) h } }

  pub data_got : {k : Skip} → Skips multiline_trivia s c.at.0 false k → {g : Cursor} {y : Counts} → r ≡ Ok (g, y) → c.count.0 ≤ g.count.0
      → {t' : List ℕ} {r' : Done} → Closed false dataᵏ c k g y t₁ t' r' → Tells data' s c st left t t' e e₁ r'
  unfolding data'
  data_got skip {g} {y} z grown w =
      record { does = λ q. record { acting = λ l. closing_got false ((a.does q).acting l) (size_starts skip) g y z grown w } }
