-- Error text, the end of the file, braces, and each statement from its head and what stands behind it.
use mathlib.Core.Path.{◌≡◌, refl, ap, sym, subst, ◌∙◌}
use mathlib.Core.Bool.{Bool, true, false}
use mathlib.Core.List.{List, [], ◌∷◌}
use Prim.Native.Nat.{ℕ, suc, ◌+◌, ◌-◌, ◌≤◌}
use native.Mathlib.Omega.{arith}
use lib.ListN.{length, drop, length-drop}
use Rattle.reading.specs.Byte.{run, is}
use Rattle.reading.specs.Kind.{errorᵏ, eofᵏ, bracesᵏ, labelᵏ, macro_definitionᵏ, wordᵏ, nameᵏ, charᵏ}
use Rattle.reading.specs.Grammar.{one, run1, tag_no_case, ◌▸◌, leaf, always, error_at, Request, node}
use Rattle.reading.specs.Rules.{opt, char, directive, word, multiline_trivia, trivia, name, mname, identifier_name, identifier_arg_list, colon, expression, block, braces, label, macro_definition, quoted_string, import', eof}
use Rattle.reading.specs.Table.{row_width}
use Rattle.table.specs.Words.{pushed, row_record}
use Rattle.table.specs.declared.Pos.{Pos}
use Rattle.cursor.specs.Text.{cursor, Skips}
use Rattle.cursor.specs.declared.Cursor.{Cursor}
use Rattle.cursor.specs.declared.Skip.{Skip}
use Rattle.cursor.specs.Read.{Read}
use Rattle.cursor.proofs.Lows.{low_node}
use Rattle.trivia.specs.Class.{among}
use Rattle.cursor.specs.Agree.{Leafs}
use Rattle.lexis.specs.Behind.{Rowed}
use Rattle.lexis.proofs.Ends.{run_at}
use Rattle.lexis.proofs.Marks.{behind_found}
use Rattle.state.specs.declared.State.{State as Counts}
use Rattle.state.specs.Done.{Done}
use Rattle.state.specs.Acts.{Tables, tables, Acting, Does, TellsLeaf, Closes, opening, Fit, Reported}
use Rattle.state.proofs.Laws.{seq_empty, complain_out, complain_got}
use Rattle.state.proofs.Rows.{import_out, import_no_name, import_no_block, import_got, line_quiet, starts_node}
use Rattle.state.proofs.Requests.{request_is}
use Rattle.state.proofs.Bounds.{fit_got}
use Rattle.state.proofs.Blocks.{starts_block, close_first, close_missing}
use Rattle.statement.specs.declared.Body.{Body}
use Rattle.statement.specs.declared.Body.TheVariants.{Maybe, Block}
use Rattle.statement.specs.Shapes.{mark_of, error_of, body_of, Lifted, closing, Closed, Imported, Ends}
use Rattle.head.specs.Heads.{word_of, directive_of, directive_expression, label_head, parameters, macro_head, import_names, import_head}
use Rattle.statement.proofs.Lifts.{lift_leaf}
use Rattle.statement.proofs.Same.{Same, does_same, same_then, seq_same, over_same, seq_assoc}
use Rattle.statement.proofs.Tests.{text_of, text_quiet, text_paid, mark_quiet, eof_quiet}
use Rattle.statement.proofs.Tails.{begins_node, closing_out, closing_got}
use Rattle.cursor.specs.declared.Stop.{Stop}
use Rattle.cursor.specs.declared.Stop.TheVariants.{Miss}
use Rattle.std.specs.Prelude.{Ok, Err, IsErr}

-- Leaves -------------------------------------------------------------------

module _ {s : List ℕ} {c : Cursor} {st : Counts} (fit : Fit 0 s c st) {t t₁ e e₁ : List ℕ} {f : Read} {r : Done} (n : Lifted (length s) f st e e₁ r) where
  pub mark_tells : (b : ℕ) → Leafs (node charᵏ (always b) multiline_trivia (leaf (one (is b)))) s (cursor c.at.0 c.count.0 false) t t₁ f → TellsLeaf (mark_of b) s c st t t₁ e e₁ r
  unfolding mark_of
  mark_tells b a = lift_leaf (mark_quiet b) fit.within n a

  pub text_tells : (class : ℕ) → Leafs (node errorᵏ (always 0) multiline_trivia (leaf (run1 (among class false)))) s (cursor c.at.0 c.count.0 false) t t₁ f
      → TellsLeaf (text_of class) s c st t t₁ e e₁ r
  text_tells class a = lift_leaf (text_quiet class) fit.within n a

  pub eof_tells : {k : Skip} → Skips multiline_trivia s c.at.0 false k → Rowed eofᵏ 0 (cursor c.at.0 c.count.0 false) k (length s) t t₁ f → TellsLeaf eof s c st t t₁ e e₁ r
  unfolding eof
  eof_tells {k} skip a =
      let end : Pos = record { 0 = length s } in
      lift_leaf eof_quiet fit.within n
      (behind_found skip eofᵏ 0 tt {p = end} (run_at (λ b. true) s k.at.0 end (all_run (drop k.at.0 s) (length-drop k.at.0 s))) a)
    where
      all : (t : List ℕ) → run (λ b. true) t ≡ length t
      all [] = refl
      all (b ∷ t) = ap suc (all t)

      all_run : (t : List ℕ) → length t ≡ length s - k.at.0 → length s ≡ k.at.0 + run (λ b. true) t
      all_run t h = let z : run (λ b. true) t ≡ length t = all t in omega (arith, skip.within)

-- Error text ---------------------------------------------------------------

module _ (class : ℕ) {s : List ℕ} {c : Cursor} {st : Counts} (fit : Fit 0 s c st) {t t₁ e e₁ : List ℕ} {r : Done}
    (a : TellsLeaf (text_of class) s c st t t₁ e e₁ r) where
  pub error_out : IsErr r → TellsLeaf (error_of class) s c st t t₁ e e₁ r
  unfolding error_of
  error_out h = record { does = λ left q. record { acting = λ l. complain_out ((a.does left q).acting l) h } }

  pub error_fit : {d : Cursor} {x : Counts} → r ≡ Ok (d, x) → Fit 0 s d x
  error_fit {d} {x} q = fit_got fit (text_of class) (text_paid class).0 (text_paid class).1 ((a.does 0 []).acting 0) d x q

  pub error_got : {k : Skip} → Skips multiline_trivia s c.at.0 false k → {d : Cursor} {x : Counts} → r ≡ Ok (d, x)
      → {y : Counts} {e₂ : List ℕ} → Reported (record { code = 2; low = k.at.0; high = d.at.0 }) x y e₁ e₂ → TellsLeaf (error_of class) s c st t t₁ e e₂ (Ok (d, y))
  unfolding error_of
  error_got {k} skip {d} {x} q report =
      record {
        does = λ left q₁. record {
          acting = λ l. complain_got ((a.does left q₁).acting l) (text_quiet class) tt fit.within k.at.0
              (low_node errorᵏ skip l (always 0) (leaf (run1 (among class false)))) d x q report;
        };
      }

-- The end of a block -------------------------------------------------------

module _ {s : List ℕ} {c : Cursor} {st : Counts} {t t₁ e e₁ : List ℕ} {r : Done} {tlow low : ℕ} (a : TellsLeaf (mark_of 125) s c st t t₁ e e₁ r) where
  pub shut_first : ((x : Counts) → r ≡ Err (Miss x) → ⊥) → Closes multiline_trivia (opening tlow low) s c st t t₁ e e₁ r
  unfolding mark_of
  shut_first h = close_first multiline_trivia (opening tlow low) a h

  pub shut_missing : {z : Stop Counts} {x : Counts} → r ≡ Err z → z ≡ Miss x → {y : Counts} {t₂ e₂ : List ℕ}
      → t₂ ≡ pushed row_width t₁ c.count.0 (row_record charᵏ 1 tlow low (low + 1) 125) → Reported (error_at 5 c.at.0) x y e₁ e₂
      → Closes multiline_trivia (opening tlow low) s c st t t₂ e e₂ (Ok (cursor c.at.0 (c.count.0 + 1) false, y))
  unfolding mark_of
  shut_missing {x = x} is q row rep = close_missing multiline_trivia (opening tlow low) a x (is ∙ ap Err q) rep row

-- Braces and labels --------------------------------------------------------

module _ {s : List ℕ} {c : Cursor} {k : Skip} (skip : Skips multiline_trivia s c.at.0 false k) {st : Counts} {left : ℕ} {T T₁ : Tables} {r : Done} where
  pub braces_out : Does block s c st left T T₁ r → IsErr r → Does braces s c st left T T₁ r
  unfolding braces
  braces_out a h = record { acting = λ l. closing_out true bracesᵏ (seq_empty (a.acting l)) h }

  pub braces_got : Does block s c st left T T₁ r → {d : Cursor} {x : Counts} → r ≡ Ok (d, x) → c.count.0 ≤ d.count.0
      → {t' : List ℕ} {r₁ : Done} → Closed true bracesᵏ c k d x T₁.rows t' r₁ → Does braces s c st left T (tables t' T₁.errors T₁.requests) r₁
  unfolding braces
  braces_got a {d} {x} q grown w = record { acting = λ l. closing_got true (seq_empty (a.acting l)) (starts_block skip) d x q grown w }

  module _ {h : Done} where
    pub label_ends : Does label_head s c st left T T₁ h → {T₂ : Tables} → Ends Maybe false labelᵏ s c k h left T₁ T₂ r → Does label s c st left T T₂ r
    unfolding label label_head body_of mname
    label_ends a w = w.does _ colon st T (begins_node nameᵏ (always 0) identifier_name skip) a

    pub directive_ends : {b : Body} {scope : Bool} {kind : ℕ} (w : List ℕ) → Does (directive_expression w) s c st left T T₁ h
        → {T₂ : Tables} → Ends b scope kind s c k h left T₁ T₂ r → Does (closing scope kind (directive_of w) (expression ▸ body_of b)) s c st left T T₂ r
    unfolding directive_expression directive_of word_of
    directive_ends w a x = x.does _ expression st T (begins_node wordᵏ (always 0) (leaf (tag_no_case w)) skip) a

-- Macros: the head was read as one sequence --------------------------------

macro_same : (s : List ℕ) → Same s (name ▸ char "(" ▸ opt identifier_arg_list ▸ char ")" ▸ block) ((name ▸ char "(" ▸ opt identifier_arg_list ▸ char ")") ▸ block)
macro_same s =
    same_then (seq_same name (same_then (seq_same (char "(") (seq_assoc s (opt identifier_arg_list) (char ")") block))
    (seq_assoc s (char "(") (opt identifier_arg_list ▸ char ")") block)))
    (seq_assoc s name (char "(" ▸ opt identifier_arg_list ▸ char ")") block)

pub macro_ends : {s : List ℕ} {c : Cursor} {k : Skip} → Skips multiline_trivia s c.at.0 false k → {st : Counts} {left : ℕ} {T T₁ T₂ : Tables} {h r : Done}
    → Does macro_head s c st left T T₁ h → Ends Block false macro_definitionᵏ s c k h left T₁ T₂ r → Does macro_definition s c st left T T₂ r
unfolding macro_head parameters macro_definition body_of
macro_ends {s} {c} skip {st} {left} {T} a w =
    let b = w.does (directive ".macro") _ st T (begins_node wordᵏ (always 0) (word ".macro") skip) a in
    does_same (over_same (directive ".macro") (macro_same s) macro_definitionᵏ 0) b

-- Imports ------------------------------------------------------------------

module _ {s : List ℕ} {c : Cursor} {st : Counts} {left : ℕ} {T T₁ : Tables} {r₁ : Done} (a : Does import_head s c st left T T₁ r₁) where
  pub import_head_out : IsErr r₁ → Does import' s c st left T T₁ r₁
  unfolding import_head import_names import'
  import_head_out h = record { acting = λ l. import_out quoted_string (opt block) (a.acting l) h }

  module _ {d : Cursor} {x : Counts} (q : r₁ ≡ Ok (d, x)) {T₂ : Tables} {r₂ : Done} (b : Does quoted_string s d x left T₁ T₂ r₂) where
    pub import_name_out : IsErr r₂ → Does import' s c st left T T₂ r₂
    unfolding import_head import_names import'
    import_name_out h = record { acting = λ l. import_no_name quoted_string (opt block) (a.acting l) d x q (b.acting l) h }

    module _ {d₂ : Cursor} {x₂ : Counts} (q₂ : r₂ ≡ Ok (d₂, x₂)) {T₃ : Tables} {r₃ : Done} (e : Does (opt block) s d₂ x₂ left T₂ T₃ r₃) where
      pub import_block_out : IsErr r₃ → Does import' s c st left T T₃ r₃
      unfolding import_head import_names import'
      import_block_out h =
          record { acting = λ l. import_no_block quoted_string (opt block) (a.acting l) d x q (b.acting l) d₂ x₂ q₂ (e.acting l) h }

      pub import_all : {k j : Skip} → Skips multiline_trivia s c.at.0 false k → Skips trivia s d.at.0 false j → d.at.0 ≤ length s
          → {d₃ : Cursor} {x₃ : Counts} → r₃ ≡ Ok (d₃, x₃) → c.count.0 ≤ d₃.count.0 → (high : ℕ) → high ≡ d₂.at.0 - 1
          → {t' q' : List ℕ} {r : Done} → Imported j.at.0 high c k d₃ x₃ T₃.rows t' T₃.requests q' r
          → Does import' s c st left T (tables t' T₃.errors q') r
      unfolding import_head import_names import'
      import_all {k} {j} skip quote within {d₃} {x₃} q₃ grown high is {t'} {q'} {r} w =
          record {
            acting = λ l.
                subst (Acting import' s l (l + left) c.at.0 c.count.0 st T (tables t' T₃.errors q')) (sym w.answer)
                (import_got quoted_string (opt block) (a.acting l) d x q (b.acting l) d₂ x₂ q₂ (e.acting l)
                (starts_node wordᵏ (always 0) (word ".import") line_quiet skip) d₃ x₃ q₃ (record { low = j.at.0; high = high })
                (λ v rows u z. request_is quote l within v rows d₂.at.0 u z
                ∙ ap {B = Request} (λ (i : ℕ). record { low = j.at.0; high = i }) (sym is))
                (record { state = refl; table = w.requests }) (d₃.count.0 + 1 - c.count.0) (omega arith) w.rows);
          }
