-- The file: its tokens and the end, from the place 0, and the lines of their rows.
use mathlib.Core.Path.{◌≡◌, refl, ap, sym, ◌∙◌}
use mathlib.Core.Bool.{Bool, true, false, cond}
use mathlib.Core.List.{List}
use Prim.Native.Nat.{ℕ, ◌+◌, ◌*◌, ◌≤◌, ◌<◌}
use native.Mathlib.Omega.{arith}
use lib.ListN.{length}
use Rattle.reading.specs.Grammar.{◌or◌, many0}
use Rattle.reading.specs.Rules.{statement, error, eof, source_file}
use Rattle.reading.specs.Table.{max_text, max_scope}
use Rattle.line.specs.Lines.{lined, Numbered}
use Rattle.line.proofs.Fills.{lined_none, lined_length, lined_again, numbered_so}
use Rattle.cursor.specs.Text.{cursor}
use Rattle.cursor.specs.declared.Cursor.{Cursor}
use Rattle.state.specs.declared.State.{State as Counts}
use Rattle.state.specs.Done.{Done}
use Rattle.state.specs.Acts.{Tables, tables, charge, Does, Fit}
use Rattle.state.proofs.Agree.{got_deep}
use Rattle.state.proofs.Items.{Walking, walking_none, walking_less, walking_more, walking_end, walking_deep}
use Rattle.statement.specs.Lined.{shifted, Drafted, Appends, Lined, LinedLeaf}
use Rattle.statement.proofs.Tests.{top_paid, top_moves, tops_paid}
use Rattle.statement.proofs.Chains.{does_out, does_then, reached}
use Rattle.cursor.specs.declared.Stop.TheVariants.{Miss, Deep}
use Rattle.std.specs.Prelude.{Ok, Err, IsErr}

start_charge : (b : Bool) (n : ℕ) → n ≡ 0 → cond b n (n + 1) ≤ 1
start_charge true n h = omega arith
start_charge false n h = omega arith

-- at the start of a text
pub start_fit : {s : List ℕ} {st : Counts} → (length s ≤ max_text) × (st.scope ≤ max_scope) × (st.errors ≡ 0) × (st.requests ≡ 0) → Fit 0 s (cursor 0 0 false) st
unfolding charge
start_fit {s} {st} h =
    record {
      small = h.0;
      within = omega arith;
      few = omega arith;
      charged = start_charge st.swallow st.errors h.2;
      scopes = omega (arith, h.1);
      requests = omega (arith, h.3);
    }

module _ {s : List ℕ} {st : Counts} {left : ℕ} {T T₁ : Tables} {r : Done} (a : Does (many0 (statement or error)) s (cursor 0 0 false) st left T T₁ r) where
  file_out : IsErr r → Does source_file s (cursor 0 0 false) st left T T₁ r
  unfolding source_file
  file_out h = does_out a h

  file_fit : Fit 0 s (cursor 0 0 false) st → (d : Cursor) (x : Counts) → r ≡ Ok (d, x) → Fit 0 s d x
  file_fit h d x q = (reached a h tops_paid q).fit

  file_got : (d : Cursor) (x : Counts) → r ≡ Ok (d, x) → {T₂ : Tables} {r₂ : Done} → Does eof s d x left T₁ T₂ r₂ → Does source_file s (cursor 0 0 false) st left T T₂ r₂
  unfolding source_file
  file_got d x q b = does_then a q b

-- The loop over tokens. The table is that of a reading that fills in no line, with the lines of the rows so far; so what is known of such a
-- reading carries over ----------------------------------------------------------

pub record Filling (s : List ℕ) (left : ℕ) (st₀ : Counts) (T₀ : Tables) (at count : ℕ) (st : Counts) (T : Tables) : Type 0 where
  pub draft : List ℕ
  pub lines : T.rows ≡ lined s draft count
  pub walking : Walking (statement or error) s left 0 0 st₀ T₀ at count st (tables draft T.errors T.requests)

pub filling_none : {s : List ℕ} (left : ℕ) {st : Counts} (T : Tables) → Fit 0 s (cursor 0 0 false) st → Filling s left st T 0 0 st T
filling_none {s} left T h = record { draft = T.rows; lines = lined_none s T.rows; walking = walking_none (statement or error) left T h }

module _ {s : List ℕ} {left : ℕ} {st₀ : Counts} {T₀ : Tables} {at count : ℕ} {st : Counts} {T : Tables} (u : Filling s left st₀ T₀ at count st T)
    {T₁ : Tables} {r₁ : Done} (b : Appends (statement or error) s at count st left T T₁ r₁) where
  abbrev next : Drafted (statement or error) s at count st left u.draft T T₁ r₁
  next = b.drafted u.draft u.lines

  pub filling_numbered : Numbered s T₁.rows count
  filling_numbered = numbered_so next.draft next.lines

  -- a token was read, and the loop goes on behind it
  module _ (d : Cursor) (x : Counts) (h : r₁ ≡ Ok (d, x)) where
    abbrev past : Cursor
    past = cursor d.at.0 (count + d.count.0) false

    pub filling_less : (at < d.at.0) × (d.at.0 ≤ length s)
    filling_less = walking_less u.walking next.does top_paid.0 top_moves past x (ap (shifted count) h)

    module _ (i : length T₁.rows ≡ length T.rows) (j : length T₁.errors ≡ length T.errors) (k : length T₁.requests ≡ length T.requests) where
      walk : Walking (statement or error) s left 0 0 st₀ T₀ d.at.0 (count + d.count.0) x (tables next.draft T₁.errors T₁.requests)
      walk =
          walking_more u.walking next.does top_paid.0 top_paid.1 top_moves past x (ap (shifted count) h)
          (sym (lined_length s next.draft count) ∙ sym (ap length next.lines) ∙ i ∙ ap length u.lines ∙ lined_length s u.draft count) j k

      pub filling_few : count + d.count.0 ≤ 4 * max_text
      filling_few = let f = walk.fit in omega (arith, f.few, f.within, f.small)

      pub filling_more : {t₂ : List ℕ} → t₂ ≡ lined s T₁.rows (count + d.count.0)
          → Filling s left st₀ T₀ d.at.0 (count + d.count.0) x (tables t₂ T₁.errors T₁.requests)
      filling_more e =
          record {
            draft = next.draft;
            lines = e ∙ ap (λ (t : List ℕ). lined s t (count + d.count.0)) next.lines ∙ lined_again s next.draft count (count + d.count.0) (omega arith);
            walking = walk;
          }

  -- no token fits, and the file ends
  module _ (x : Counts) (h : r₁ ≡ Err (Miss x)) where
    tokens : Does (many0 (statement or error)) s (cursor 0 0 false) st₀ left T₀ (tables next.draft T₁.errors T₁.requests) (Ok (cursor at count false, x))
    tokens = walking_end u.walking next.does false x (ap (shifted count) h)

    pub filling_fit : Fit 0 s (cursor 0 0 false) st₀ → Fit 0 s (cursor at count false) x
    filling_fit f = file_fit tokens f (cursor at count false) x refl

    pub filling_end : {t₂ e₂ : List ℕ} {r₂ : Done} → LinedLeaf eof s at count x T₁.rows t₂ T₁.errors e₂ r₂
        → Lined source_file s (cursor 0 0 false) st₀ left T₀ (tables t₂ e₂ T₁.requests) r₂
    filling_end e =
        let y = e.from left T₁.requests next.draft next.lines in
        record { draft = y.draft; lines = y.lines; does = file_got tokens (cursor at count false) x refl y.does }

  pub filling_deep : r₁ ≡ Err Deep → Lined source_file s (cursor 0 0 false) st₀ left T₀ T₁ (Err Deep)
  filling_deep h =
      record {
        draft = next.draft;
        lines = λ d x q. absurd (got_deep d x (sym q));
        does = file_out (walking_deep u.walking next.does false (ap (shifted count) h)) refl;
      }
