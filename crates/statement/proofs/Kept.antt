-- The lemmas that docs/PORT.md names and nothing cites now.
use mathlib.Core.Path.{◌≡◌, refl, ap, ap₂, sym, subst, ◌∙◌}
use mathlib.Core.Bool.{Bool, true, false}
use mathlib.Core.List.{List}
use Prim.Native.Nat.{ℕ, ◌+◌, ◌^◌, ◌≤◌, ◌<◌}
use native.Mathlib.Omega.{arith}
use lib.ListN.{length}
use Rattle.reading.specs.Kind.{importᵏ}
use Rattle.reading.specs.Table.{request_width}
use Rattle.table.specs.Words.{pushed, request_record}
use Rattle.line.proofs.Fills.{lined_length}
use Rattle.cursor.specs.Text.{cursor}
use Rattle.cursor.specs.declared.Cursor.{Cursor}
use Rattle.cursor.specs.declared.Skip.{Skip}
use Rattle.cursor.specs.Read.{Read}
use Rattle.cursor.specs.declared.Stop.TheVariants.{Miss, Deep}
use Rattle.state.specs.declared.State.{State as Counts}
use Rattle.state.specs.Done.{Done}
use Rattle.state.specs.Acts.{Tables, Fit, Noted, Requested}
use Rattle.state.proofs.Reports.{note_none}
use Rattle.statement.specs.Shapes.{met_of, done_from, Lifted, closed_state, closed_rows, Closed, Imported}
use Rattle.statement.proofs.Files.{Filling}
use Rattle.std.specs.Prelude.{Ok, Err}

-- What a quiet reader's answer is with the state ------------------------------

module _ {n : ℕ} {f : Read} {st : Counts} {e : List ℕ} where
  pub lifted_got : (d : Cursor) → f ≡ Ok d → {x : Counts} {e' : List ℕ} → Noted n d.met st x e e'
      → Lifted n f st e e' (Ok (cursor d.at.0 d.count.0 false, x))
  lifted_got d z {x} {e'} m =
      record { x = x; noted = subst (λ (y : Read). Noted n (met_of y) st x e e') (sym z) m; answer = ap (λ (y : Read). done_from y x) (sym z) }

  pub lifted_miss : (b : Bool) → f ≡ Err (Miss b) → {x : Counts} {e' : List ℕ} → Noted n b st x e e' → Lifted n f st e e' (Err (Miss x))
  lifted_miss b z {x} {e'} m =
      record { x = x; noted = subst (λ (y : Read). Noted n (met_of y) st x e e') (sym z) m; answer = ap (λ (y : Read). done_from y x) (sym z) }

  pub lifted_deep : f ≡ Err Deep → Lifted n f st e e (Err Deep)
  lifted_deep z =
      record {
        x = st;
        noted = subst (λ (y : Read). Noted n (met_of y) st st e e) (sym z) (note_none n false st e refl);
        answer = ap (λ (y : Read). done_from y st) (sym z);
      }

-- The row around a statement ------------------------------------------------

module _ {kind : ℕ} {c : Cursor} {k : Skip} {d : Cursor} {st : Counts} {t t' : List ℕ} {scope : Bool} where
  pub closed_numbered : scope ≡ true → t' ≡ closed_rows kind (st.scope + 1) c k d t
      → Closed scope kind c k d st t t' (Ok (cursor d.at.0 (d.count.0 + 1) false, closed_state true st))
  closed_numbered e h =
      subst (λ (b : Bool). Closed b kind c k d st t t' (Ok (cursor d.at.0 (d.count.0 + 1) false, closed_state true st))) (sym e)
      (record { table = h; answer = refl })

  pub closed_plain : scope ≡ false → t' ≡ closed_rows kind 0 c k d t → Closed scope kind c k d st t t' (Ok (cursor d.at.0 (d.count.0 + 1) false, st))
  closed_plain e h =
      subst (λ (b : Bool). Closed b kind c k d st t t' (Ok (cursor d.at.0 (d.count.0 + 1) false, st))) (sym e)
      (record { table = h; answer = refl })

got_is : (e f : Cursor) (x y : Counts) → ◌≡◌ {A = Done} (Ok (e, x)) (Ok (f, y)) → (e ≡ f) × (x ≡ y)
got_is e f x y h =
    let p : ◌≡◌ {A = Cursor × Counts} (e, x) (f, y) = cc in (ap (λ (q : Cursor × Counts). q.0) p, ap (λ (q : Cursor × Counts). q.1) p)

abbrev asked : Counts → Counts
asked st = record { scope = st.scope; swallow = st.swallow; errors = st.errors; requests = st.requests + 1 }

pub imported_request : {low high : ℕ} {c : Cursor} {k : Skip} {d : Cursor} {st : Counts} {t t' q q' : List ℕ} {r : Done}
    → Closed true importᵏ c k d st t t' r → (e : Cursor) (x : Counts) → r ≡ Ok (e, x) → {y : Counts} → Requested (record { low = low; high = high }) x y q q'
    → Imported low high c k d st t t' q q' (Ok (e, y))
imported_request {low} {high} {d = d} {st = st} {q = q} w e x z {y} n =
    let is = got_is e (cursor d.at.0 (d.count.0 + 1) false) x (closed_state true st) (sym z ∙ w.answer) in
    record {
      rows = w.table;
      requests = n.table ∙ ap (λ (i : Counts). pushed request_width q i.requests (request_record low high)) is.1;
      answer = ap₂ {C = Done} (λ (e : Cursor) (x : Counts). Ok (e, x)) is.0 (n.state ∙ ap asked is.1);
    }

pub closed_requests : {c : Cursor} {k : Skip} {d : Cursor} {st : Counts} {t t' : List ℕ} {r : Done} → Closed true importᵏ c k d st t t' r
    → (e : Cursor) (x : Counts) → r ≡ Ok (e, x) → {low high : ℕ} → (low < 2 ^ 32) × (high < 2 ^ 32) × (st.requests < 2 ^ 32)
    → (low < 2 ^ 32) × (high < 2 ^ 32) × (x.requests < 2 ^ 32)
closed_requests {d = d} {st = st} w e x z b =
    let is = got_is e (cursor d.at.0 (d.count.0 + 1) false) x (closed_state true st) (sym z ∙ w.answer) in
    (b.0, b.1, subst (λ (i : Counts). i.requests < 2 ^ 32) (sym is.1) b.2)

-- The loop over tokens, and where a reader may be called ----------------------

pub filling_rows : {s : List ℕ} {left : ℕ} {st₀ : Counts} {T₀ : Tables} {at count : ℕ} {st : Counts} {T : Tables} → Filling s left st₀ T₀ at count st T
    → length T.rows ≡ length T₀.rows
filling_rows {s} {left} {st₀} {T₀} {at} {count} u = ap length u.lines ∙ lined_length s u.draft count ∙ u.walking.rows_length

-- where a reader behind n rows may be called: so may one that counts from 0, there or later
pub fit_later : {s : List ℕ} {at n p : ℕ} {st : Counts} → Fit 0 s (cursor at n false) st → at ≤ p → p ≤ length s → Fit 0 s (cursor p 0 false) st
fit_later h i j =
    record { small = h.small; within = j; few = omega arith; charged = omega (arith, h.charged); scopes = omega (arith, h.scopes); requests = omega (arith, h.requests) }
