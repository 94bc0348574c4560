-- The row around all that was read: over and node, from the answers of their parts.
use mathlib.Core.Path.{◌≡◌, refl, ap, sym, subst, ◌∙◌}
use mathlib.Core.Bool.{Bool}
use mathlib.Core.List.{List}
use Prim.Native.Nat.{ℕ, ◌+◌, ◌-◌}
use native.Mathlib.Omega.{arith}
use lib.Dec.{T}
use Rattle.reading.specs.Grammar.{Parser, over, always, node}
use Rattle.reading.specs.Summary.{scan}
use Rattle.reading.specs.Table.{row_width}
use Rattle.reading.proofs.Summaries.{Yields}
use Rattle.reading.proofs.Tests.{quiet}
use Rattle.table.specs.Words.{pushed, row_record}
use Rattle.cursor.specs.Agree.{full, Reads}
use Rattle.cursor.specs.Text.{here, cursor, Skips}
use Rattle.cursor.specs.declared.Cursor.{Cursor}
use Rattle.cursor.specs.declared.Skip.{Skip}
use Rattle.cursor.specs.Read.{Read}
use Rattle.cursor.proofs.Agree.{not_got}
use Rattle.cursor.proofs.Laws.{node_out, node_got, over_out, over_no, over_got}
use Rattle.cursor.proofs.Lows.{First}
use Rattle.lexis.specs.Around.{Finished}
use Rattle.head.specs.Parts.{whole_rows, whole_answer, Whole, Closable}
use Rattle.head.proofs.Steps.{reads_as}
use Rattle.cursor.proofs.Exits.{passed}
use Rattle.cursor.specs.declared.Stop.{Stop}
use Rattle.cursor.specs.declared.Stop.TheVariants.{Miss, Deep}
use Rattle.std.specs.Prelude.{Ok, Err, IsErr, is_err}
use Rattle.std.specs.Result.{IsErrAnd}

-- what `whole` answers
module _ (kind : ℕ) (c : Cursor) (k : Skip) where
  pub whole_none : (f : Read) (t : List ℕ) → IsErr f → Whole kind c k f t t f
  unfolding whole_rows whole_answer
  whole_none (Ok e) t h = absurd (not_got {d = e} refl h)
  whole_none (Err (Miss m)) t h = record { table = refl; answer = refl }
  whole_none (Err Deep) t h = record { table = refl; answer = refl }

  pub whole_some : {f : Read} {e : Cursor} → f ≡ Ok e → {t t' : List ℕ} {z : Cursor} → Finished kind 0 c k.at.0 e t t' z → Whole kind c k f t t' (Ok z)
  unfolding whole_rows whole_answer
  whole_some {e = e} q {t} {t'} a =
      let size : a.size ≡ e.count.0 + 1 - c.count.0 = omega (arith, a.counts) in
      let table = subst (λ (n : ℕ). t' ≡ pushed row_width t e.count.0 (row_record kind n c.at.0 k.at.0 e.at.0 0)) size a.table in
      record { table = table ∙ sym (ap (whole_rows kind c k t) q); answer = ap Ok a.is ∙ sym (ap whole_answer q) }

-- over, from what `?` hands on from its first child
pub over_passed : {kind : ℕ} {m n : Parser} {s : List ℕ} {c : Cursor} {left : ℕ} {t t₁ : List ℕ} {e : Stop Bool} {r : Read}
    → Reads m s c left t t₁ (Err e) → IsErrAnd r (λ y. y ≡ e) → Reads (over kind 0 m n) s c left t t₁ r
over_passed {kind} {n = n} a p = reads_as (passed p) (record { reading = λ l. over_out kind 0 n (a.reading l) refl })

-- and from the answer of its first child and that of the others
module _ (kind : ℕ) {m : Parser} (n : Parser) {s : List ℕ} {c : Cursor} {left : ℕ} {t t₁ : List ℕ} {r₁ : Read} (a : Reads m s c left t t₁ r₁) where
  -- k: where the first child begins
  pub over_whole : T (quiet m) → T (quiet n) → {d : Cursor} → r₁ ≡ Ok d → {t₂ : List ℕ} {r₂ : Read} → Reads n s d left t₁ t₂ r₂
      → {k : Skip} → ((l : ℕ) → Yields (First k.at.0) (scan (full s) m l (here s c.at.0))) → Closable c k r₂
      → {t' : List ℕ} {r : Read} → Whole kind c k r₂ t₂ t' r → Reads (over kind 0 m n) s c left t t' r
  unfolding whole_rows whole_answer
  over_whole u v {d} e {t₂} {r₂} b {k} lows ok {t'} {r} w = go r₂ refl
    where
      to : (x : Read) → r₂ ≡ x → Reads (over kind 0 m n) s c left t (whole_rows kind c k t₂ x) (whole_answer x) → Reads (over kind 0 m n) s c left t t' r
      to x q y =
          reads_as (w.answer ∙ ap whole_answer q)
          (subst (λ (z : List ℕ). Reads (over kind 0 m n) s c left t z (whole_answer x)) (sym (w.table ∙ ap (whole_rows kind c k t₂) q)) y)

      go : (x : Read) → r₂ ≡ x → Reads (over kind 0 m n) s c left t t' r
      go (Ok y) q =
          to (Ok y) q
          (record {
            reading = λ l. over_got kind 0 n (a.reading l) u d e (b.reading l) v y q (y.count.0 + 1 - c.count.0) k.at.0
                (omega (arith, (ok.spans y q).grown)) (lows l);
          })
      go (Err (Miss x)) q = to (Err (Miss x)) q (reads_as (sym q) (record { reading = λ l. over_no kind 0 n (a.reading l) u d e (b.reading l) (ap is_err q) }))
      go (Err Deep) q = to (Err Deep) q (reads_as (sym q) (record { reading = λ l. over_no kind 0 n (a.reading l) u d e (b.reading l) (ap is_err q) }))

-- node, from what was skipped and the answer of what is in it
pub node_whole : (kind : ℕ) {w m : Parser} {s : List ℕ} {c : Cursor} {k : Skip} → Skips w s c.at.0 c.met k → T (quiet m)
    → {left : ℕ} {t t₁ : List ℕ} {r₁ : Read} → Reads m s (cursor k.at.0 c.count.0 k.met) left t t₁ r₁ → Closable c k r₁
    → {t' : List ℕ} {r : Read} → Whole kind c k r₁ t₁ t' r → Reads (node kind (always 0) w m) s c left t t' r
unfolding whole_rows whole_answer
node_whole kind {w} {m} {s} {c} {k} x u {left} {t} {t₁} {r₁} a ok {t'} {r} z = go r₁ refl
  where
    g : Parser
    g = node kind (always 0) w m

    to : (y : Read) → r₁ ≡ y → Reads g s c left t (whole_rows kind c k t₁ y) (whole_answer y) → Reads g s c left t t' r
    to y q b =
        reads_as (z.answer ∙ ap whole_answer q)
        (subst (λ (v : List ℕ). Reads g s c left t v (whole_answer y)) (sym (z.table ∙ ap (whole_rows kind c k t₁) q)) b)

    go : (y : Read) → r₁ ≡ y → Reads g s c left t t' r
    go (Ok d) q =
        to (Ok d) q
        (record {
          reading = λ l. node_got kind (always 0) x (a.reading l) u d q (d.count.0 + 1 - c.count.0) 0
              (omega (arith, (ok.spans d q).grown)) λ v b j p. refl;
        })
    go (Err (Miss y)) q = to (Err (Miss y)) q (reads_as (sym q) (record { reading = λ l. node_out kind (always 0) x (a.reading l) (ap is_err q) }))
    go (Err Deep) q = to (Err Deep) q (reads_as (sym q) (record { reading = λ l. node_out kind (always 0) x (a.reading l) (ap is_err q) }))
