-- The laws of agreement for a whole function: at every level, with the levels that are left, and with the row that `finish` pushed.
use mathlib.Core.Path.{◌≡◌, sym, subst}
use mathlib.Core.Bool.{Bool, ◌||◌}
use mathlib.Core.List.{List, [], ◌++◌}
use Prim.Native.Nat.{ℕ, suc, ◌+◌, ◌*◌, ◌≤◌}
use native.Mathlib.Omega.{arith}
use lib.Dec.{T, leb→le}
use lib.ListN.{length}
use Rattle.reading.specs.Grammar.{Rows, Input, Parser, empty, ◌▸◌, over, bracket}
use Rattle.reading.specs.Rules.{optional_suffix}
use Rattle.reading.specs.Summary.{Summary, withˢ, scan}
use Rattle.reading.proofs.Tests.{quiet}
use Rattle.reading.proofs.Cost.{cost, slim}
use Rattle.reading.proofs.Summaries.{Yields}
use Rattle.cursor.specs.Text.{here, cursor, skip, Skips}
use Rattle.cursor.specs.Agree.{full, Reads, Leafs, Ready}
use Rattle.cursor.specs.declared.Cursor.{Cursor}
use Rattle.cursor.specs.declared.Skip.{Skip}
use Rattle.cursor.specs.Read.{Read}
use Rattle.cursor.proofs.Agree.{agrees_is, agrees_with, agrees_got, agrees_out}
use Rattle.cursor.proofs.Lows.{First}
use Rattle.cursor.proofs.Laws.{lies, moved, Solid, reading_to, empty_is, over_out, over_no, over_got}
use Rattle.lexis.proofs.Solids.{suffix_moved}
use Rattle.lexis.specs.Around.{Spans, Finished}
use Rattle.operand.proofs.Paren.{bracket_seq}
use Rattle.std.specs.Prelude.{Ok, IsErr}

-- what was skipped is skipped again, once what it notes is noted
pub skips_kept : {w : Parser} {s : List ℕ} {i : ℕ} {met : Bool} {k : Skip} (gap : Skips w s i met k) (m : Bool) → m ≡ m || gap.open?
    → Skips w s i m (skip k.at.0 m)
skips_kept gap m h = record { open? = gap.open?; is = gap.is; noted = h; on = gap.on; within = gap.within }

-- Rules and rows -----------------------------------------------------------

pub reads_empty : (s : List ℕ) (d : Cursor) (left : ℕ) (t : List ℕ) → Reads empty s d left t t (Ok d)
reads_empty s d left t = record { reading = λ l. empty_is s l (l + left) d.at.0 d.met d.count.0 t }

-- a row with no span of its own
module _ {k dt : ℕ} {m n : Parser} {s : List ℕ} {c : Cursor} {left : ℕ} {t t₁ : List ℕ} {r₁ : Read} (a : Reads m s c left t t₁ r₁) where
  pub over_misses : IsErr r₁ → Reads (over k dt m n) s c left t t₁ r₁
  over_misses h = record { reading = λ l. over_out k dt n (a.reading l) h }

  module _ (u : T (quiet m)) {d : Cursor} (e : r₁ ≡ Ok d) {t₂ : List ℕ} {r₂ : Read} (b : Reads n s d left t₁ t₂ r₂) where
    pub over_lacks : IsErr r₂ → Reads (over k dt m n) s c left t t₂ r₂
    over_lacks h = record { reading = λ l. over_no k dt n (a.reading l) u d e (b.reading l) h }

    pub over_done : T (quiet n) → {x : Cursor} → r₂ ≡ Ok x → {low : ℕ} → ((l : ℕ) → Yields (First low) (scan (full s) m l (here s c.at.0)))
        → {t' : List ℕ} {z : Cursor} → Finished k dt c low x t₂ t' z → Reads (over k dt m n) s c left t t' (Ok z)
    over_done w {x} q {low} lows {t'} f =
        subst (λ z. Reads (over k dt m n) s c left t t' (Ok z)) (sym f.is)
        (record { reading = λ l. reading_to f.table (over_got k dt n (a.reading l) u d e (b.reading l) w x q f.size low f.counts (lows l)) })

-- Brackets -------------------------------------------------------------------

-- more behind what stands in a bracket, at its level
module _ {w : Parser} {b : ℕ} {m : Parser} {s : List ℕ} {c : Cursor} {left : ℕ} {t t₁ : List ℕ} {r₁ : Read} (a : Reads (bracket w b m) s c left t t₁ r₁)
    (n : Parser) where
  abbrev behind : ℕ → Rows → Input → Summary Rows
  behind l v q = withˢ (v ++◌) (scan (full s) n (suc l) q)

  pub behind_misses : IsErr r₁ → Reads (bracket w b (m ▸ n)) s c left t t₁ r₁
  behind_misses h =
      record {
        reading = λ l. record {
          agrees = agrees_is (bracket_seq (full s) w b m n l (here s c.at.0)) (agrees_out [] (behind l) (omega arith) (a.reading l).agrees h);
        };
      }

  pub behind_goes : T (quiet (bracket w b m)) → {d : Cursor} → r₁ ≡ Ok d → {t' : List ℕ} {r : Read} → Leafs n s d t₁ t' r
      → Reads (bracket w b (m ▸ n)) s c left t t' r
  behind_goes u {d} e x =
      record {
        reading = λ l. record {
          agrees = agrees_is (bracket_seq (full s) w b m n l (here s c.at.0))
              (agrees_got s [] d (behind l) (omega arith) (lies s (bracket w b m) u l c.at.0) (a.reading l).agrees e
              λ v y k p i. agrees_with (scan (full s) n (suc l) (here s d.at.0)) v i (x.reading (suc l) (l + left)).agrees);
        };
      }

-- Places and rows ------------------------------------------------------------

-- d stands behind c, and its bytes pay for all of its rows but j
pub record Onward (j : ℕ) (s : List ℕ) (c d : Cursor) : Type 0 where
  pub on : c.at.0 ≤ d.at.0
  pub within : d.at.0 ≤ length s
  pub grown : c.count.0 ≤ d.count.0
  pub rows : d.count.0 + 4 * c.at.0 ≤ 4 * d.at.0 + c.count.0 + j

pub onward : (g : Parser) → T (quiet g) → T (slim g) → (j : ℕ) → (cost g).debt ≤ (cost g).gain + j → {s : List ℕ} {c : Cursor} {left : ℕ} {t t₁ : List ℕ} {r₁ : Read}
    → c.at.0 ≤ length s → Reads g s c left t t₁ r₁ → {d : Cursor} → r₁ ≡ Ok d → Onward j s c d
onward g u w j h i a {d} e =
    let m = moved g u w d i (a.reading 0) e in
    record { on = m.on; within = m.within; grown = m.grown; rows = omega (arith, m.rows, h) }

pub onward_solid : {g : Parser} → Solid g → {s : List ℕ} {c : Cursor} {left : ℕ} {t t₁ : List ℕ} {r₁ : Read}
    → c.at.0 ≤ length s → Reads g s c left t t₁ r₁ → {d : Cursor} → r₁ ≡ Ok d → Onward 0 s c d
onward_solid {g} x i a e = onward g x.quieted x.slimmed 0 (omega (arith, leb→le (cost g).debt (cost g).gain x.paying)) i a e

pub onward_then : {j k : ℕ} {s : List ℕ} {c d e : Cursor} → Onward j s c d → Onward k s d e → Onward (j + k) s c e
onward_then a b =
    record { on = omega (arith, a.on, b.on); within = b.within; grown = omega (arith, a.grown, b.grown); rows = omega (arith, a.rows, b.rows) }

pub onward_behind : {j : ℕ} {w : Parser} {s : List ℕ} {c d : Cursor} {k : Skip} → Skips w s c.at.0 c.met k
    → Onward j s (cursor k.at.0 c.count.0 k.met) d → Onward j s c d
onward_behind gap a = record { on = omega (arith, a.on, gap.on); within = a.within; grown = a.grown; rows = omega (arith, a.rows, gap.on) }

-- with the row that `finish` pushed
pub onward_finished : {j k dt : ℕ} {s : List ℕ} {c d : Cursor} {low : ℕ} {t t' : List ℕ} {z : Cursor} → Onward j s c d → Finished k dt c low d t t' z
    → Onward (j + 1) s c z
onward_finished {j} {s = s} {c = c} a f =
    subst (Onward (j + 1) s c) (sym f.is)
    (record { on = a.on; within = a.within; grown = omega (arith, a.grown); rows = omega (arith, a.rows) })

pub onward_ready : {k : ℕ} {s : List ℕ} {c d : Cursor} → Ready k s c → Onward 0 s c d → Ready k s d
onward_ready h a = record { small = h.small; within = a.within; few = omega (arith, h.few, a.rows) }

pub spans : {j : ℕ} {w : Parser} {s : List ℕ} {c d : Cursor} {k : Skip} → Ready 8 s c → Skips w s c.at.0 c.met k → j ≤ 8 → Onward j s c d
    → Spans c k.at.0 d
spans h gap i a =
    record {
      grown = a.grown;
      few = omega (arith, a.rows, a.within, h.few, h.small);
      start = omega (arith, h.within, h.small);
      body = omega (arith, gap.within, h.small);
      end = omega (arith, a.within, h.small);
    }

pub onward_noted : {j : ℕ} {s : List ℕ} {c d : Cursor} (m : Bool) → Onward j s c d → Onward j s c (cursor d.at.0 d.count.0 m)
onward_noted m a = record { on = a.on; within = a.within; grown = a.grown; rows = a.rows }

pub onward_suffix : {s : List ℕ} {c : Cursor} {t t₁ : List ℕ} {r₁ : Read} → c.at.0 ≤ length s → Leafs optional_suffix s c t t₁ r₁ → {d : Cursor} → r₁ ≡ Ok d
    → Onward 0 s c d
onward_suffix i a {d} e =
    let m = suffix_moved d i (a.reading 0 0) e in
    record { on = m.on; within = m.within; grown = m.grown; rows = omega (arith, m.rows) }
