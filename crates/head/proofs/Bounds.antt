-- Where the next reader may be called, and that the row around all has room for its columns.
use mathlib.Core.Path.{◌≡◌}
use mathlib.Core.List.{List}
use Prim.Native.Nat.{ℕ, ◌+◌, ◌≤◌}
use native.Mathlib.Omega.{arith}
use lib.Dec.{T, leb, leb→le, le→leb}
use Rattle.reading.specs.Grammar.{Parser}
use Rattle.reading.proofs.Cost.{cost, slim}
use Rattle.reading.proofs.Tests.{quiet}
use Rattle.cursor.specs.Agree.{Reads, Ready}
use Rattle.cursor.specs.Text.{Skips}
use Rattle.cursor.specs.declared.Cursor.{Cursor}
use Rattle.cursor.specs.declared.Skip.{Skip}
use Rattle.cursor.specs.Read.{Read}
use Rattle.cursor.proofs.Laws.{moved, Solid, stepped}
use Rattle.expression.proofs.Steps.{reads_ready}
use Rattle.head.specs.Parts.{Closable, Flat}
use Rattle.std.specs.Prelude.{Ok}

-- a parser that pays for its rows but for n of them, and may have none
pub record Owing (n : ℕ) (g : Parser) : Type 0 where
  pub quieted : T (quiet g)
  pub slimmed : T (slim g)
  pub owing : T (leb (cost g).debt ((cost g).gain + n))

pub paid_up : {g : Parser} → Solid g → Owing 0 g
paid_up {g} x =
    record {
      quieted = x.quieted;
      slimmed = x.slimmed;
      owing = le→leb (cost g).debt ((cost g).gain + 0) (omega (arith, leb→le (cost g).debt (cost g).gain x.paying));
    }

-- where it ended, the next reader may be called, and there are no fewer rows
pub record Next (k : ℕ) (s : List ℕ) (c d : Cursor) : Type 0 where
  pub ready : Ready k s d
  pub grown : c.count.0 ≤ d.count.0

pub next : {n k : ℕ} {g : Parser} → Owing n g → {s : List ℕ} {c : Cursor} → Ready k s c → {left : ℕ} {t t' : List ℕ} {r : Read}
    → Reads g s c left t t' r → {d : Cursor} → r ≡ Ok d → Next (n + k) s c d
next {n} {g = g} ok h a {d} e =
    let m = moved g ok.quieted ok.slimmed d h.within (a.reading 0) e in
    let p = leb→le (cost g).debt ((cost g).gain + n) ok.owing in
    record { ready = record { small = h.small; within = m.within; few = omega (arith, m.rows, p, h.few) }; grown = m.grown }

-- behind what pays for its rows
pub flat_ready : {g : Parser} → Solid g → {s : List ℕ} {c : Cursor} → Ready 8 s c → {t t' : List ℕ} {d : Cursor} → Flat g s c t t' (Ok d) → Ready 8 s d
flat_ready ok h a = reads_ready ok h (a.reads 0)

-- the row from c to where a part of it ended that began at d
pub closable : {n : ℕ} {g : Parser} → Owing n g → n ≤ 8 → {w : Parser} {s : List ℕ} {c : Cursor} {k : Skip} → Ready 8 s c → Skips w s c.at.0 c.met k
    → {d : Cursor} → Ready 8 s d → c.count.0 ≤ d.count.0 → {left : ℕ} {t t' : List ℕ} {r : Read} → Reads g s d left t t' r → Closable c k r
closable ok few h x i j a =
    record {
      spans = λ e q.
          let y = next ok i a q in
          let z = y.ready in
          record {
            grown = omega (arith, j, y.grown);
            few = omega (arith, few, z.few, z.within, z.small);
            start = omega (arith, h.within, h.small);
            body = omega (arith, x.within, h.small);
            end = omega (arith, z.within, z.small);
          };
    }

-- behind what has a row there is a byte
pub past : {g : Parser} → Solid g → {s : List ℕ} {c : Cursor} → Ready 8 s c → {left : ℕ} {t t' : List ℕ} {r : Read}
    → Reads g s c left t t' r → {d : Cursor} → r ≡ Ok d → 1 ≤ d.at.0
past ok h a {d} e = omega (arith, (stepped ok d h.within (a.reading 0) e).on)
