-- What stands behind trivia and has one row: a row was pushed, or nothing fits.
use mathlib.Core.Bool.{Bool, true, false, ◌||◌, or-false, or_assoc, or_self}
use mathlib.Core.List.{List, []}
use mathlib.Core.Path.{◌≡◌, refl, ap, ap₂, sym, subst, ◌∙◌}
use Prim.Native.Nat.{ℕ, ◌^◌, ◌≤◌, ◌<◌}
use native.Mathlib.Omega.{arith}
use lib.Dec.{T}
use lib.ListN.{length}
use Rattle.reading.specs.Rules.{trivia}
use Rattle.reading.proofs.Settled.{trivia_twice}
use Rattle.reading.proofs.Tests.{quiet}
use Rattle.reading.specs.Grammar.{Parser, node, always}
use Rattle.reading.specs.Summary.{scan}
use Rattle.table.specs.declared.Pos.{Pos}
use Rattle.cursor.proofs.Agree.{lost}
use Rattle.cursor.proofs.Laws.{reading_to, node_out, node_got}
use Rattle.cursor.specs.Agree.{full, Reading, Ready, Leafs}
use Rattle.cursor.specs.Text.{here, cursor, skip, Skips}
use Rattle.cursor.specs.declared.Cursor.{Cursor}
use Rattle.cursor.specs.Read.{Read}
use Rattle.cursor.specs.declared.Skip.{Skip}
use Rattle.lexis.specs.Behind.{Rowed}
use Rattle.lexis.specs.Finds.{read_of, Finds}
use Rattle.cursor.specs.declared.Stop.TheVariants.{Miss}
use Rattle.std.specs.Prelude.{Ok, Err, Some, None}

-- Where a reader may be called -----------------------------------------------

-- a few rows more than a `Spot` has may stand before its first byte
pub record Placed (s : List ℕ) (c : Cursor) (k : Skip) : Type 0 where
  pub ready : Ready 16 s c
  pub on : c.at.0 ≤ k.at.0
  pub within : k.at.0 ≤ length s

module _ {s : List ℕ} {c : Cursor} {k : Skip} where
  -- behind trivia that was skipped
  pub placed : {n : ℕ} → Ready n s c → n ≤ 16 → {w : Parser} → Skips w s c.at.0 c.met k → Placed s c k
  placed h e x =
      record { ready = record { small = h.small; within = h.within; few = omega (arith, h.few) }; on = x.on; within = x.within }

  -- what `row` asks for
  pub row_fits : Placed s c k → (high d : ℕ) → high ≤ length s → d < 2 ^ 32
      → (c.count.0 < 2 ^ 32) × (c.at.0 < 2 ^ 32) × (k.at.0 < 2 ^ 32) × (high < 2 ^ 32) × (d < 2 ^ 32)
  row_fits p high d h j =
      let small = p.ready.small in
      let near = p.ready.within in
      let few = p.ready.few in
      let behind = p.within in
      (omega arith, omega arith, omega arith, omega arith, j)

-- Other names for text and start ---------------------------------------------

pub told : {g : Parser} {s s' : List ℕ} {c c' : Cursor} {t t' : List ℕ} {r : Read} → s' ≡ s → c' ≡ c → Leafs g s' c' t t' r → Leafs g s c t t' r
told {g} {s' = s'} {c} {t = t} {t'} {r} e f a =
    subst (λ (s : List ℕ). Leafs g s c t t' r) e (subst (λ (c : Cursor). Leafs g s' c t t' r) f a)

-- A second attempt behind the same trivia -----------------------------------

module _ {w : Parser} {s : List ℕ} {i : ℕ} {met : Bool} {k : Skip} (x : Skips w s i met k) where
  skips_on : (m n : Bool) → n ≡ m || x.open? → Skips w s i m (skip k.at.0 n)
  skips_on m n h = record { open? = x.open?; is = x.is; noted = h; on = x.on; within = x.within }

  -- with the flag behind the trivia
  pub skips_again : Skips w s i k.met k
  skips_again =
      let o = x.open? in
      skips_on k.met k.met
      (x.noted ∙ ap (λ (b : Bool). met || b) (sym (or_self o)) ∙ sym (or_assoc met o o) ∙ ap (λ (b : Bool). b || o) (sym x.noted))

  -- with the flag of a miss, whatever missed
  pub skips_next : (m b : Bool) → m ≡ met || b → Skips w s i m (skip k.at.0 (m || k.met))
  skips_next m b e = skips_on m (m || k.met) (both met b x.open? m k.met e x.noted)
    where
      same : (a b o : Bool) → (a || b) || (a || o) ≡ (a || b) || o
      same true b o = refl
      same false b o = refl

      both : (a b o m n : Bool) → m ≡ a || b → n ≡ a || o → m || n ≡ m || o
      both a b o m n p q = ap₂ ◌||◌ p q ∙ same a b o ∙ ap (λ (z : Bool). z || o) (sym p)

-- trivia that was skipped is not there any more
pub skips_within : {s : List ℕ} {i : ℕ} {met : Bool} {k : Skip} → Skips trivia s i met k → Skips trivia s k.at.0 k.met k
skips_within {s} {i} {k = k} h =
    record {
      open? = false;
      is = λ τ l. trivia_twice τ l (here s i) [] (here s k.at.0) h.open? 0 (h.is τ l);
      noted = sym (or-false k.met);
      on = omega arith;
      within = h.within;
    }

-- what a miss leaves
pub left : {g : Parser} {s : List ℕ} {c : Cursor} {t t' : List ℕ} {r : Read} → Leafs g s c t t' r → (m : Bool) → r ≡ Err (Miss m) → (b : Bool) × (m ≡ c.met || b)
left {g} {s} {c} a m e =
    let y = lost 0 c.met c.count.0 (scan (full s) g 0 (here s c.at.0)) m (sym e ∙ (a.reading 0 0).agrees.answer) in
    (y.b, y.noted)

-- Rows -----------------------------------------------------------------------

module _ {s : List ℕ} {c : Cursor} {k : Skip} {g m : Parser} (x : Skips g s c.at.0 c.met k) (kind d : ℕ) {t : List ℕ} where
  -- it has no rows, and ends at `high`; an open comment may have been met in it
  pub behind_got : T (quiet m) → (high : ℕ) (met : Bool)
      → ((l lim : ℕ) → Reading m s l lim k.at.0 k.met c.count.0 t t (Ok (cursor high c.count.0 met)))
      → {t' : List ℕ} {r : Read} → Rowed kind d c (skip k.at.0 met) high t t' r → Leafs (node kind (always d) g m) s c t t' r
  behind_got u high met a {t'} {r} w =
      record {
        reading = λ l lim.
            subst (λ (y : Read). Reading (node kind (always d) g m) s l lim c.at.0 c.met c.count.0 t t' y) (sym w.answer)
            (reading_to w.table (node_got kind (always d) x (a l lim) u (cursor high c.count.0 met) refl 1 d (omega arith) λ v b j p. refl));
      }

  pub behind_no : (met : Bool) → ((l lim : ℕ) → Reading m s l lim k.at.0 k.met c.count.0 t t (Err (Miss met)))
      → Leafs (node kind (always d) g m) s c t t (Err (Miss met))
  behind_no met a = record { reading = λ l lim. node_out kind (always d) x (a l lim) refl }

  -- the same, as it was found
  pub behind_found : T (quiet m) → {p : Pos} → Finds m s k.at.0 (Some p) → {t' : List ℕ} {r : Read} → Rowed kind d c k p.0 t t' r
      → Leafs (node kind (always d) g m) s c t t' r
  unfolding read_of
  behind_found u {p} a w = behind_got u p.0 k.met (λ l lim. a.reading l lim k.met c.count.0 t) w

  pub behind_none : {r : Read} → r ≡ Err (Miss k.met) → Finds m s k.at.0 None → Leafs (node kind (always d) g m) s c t t r
  unfolding read_of
  behind_none e a =
      subst (λ (r : Read). Leafs (node kind (always d) g m) s c t t r) (sym e) (behind_no k.met λ l lim. a.reading l lim k.met c.count.0 t)
