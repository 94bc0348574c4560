-- A quiet reader's answer and its note, as the answer of a reader with the state; and where the next may be called.
use mathlib.Core.Path.{◌≡◌, refl, ap, sym, subst, ◌∙◌}
use mathlib.Core.Bool.{Bool, false}
use mathlib.Core.List.{List}
use Prim.Native.Nat.{ℕ, ◌+◌, ◌^◌, ◌≤◌, ◌<◌}
use native.Mathlib.Omega.{arith}
use lib.Dec.{T as Passes}
use lib.ListN.{length}
use Rattle.reading.specs.Grammar.{Parser}
use Rattle.reading.specs.Rules.{multiline_trivia}
use Rattle.reading.proofs.Tests.{quiet}
use Rattle.reading.specs.Table.{max_text}
use Rattle.cursor.specs.Text.{cursor, Skips}
use Rattle.cursor.specs.Agree.{Reads, Leafs, Ready}
use Rattle.cursor.specs.declared.Cursor.{Cursor}
use Rattle.cursor.specs.declared.Skip.{Skip}
use Rattle.cursor.specs.Read.{Read}
use Rattle.cursor.proofs.Laws.{reads_leaf}
use Rattle.lexis.specs.Around.{Spans}
use Rattle.state.specs.declared.State.{State as Counts}
use Rattle.state.specs.Done.{Done}
use Rattle.state.specs.Acts.{Tables, tables, Acting, Does, Tells, TellsLeaf, Fit, Noted}
use Rattle.state.proofs.Lift.{lift_got, lift_miss, lift_deep}
use Rattle.state.proofs.Bounds.{sober, settled, acted, fit_got, fit_errors}
use Rattle.statement.specs.Shapes.{met_of, done_from, Lifted, Headed}
use Rattle.cursor.specs.declared.Stop.TheVariants.{Miss, Deep}
use Rattle.std.specs.Prelude.{Ok, Err}

-- What it means ------------------------------------------------------------

module _ {g : Parser} (u : Passes (quiet g)) {s : List ℕ} {c : Cursor} (h : c.at.0 ≤ length s) {t t₁ : List ℕ} {f : Read}
    {st : Counts} {e e₁ : List ℕ} {r : Done} (n : Lifted (length s) f st e e₁ r) where
  pub lift : {left : ℕ} → Reads g s (cursor c.at.0 c.count.0 false) left t t₁ f → Tells g s c st left t t₁ e e₁ r
  lift {left} a = record { does = λ q. record { acting = λ l. go q l f refl } }
    where
      to : (q : List ℕ) (l : ℕ) (y : Read) → f ≡ y → Acting g s l (l + left) c.at.0 c.count.0 st (tables t e q) (tables t₁ e₁ q) (done_from y n.x)
          → Acting g s l (l + left) c.at.0 c.count.0 st (tables t e q) (tables t₁ e₁ q) r
      to q l y z b =
          subst (Acting g s l (l + left) c.at.0 c.count.0 st (tables t e q) (tables t₁ e₁ q))
          (ap (λ (y : Read). done_from y n.x) (sym z) ∙ sym n.answer) b

      met : (y : Read) → f ≡ y → Noted (length s) (met_of y) st n.x e e₁
      met y z = subst (λ (y : Read). Noted (length s) (met_of y) st n.x e e₁) z n.noted

      go : (q : List ℕ) (l : ℕ) (y : Read) → f ≡ y → Acting g s l (l + left) c.at.0 c.count.0 st (tables t e q) (tables t₁ e₁ q) r
      go q l (Ok d) z = to q l (Ok d) z (lift_got u h (a.reading l) d z (met (Ok d) z))
      go q l (Err (Miss b)) z = to q l (Err (Miss b)) z (lift_miss u h (a.reading l) b z (met (Err (Miss b)) z))
      go q l (Err Deep) z = to q l (Err Deep) z (lift_deep u h (a.reading l) z)

  pub lift_leaf : Leafs g s (cursor c.at.0 c.count.0 false) t t₁ f → TellsLeaf g s c st t t₁ e e₁ r
  lift_leaf a = record { does = λ left q. (lift (reads_leaf left a)).does q }

  -- the same of a reader that is told no limit
  pub lift_flat : ((left : ℕ) → Reads g s (cursor c.at.0 c.count.0 false) left t t₁ f) → TellsLeaf g s c st t t₁ e e₁ r
  lift_flat a = record { does = λ left q. (lift (a left)).does q }

-- Where a reader may be called ---------------------------------------------

module _ {s : List ℕ} {c : Cursor} {st : Counts} (h : Fit 0 s c st) where
  pub fit_lifts : (length s ≤ max_text) × (st.errors < 2 ^ 32)
  fit_lifts = (h.small, omega (arith, fit_errors h))

  pub fit_ready : Ready 8 s (cursor c.at.0 c.count.0 false)
  fit_ready = record { small = h.small; within = h.within; few = omega (arith, h.few) }

  -- behind what a parser that owes nothing has read
  pub headed : (g : Parser) → Passes (sober g) → Passes (settled g) → {left : ℕ} {T T₁ : Tables} {r : Done} → Does g s c st left T T₁ r → Headed s c r
  headed g t u a =
      record {
        fit = λ d x q. fit_got h g t u (a.acting 0) d x q;
        grown = λ d x q. (acted g h.within (a.acting 0) t d x q).grown;
      }

-- what was read from c on has come to d: the next may be called there, and there are no fewer rows
pub record Reached (s : List ℕ) (c d : Cursor) (x : Counts) : Type 0 where
  pub fit : Fit 0 s d x
  pub grown : c.count.0 ≤ d.count.0

pub reached_then : {s : List ℕ} {c d e : Cursor} {x y : Counts} → Reached s c d x → Reached s d e y → Reached s c e y
reached_then a b = record { fit = b.fit; grown = omega (arith, a.grown, b.grown) }

pub headed_reached : {s : List ℕ} {c : Cursor} {h : Done} → Headed s c h → {d : Cursor} {x : Counts} → h ≡ Ok (d, x) → Reached s c d x
headed_reached a {d} {x} q = record { fit = a.fit d x q; grown = a.grown d x q }

-- so a row may be pushed around it from before the trivia, and a scope numbered
pub spans : {s : List ℕ} {c : Cursor} {k : Skip} → Skips multiline_trivia s c.at.0 false k → {d : Cursor} {x : Counts} → Reached s c d x
    → Spans c k.at.0 d × (x.scope + 1 < 2 ^ 32)
spans skip a =
    let b = a.fit in (
      record {
        grown = a.grown;
        few = omega (arith, b.small, b.within, b.few);
        start = omega (arith, b.small, skip.on, skip.within);
        body = omega (arith, b.small, skip.within);
        end = omega (arith, b.small, b.within);
      },
      omega (arith, b.small, b.within, b.scopes),
    )

-- A place behind trivia, where no open comment was met before ----------------

-- at a spot behind `clear`
module _ {s s' : List ℕ} {i n : ℕ} {c : Cursor} (e : s' ≡ s) (f : c ≡ cursor i n false) where
  pub reads_clear : {g : Parser} {left : ℕ} {t t' : List ℕ} {r : Read} → Reads g s' c left t t' r → Reads g s (cursor i n false) left t t' r
  reads_clear {g} {left} {t} {t'} {r} a = subst (λ (d : Cursor). Reads g s d left t t' r) f (subst (λ (s : List ℕ). Reads g s c left t t' r) e a)

  pub flat_clear : {g : Parser} {t t' : List ℕ} {r : Read} → ((left : ℕ) → Reads g s' c left t t' r) → (left : ℕ) → Reads g s (cursor i n false) left t t' r
  flat_clear a left = reads_clear (a left)

  pub leafs_clear : {g : Parser} {t t' : List ℕ} {r : Read} → Leafs g s' c t t' r → Leafs g s (cursor i n false) t t' r
  leafs_clear {g} {t} {t'} {r} a = subst (λ (d : Cursor). Leafs g s d t t' r) f (subst (λ (s : List ℕ). Leafs g s c t t' r) e a)

  pub skips_clear : {g : Parser} {k : Skip} → Skips g s' c.at.0 c.met k → Skips g s i false k
  skips_clear {g} {k} a = subst (λ (d : Cursor). Skips g s d.at.0 d.met k) f (subst (λ (s : List ℕ). Skips g s c.at.0 c.met k) e a)

-- at one whose flag is clear already
is_clear : (c : Cursor) → c.met ≡ false → c ≡ cursor c.at.0 c.count.0 false
is_clear c = ap (cursor c.at.0 c.count.0)

module _ {s : List ℕ} {c : Cursor} (e : c.met ≡ false) where
  pub reads_sober : {g : Parser} {left : ℕ} {t t' : List ℕ} {r : Read} → Reads g s c left t t' r → Reads g s (cursor c.at.0 c.count.0 false) left t t' r
  reads_sober = reads_clear refl (is_clear c e)

  pub flat_sober : {g : Parser} {t t' : List ℕ} {r : Read} → ((left : ℕ) → Reads g s c left t t' r) → (left : ℕ) → Reads g s (cursor c.at.0 c.count.0 false) left t t' r
  flat_sober = flat_clear refl (is_clear c e)

pub skips_sober : {g : Parser} {s : List ℕ} {i : ℕ} {m : Bool} {k : Skip} → m ≡ false → Skips g s i m k → Skips g s i false k
skips_sober {i = i} e = skips_clear refl (ap (cursor i 0) e)

module _ {s s' : List ℕ} {c c' : Cursor} (e : s' ≡ s) (f : c' ≡ cursor c.at.0 c.count.0 false) where
  pub fit_told : {st : Counts} → Fit 0 s c st → Fit 0 s' c' st
  fit_told {st} h =
      subst (λ (s : List ℕ). Fit 0 s c' st) (sym e) (subst (λ (c : Cursor). Fit 0 s c st) (sym f)
      (record { small = h.small; within = h.within; few = h.few; charged = h.charged; scopes = h.scopes; requests = h.requests }))

  pub does_told : {g : Parser} {st : Counts} {left : ℕ} {T T' : Tables} {r : Done} → Does g s' c' st left T T' r → Does g s c st left T T' r
  does_told {g} {st} {left} {T} {T'} {r} a =
      let b = subst (λ (s : List ℕ). Does g s (cursor c.at.0 c.count.0 false) st left T T' r) e (subst (λ (c : Cursor). Does g s' c st left T T' r) f a) in
      record { acting = b.acting }

  pub tells_told : {g : Parser} {st : Counts} {left : ℕ} {t t' x x' : List ℕ} {r : Done} → Tells g s' c' st left t t' x x' r → Tells g s c st left t t' x x' r
  tells_told a = record { does = λ q. does_told (a.does q) }

  pub leaf_told : {g : Parser} {st : Counts} {t t' x x' : List ℕ} {r : Done} → TellsLeaf g s' c' st t t' x x' r → TellsLeaf g s c st t t' x x' r
  leaf_told a = record { does = λ left q. does_told (a.does left q) }
