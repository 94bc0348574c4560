-- Agreement with a parser: a law for each constructor of parsers, from what the callees answered.
use mathlib.Core.Path.{◌≡◌, refl, ap, ap₂, sym, subst, ◌∙◌}
use mathlib.Core.Bool.{false}
use mathlib.Core.List.{List, [], ◌++◌, append-nil, append_assoc}
use Prim.Native.Nat.{ℕ, ◌+◌, ◌-◌, ◌≤◌}
use native.Mathlib.Omega.{arith}
use lib.Dec.{T as Passes}
use lib.ListN.{length, drop, length-drop}
use lib.Seq.{drop-drop}
use Rattle.reading.specs.Grammar.{Rows, State, Error, Input, Reply, ok, err, stmt, Parser, empty, ◌▸◌, ◌or◌, rule, complain, expect, reported, error_at, root, parse, then, with}
use Rattle.reading.specs.Rules.{opt, statement}
use Rattle.reading.specs.Summary.{Summary, fits, fails, applied, scan}
use Rattle.reading.proofs.Ahead.{On, ahead}
use Rattle.reading.proofs.Fuel.{reads_on, solves}
use Rattle.reading.proofs.Summaries.{Yields, rooted, scan_rooted}
use Rattle.reading.proofs.Tests.{quiet}
use Rattle.reading.proofs.Trees.{Below, Sound, sound, reads_sound, reported_peak}
use Rattle.cursor.specs.Text.{here, cursor}
use Rattle.cursor.specs.Agree.{full}
use Rattle.cursor.specs.declared.Cursor.{Cursor}
use Rattle.cursor.proofs.Lows.{Low}
use Rattle.state.specs.declared.State.{State as Counts}
use Rattle.state.specs.Done.{Done}
use Rattle.state.specs.Acts.{Tables, tables, rules, state_after, Acting, Reported}
use Rattle.state.proofs.Agree.{Lies, acts_is, acts_ok, acts_told, acts_with, acts_got, acts_or, acts_out, acts_first}
use Rattle.state.proofs.Reports.{told_counts, told_logged}
use Rattle.state.proofs.Lift.{acting_from, parse_is}
use Rattle.cursor.specs.declared.Stop.TheVariants.{Miss}
use Rattle.std.specs.Prelude.{Ok, Err, IsErr}

-- Every reading ------------------------------------------------------------

lies_at : (s : List ℕ) (i : ℕ) (o : Reply Rows) → On (here s i) o → Lies s o
lies_at s i (ok v q w) h =
    ap {B = Input} (λ (t : List ℕ). record { at = q.at; left = t })
    (h.rest ∙ drop-drop (q.at - i) i s ∙ ap (λ n. drop n s) (let z : i + (q.at - i) ≡ q.at = omega (arith, h.on) in z))
lies_at s i (err w) h = tt

-- it ends at a place of the text
pub lies : (s : List ℕ) (g : Parser) (l i : ℕ) (w : State) → Lies s (parse (rules s) g l (here s i) w)
unfolding rules
lies s g l i w = lies_at s i (parse (rules s) g l (here s i) w) (ahead (rules s) (reads_on (length s)) g l (here s i) w)

sound_rises : (k : ℕ) (o : Reply Rows) → Sound (Below 0) k o → k ≤ (state_after o).peak
unfolding state_after
sound_rises k (ok v q w) h = h.rises
sound_rises k (err w) h = h.rises

-- it never lowers the highest level
pub rises : (s : List ℕ) (g : Parser) (l : ℕ) (p : Input) (w : State) → w.peak ≤ (state_after (parse (rules s) g l p w)).peak
unfolding rules
rises s g l p w = sound_rises w.peak (parse (rules s) g l p w) (sound (rules s) (reads_sound (length s)) g l p w)

pub rises_with : (f : Rows → Rows) (k : ℕ) (o : Reply Rows) → k ≤ (state_after o).peak → k ≤ (state_after (with f o)).peak
unfolding state_after
rises_with f k (ok v q w) h = h
rises_with f k (err w) h = h

pub told_rises : (x : Error) (v : Rows) (q : Input) (w : State) → w.peak ≤ (state_after (ok v q (reported x w))).peak
unfolding state_after
told_rises x v q w = omega (arith, reported_peak x w)

-- another parser that reads the same, and tables that are equal to others
pub acting_is : {g m : Parser} {s : List ℕ} {l lim i base : ℕ} {st : Counts} {T T' : Tables} {r : Done}
    → ((w : State) → parse (rules s) g l (here s i) w ≡ parse (rules s) m l (here s i) w)
    → Acting m s l lim i base st T T' r → Acting g s l lim i base st T T' r
acting_is h a = acting_from λ w p k. acts_is (h w) (a.doing.acts w p k)

-- a statement behind a byte
pub rule_is : {s : List ℕ} {l lim i base : ℕ} {st : Counts} {T T' : Tables} {r : Done}
    → 1 ≤ i → i ≤ length s → Acting statement s l lim i base st T T' r → Acting (rule stmt) s l lim i base st T T' r
unfolding rules
rule_is {s} {l} {i = i} h k a = acting_is (λ w. solves (length s) stmt l (here s i) w (omega (arith, length-drop i s))) a

-- Sequences and alternatives -----------------------------------------------

-- nothing
pub acting_empty : (s : List ℕ) (l lim i base : ℕ) (st : Counts) (T : Tables) → Acting empty s l lim i base st T T (Ok (cursor i base false, st))
acting_empty s l lim i base st T = acting_from λ w p k. acts_ok [] (here s i) w lim base T (cursor i base false) st k refl (omega arith) refl p

module _ {m : Parser} {s : List ℕ} {l lim i base : ℕ} {st : Counts} {T T₁ : Tables} {r₁ : Done} (a : Acting m s l lim i base st T T₁ r₁) (n : Parser) where
  -- the first does not fit, or is too deep
  pub seq_out : IsErr r₁ → Acting (m ▸ n) s l lim i base st T T₁ r₁
  seq_out h =
      acting_from λ w p k.
      acts_out [] (λ v q u. with (v ++◌) (parse (rules s) n l q u))
      (λ v q u. rises_with (v ++◌) u.peak (parse (rules s) n l q u) (rises s n l q u)) (omega arith) (a.doing.acts w p k) h

  -- the first fits, and the second answers
  pub seq_got : (d : Cursor) (x : Counts) → r₁ ≡ Ok (d, x) → {T' : Tables} {r : Done}
      → Acting n s l lim d.at.0 d.count.0 x T₁ T' r → Acting (m ▸ n) s l lim i base st T T' r
  seq_got d x e b =
      acting_from λ w p k.
      acts_got s [] d x (λ v q u. with (v ++◌) (parse (rules s) n l q u)) (omega arith) (lies s m l i w) (a.doing.acts w p k) e
      λ v u z c m o f. acts_with (parse (rules s) n l (here s d.at.0) u) v c (b.doing.acts u o f)

  -- the first alternative fits, or is too deep
  pub or_first : ((x : Counts) → r₁ ≡ Err (Miss x) → ⊥) → Acting (m or n) s l lim i base st T T₁ r₁
  or_first h =
      acting_from λ w p k.
      acts_first (λ v. parse (rules s) n l (here s i) v) (λ v. rises s n l (here s i) v) (a.doing.acts w p k) h

  -- it does not, and the second answers
  pub or_miss : (x : Counts) → r₁ ≡ Err (Miss x) → {T' : Tables} {r : Done} → Acting n s l lim i base x T₁ T' r → Acting (m or n) s l lim i base st T T' r
  or_miss x e b =
      acting_from λ w p k.
      acts_or [] x (λ v. parse (rules s) n l (here s i) v) (omega arith) (a.doing.acts w p k) e λ v o f. b.doing.acts v o f

-- one or none
module _ {m : Parser} {s : List ℕ} {l lim i base : ℕ} {st : Counts} {T T₁ : Tables} {r₁ : Done} (a : Acting m s l lim i base st T T₁ r₁) where
  pub opt_first : ((x : Counts) → r₁ ≡ Err (Miss x) → ⊥) → Acting (opt m) s l lim i base st T T₁ r₁
  opt_first h = or_first a empty h

  pub opt_miss : (x : Counts) → r₁ ≡ Err (Miss x) → Acting (opt m) s l lim i base st T T₁ (Ok (cursor i base false, x))
  opt_miss x e = or_miss a empty x e (acting_empty s l lim i base x T₁)

-- nothing behind it
pub seq_empty : {m : Parser} {s : List ℕ} {l lim i base : ℕ} {st : Counts} {T T' : Tables} {r : Done}
    → Acting m s l lim i base st T T' r → Acting (m ▸ empty) s l lim i base st T T' r
seq_empty {m} {s} {l} {i = i} a = acting_is (λ w. go (parse (rules s) m l (here s i) w)) a
  where
    go : (o : Reply Rows) → then o (λ v q u. with (v ++◌) (ok [] q u)) ≡ o
    go (ok v q u) = ap (λ (x : Rows). ok x q u) (append-nil v)
    go (err u) = refl

-- a head that was read as one
pub seq_assoc : {m n j : Parser} {s : List ℕ} {l lim i base : ℕ} {st : Counts} {T T' : Tables} {r : Done}
    → Acting ((m ▸ n) ▸ j) s l lim i base st T T' r → Acting (m ▸ (n ▸ j)) s l lim i base st T T' r
seq_assoc {m} {n} {j} {s} {l} {i = i} a = acting_is (λ w. outer (parse (rules s) m l (here s i) w)) a
  where
    inner : (v u : Rows) (o : Reply Rows) → with (v ++◌) (with (u ++◌) o) ≡ with ((v ++ u) ++◌) o
    inner v u (ok z q w) = ap (λ (x : Rows). ok x q w) (sym (append_assoc v u z))
    inner v u (err w) = refl

    middle : (v : Rows) (o : Reply Rows)
        → with (v ++◌) (then o λ a q u. with (a ++◌) (parse (rules s) j l q u)) ≡ then (with (v ++◌) o) λ a q u. with (a ++◌) (parse (rules s) j l q u)
    middle v (ok u q w) = inner v u (parse (rules s) j l q w)
    middle v (err w) = refl

    outer : (o : Reply Rows)
        → then o (λ v q w. with (v ++◌) (then (parse (rules s) n l q w) λ a q u. with (a ++◌) (parse (rules s) j l q u)))
        ≡ then (then o λ v q w. with (v ++◌) (parse (rules s) n l q w)) λ a q u. with (a ++◌) (parse (rules s) j l q u)
    outer (ok v q w) = middle v (parse (rules s) n l q w)
    outer (err w) = refl

-- Reports ------------------------------------------------------------------

-- what a quiet parser reads is what its summary yields
pub quiet_yields : {P : Rows → Input → Type 0} (s : List ℕ) (g : Parser) (l i : ℕ) → Passes (quiet g) → i ≤ length s → Yields P (scan (full s) g l (here s i))
    → (w : State) (v : Rows) (q : Input) (u : State) → parse (rules s) g l (here s i) w ≡ ok v q u → P v q
quiet_yields {P} s g l i t h y w v q u e = go (scan (full s) g l (here s i)) y (sym (parse_is s g t i h l w) ∙ e)
  where
    ok_is : (a : Rows) (p : Input) (x : State) → ok a p x ≡ ok v q u → ◌≡◌ {A = Rows × Input} (a, p) (v, q)
    ok_is a p x h = cc

    go : (o : Summary Rows) → Yields P o → applied (length s) o w ≡ ok v q u → P v q
    go (fits a p b k) y z = subst (λ (x : Rows × Input). P x.0 x.1) (ok_is a p _ z) y.holds
    go (fails b k) y z = absurd (let x : ◌≡◌ {A = ℕ} 0 1 = cc in let f : ⊥ = omega arith in f)

-- error text: what was read is reported
abbrev blamed : Rows → Error
blamed v = record { code = 2; low = (root v).low; high = (root v).high }

module _ {m : Parser} {s : List ℕ} {l lim i base : ℕ} {st : Counts} {T T₁ : Tables} {r₁ : Done} (a : Acting m s l lim i base st T T₁ r₁) where
  pub complain_out : IsErr r₁ → Acting (complain m) s l lim i base st T T₁ r₁
  complain_out h =
      acting_from λ w p k.
      acts_out [] (λ v q u. ok v q (reported (blamed v) u)) (λ v q u. told_rises (blamed v) v q u) (omega arith) (a.doing.acts w p k) h

  pub complain_got : Passes (quiet m) → Passes (rooted m) → i ≤ length s → (low : ℕ) → Yields (Low low) (scan (full s) m l (here s i))
      → (d : Cursor) (x : Counts) → r₁ ≡ Ok (d, x) → {y : Counts} {e : List ℕ} → Reported (record { code = 2; low = low; high = d.at.0 }) x y T₁.errors e
      → Acting (complain m) s l lim i base st T (tables T₁.rows e T₁.requests) (Ok (d, y))
  unfolding full
  complain_got t root? h low lows d x q {y} {e} report =
      let x₂ : Error = record { code = 2; low = low; high = d.at.0 } in
      acting_from λ w p k.
      acts_got s [] d x (λ v q u. ok v q (reported (blamed v) u)) (omega arith) (lies s m l i w) (a.doing.acts w p k) q
      λ v u z c met o f.
      let place = here s d.at.0 in
      let is-low = (quiet_yields s m l i t h lows w v place u z).root_low in
      let is-high = (quiet_yields s m l i t h (scan_rooted (length s) m root? l (here s i)) w v place u z).high in
      acts_is (ap₂ {C = Reply Rows} (λ (n k : ℕ). ok v place (reported (record { code = 2; low = n; high = k }) u)) is-low is-high)
      (acts_told e T₁.requests (told_logged x₂ u o report)
      (acts_ok v place (reported x₂ u) lim base _ d y (omega (arith, reported_peak x₂ u)) refl c met (told_counts x₂ u o report)))

  -- what may be missing, with a report of its code where it would begin
  pub expect_first : (c : ℕ) → ((x : Counts) → r₁ ≡ Err (Miss x) → ⊥) → Acting (expect c m) s l lim i base st T T₁ r₁
  expect_first c h =
      acting_from λ w p k.
      acts_first (λ v. ok [] (here s i) (reported (error_at c i) v)) (λ v. told_rises (error_at c i) [] (here s i) v) (a.doing.acts w p k) h

  pub expect_miss : (c : ℕ) (x : Counts) → r₁ ≡ Err (Miss x) → {y : Counts} {e : List ℕ} → Reported (error_at c i) x y T₁.errors e
      → Acting (expect c m) s l lim i base st T (tables T₁.rows e T₁.requests) (Ok (cursor i base false, y))
  expect_miss c x q {y} {e} report =
      acting_from λ w p k.
      acts_or [] x (λ v. ok [] (here s i) (reported (error_at c i) v)) (omega arith) (a.doing.acts w p k) q
      λ v o f. acts_told e T₁.requests (told_logged (error_at c i) v o report)
      (acts_ok [] (here s i) (reported (error_at c i) v) lim base _ (cursor i base false) y (omega (arith, reported_peak (error_at c i) v)) refl (omega arith) refl
      (told_counts (error_at c i) v o report))
