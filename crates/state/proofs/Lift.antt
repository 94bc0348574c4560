-- A quiet reader, called with no open comment met and followed by one note, is a reader with the state.
use mathlib.Core.Path.{◌≡◌, refl, ap, ap₂, sym, subst, ◌∙◌}
use mathlib.Core.Bool.{Bool, true, false}
use mathlib.Core.List.{List, [], ◌++◌}
use Prim.Native.Nat.{ℕ, ◌+◌, ◌≤◌, ◌<◌, max}
use native.Mathlib.Omega.{arith}
use borrow.Author.Tests.{le-ltb}
use lib.Dec.{T}
use lib.ListN.{length, drop, length-drop}
use Rattle.reading.specs.Grammar.{Rows, State, Parser, parse}
use Rattle.reading.specs.Summary.{Summary, fits, fails, touched, applied, scan}
use Rattle.reading.proofs.Tests.{quiet}
use Rattle.reading.proofs.Quiet.{parse_quiet}
use Rattle.reading.proofs.Trees.{reported_peak}
use Rattle.table.specs.Words.{HoldsRows}
use Rattle.cursor.specs.Text.{here, cursor}
use Rattle.cursor.specs.Agree.{full, peak_of, rows_of, Reading}
use Rattle.cursor.specs.declared.Cursor.{Cursor}
use Rattle.cursor.specs.Read.{Read}
use Rattle.cursor.proofs.Agree.{found, lost, deep}
use Rattle.state.specs.declared.State.{State as Counts}
use Rattle.state.specs.Done.{Done}
use Rattle.state.specs.Acts.{counts, log, Tables, tables, rules, deep_or, done_of, state_after, rows_read, Acts, Acting, Noted}
use Rattle.state.proofs.Agree.{acts_is, acts_deep}
use Rattle.state.proofs.Reports.{noted_counts, noted_logged}
use Rattle.cursor.specs.declared.Stop.TheVariants.{Miss, Deep}
use Rattle.std.specs.Prelude.{Ok, Err}

-- agreement with a parser, from every state that the counts stand for
pub acting_from : {g : Parser} {s : List ℕ} {l lim i base : ℕ} {st : Counts} {T T' : Tables} {r : Done}
    → ((w : State) → counts w ≡ st → w.peak ≤ lim → Acts (parse (rules s) g l (here s i) w) lim base [] (log w) T T' r)
    → Acting g s l lim i base st T T' r
acting_from f = record { doing = record { acts = f } }

-- a quiet parser does what its summary says
pub parse_is : (s : List ℕ) (g : Parser) → T (quiet g) → (i : ℕ) → i ≤ length s → (l : ℕ) (w : State)
    → parse (rules s) g l (here s i) w ≡ applied (length s) (scan (full s) g l (here s i)) w
unfolding full rules
parse_is s g u i h l w = parse_quiet (length s) (length s) g u l (here s i) w (let z : i + length (drop i s) ≡ length s = omega (arith, length-drop i s) in z)

touched_peak : (e : ℕ) (b : Bool) (k : ℕ) (w : State) → (touched e b k w).peak ≡ max w.peak k
touched_peak e false k w = refl
touched_peak e true k w = ap (λ n. max n k) (reported_peak (record { code = 1; low = e; high = e }) w)

abbrev Keeps : ℕ → ℕ → List ℕ → List ℕ → Summary Rows → Type 0
Keeps lim base t t₁ o = peak_of o ≤ lim → (pre : Rows) → length pre ≡ base → HoldsRows t (pre ++ []) → HoldsRows t₁ (pre ++ rows_of o)

module _ {g : Parser} (u : T (quiet g)) {s : List ℕ} {l lim i base : ℕ} (h : i ≤ length s) {t t₁ : List ℕ} {r : Read}
    (a : Reading g s l lim i false base t t₁ r) {st : Counts} {e q : List ℕ} where
  module _ {st₁ : Counts} {e₁ : List ℕ} where
    pub lift_got : (d : Cursor) → r ≡ Ok d → Noted (length s) d.met st st₁ e e₁
        → Acting g s l lim i base st (tables t e q) (tables t₁ e₁ q) (Ok (cursor d.at.0 d.count.0 false, st₁))
    unfolding done_of state_after rows_read rows_of peak_of
    lift_got d z n =
        let x = found lim false base (scan (full s) g l (here s i)) d (sym z ∙ a.agrees.answer) in
        let n₁ : Noted (length s) x.b st st₁ e e₁ = subst (λ (b : Bool). Noted (length s) b st st₁ e e₁) x.noted n in
        let kept = subst (Keeps lim base t t₁) x.is a.agrees.table x.low in
        acting_from λ w p k.
        let w₁ = touched (length s) x.b x.k w in
        let y : w₁.peak ≤ lim = omega (arith, touched_peak (length s) x.b x.k w, x.low) in
        let j : counts w₁ ≡ st₁ = noted_counts (length s) w p x.b n₁ in
        let d₁ = cursor x.q.at (base + length x.v) false in
        acts_is (parse_is s g u i h l w ∙ ap (λ o. applied (length s) o w) x.is)
        (record {
          answer = ap₂ {C = Done} (λ (m o : ℕ). Ok (cursor m o false, st₁)) x.at x.count ∙ ap (λ (x : Counts). Ok (d₁, x)) (sym j)
              ∙ sym (ap (λ b. deep_or b (Ok (d₁, counts w₁))) (le-ltb lim w₁.peak y));
          rows = λ z. kept;
          logged = λ z f. noted_logged (length s) w p x.b n₁ f;
        })

    pub lift_miss : (m : Bool) → r ≡ Err (Miss m) → Noted (length s) m st st₁ e e₁
        → Acting g s l lim i base st (tables t e q) (tables t₁ e₁ q) (Err (Miss st₁))
    unfolding done_of state_after rows_read rows_of peak_of
    lift_miss m z n =
        let x = lost lim false base (scan (full s) g l (here s i)) m (sym z ∙ a.agrees.answer) in
        let n₁ : Noted (length s) x.b st st₁ e e₁ = subst (λ (b : Bool). Noted (length s) b st st₁ e e₁) x.noted n in
        let kept = subst (Keeps lim base t t₁) x.is a.agrees.table x.low in
        acting_from λ w p k.
        let w₁ = touched (length s) x.b x.k w in
        let y : w₁.peak ≤ lim = omega (arith, touched_peak (length s) x.b x.k w, x.low) in
        let j : counts w₁ ≡ st₁ = noted_counts (length s) w p x.b n₁ in
        acts_is (parse_is s g u i h l w ∙ ap (λ o. applied (length s) o w) x.is)
        (record {
          answer = ap (λ (x : Counts). Err (Miss x)) (sym j) ∙ sym (ap (λ b. deep_or b (Err (Miss (counts w₁)))) (le-ltb lim w₁.peak y));
          rows = λ z. kept;
          logged = λ z f. noted_logged (length s) w p x.b n₁ f;
        })

  pub lift_deep : {T' : Tables} → r ≡ Err Deep → Acting g s l lim i base st (tables t e q) T' (Err Deep)
  unfolding state_after peak_of
  lift_deep z =
      let o = scan (full s) g l (here s i) in
      acting_from λ w p k. acts_is (parse_is s g u i h l w) (acts_deep lim base (applied (length s) o w)
      (go w o (deep lim false base o (sym z ∙ a.agrees.answer))))
    where
      go : (w : State) (o : Summary Rows) → lim < peak_of o → lim < (state_after (applied (length s) o w)).peak
      go w (fits v q b j) x = omega (arith, touched_peak (length s) b j w)
      go w (fails b j) x = omega (arith, touched_peak (length s) b j w)
