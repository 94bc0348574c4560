-- What a report, a note, a request and a scope number do: the same to the counts and the tables as to every state that the counts stand for.
use mathlib.Core.Path.{◌≡◌, refl, ap, sym, subst, ◌∙◌}
use mathlib.Core.Bool.{Bool, true, false, cond, not}
use mathlib.Core.List.{List, [], ◌∷◌, ◌++◌}
use Prim.Native.Nat.{ℕ, suc, ◌+◌}
use native.Mathlib.Omega.{arith}
use borrow.Author.Tests.{not-true}
use lib.ListN.{length, length-append}
use Rattle.reading.specs.Grammar.{State, Error, Request, reported, numbered, requested, error_at}
use Rattle.reading.specs.Summary.{noted}
use Rattle.reading.specs.Table.{error_width, request_width, error_words, request_words}
use Rattle.table.specs.Words.{pushed, error_record, request_record, Holds}
use Rattle.table.proofs.Holds.{holds_more, errors_written, requests_written}
use Rattle.state.specs.declared.State.{State as Counts}
use Rattle.state.specs.Acts.{counts, log, tables, Logged, charge, told, told_in, Reported, noting, Noted, Requested}

-- Reports ------------------------------------------------------------------

abbrev Errors : List ℕ → State → Type 0
Errors e w = Holds error_width e (error_words w.errors)

abbrev state : ℕ → Bool → List Error → List Request → ℕ → State
state n f es qs k = record { scope = n; swallow = f; errors = es; requests = qs; peak = k }

module _ (x : Error) where
  counted_at : (n : ℕ) (f : Bool) (es : List Error) (qs : List Request) (k : ℕ) → counts (reported x (state n f es qs k)) ≡ told (counts (state n f es qs k))
  unfolding told charge
  counted_at n true es qs k = refl
  counted_at n false es qs k = ap {B = Counts} (λ i. record { scope = n; swallow = false; errors = i; requests = length qs }) (length-append es (x ∷ []))

  held_at : (e : List ℕ) (n : ℕ) (f : Bool) (es : List Error) (qs : List Request) (k : ℕ)
      → Holds error_width e (error_words es) → Errors (told_in (counts (state n f es qs k)) x e) (reported x (state n f es qs k))
  unfolding told_in
  held_at e n true es qs k h = h
  held_at e n false es qs k h = holds_more errors_written e es (length es) x refl h

  requests_at : (n : ℕ) (f : Bool) (es : List Error) (qs : List Request) (k : ℕ) → (reported x (state n f es qs k)).requests ≡ qs
  requests_at n true es qs k = refl
  requests_at n false es qs k = refl

  module _ {st st' : Counts} (w : State) (p : counts w ≡ st) where
    pub told_counts : {e e' : List ℕ} → Reported x st st' e e' → counts (reported x w) ≡ st'
    told_counts r = counted_at w.scope w.swallow w.errors w.requests w.peak ∙ ap told p ∙ sym r.state

    pub told_logged : {t t' e e' q : List ℕ} → Reported x st st' e e' → Logged (tables t e q) (log w) → Logged (tables t' e' q) (log (reported x w))
    told_logged {e = e} {e' = e'} {q = q} r h =
        let y : e' ≡ told_in (counts w) x e = r.table ∙ ap (λ i. told_in i x e) (sym p) in
        let same = requests_at w.scope w.swallow w.errors w.requests w.peak in
        record {
          errors = subst (λ e. Errors e (reported x w)) (sym y) (held_at e w.scope w.swallow w.errors w.requests w.peak h.errors);
          requests = subst (λ qs. Holds request_width q (request_words qs)) (sym same) h.requests;
        }

-- Notes --------------------------------------------------------------------

module _ (n : ℕ) {st st' : Counts} (w : State) (p : counts w ≡ st) where
  pub noted_counts : {e e' : List ℕ} (b : Bool) → Noted n b st st' e e' → counts (noted n b w) ≡ st'
  unfolding noting told
  noted_counts false r = p ∙ sym r.state
  noted_counts true r =
      ap {B = Counts} (λ (i : Counts). record { scope = i.scope; swallow = true; errors = i.errors; requests = i.requests })
      (counted_at (error_at 1 n) w.scope w.swallow w.errors w.requests w.peak ∙ ap told p)
      ∙ sym r.state

  pub noted_logged : {t t' e e' q : List ℕ} (b : Bool) → Noted n b st st' e e' → Logged (tables t e q) (log w) → Logged (tables t' e' q) (log (noted n b w))
  noted_logged false r h = record { errors = subst (λ e. Errors e w) (sym r.table) h.errors; requests = h.requests }
  noted_logged {t} {t'} {e} {e'} {q} true r h =
      let y : Logged (tables t' e' q) (log (reported (error_at 1 n) w)) = told_logged (error_at 1 n) w p (record { state = refl; table = r.table }) h in
      record { errors = y.errors; requests = y.requests }

-- Requests and scope numbers -----------------------------------------------

module _ (x : Request) {st st' : Counts} (w : State) (p : counts w ≡ st) where
  pub requested_counts : {q q' : List ℕ} → Requested x st st' q q' → counts (requested x w) ≡ st'
  requested_counts r =
      ap {B = Counts} (λ i. record { scope = w.scope; swallow = w.swallow; errors = length w.errors; requests = i }) (length-append w.requests (x ∷ []))
      ∙ ap {B = Counts} (λ (i : Counts). record { scope = i.scope; swallow = i.swallow; errors = i.errors; requests = i.requests + 1 }) p
      ∙ sym r.state

  pub requested_logged : {t t' e q q' : List ℕ} → Requested x st st' q q' → Logged (tables t e q) (log w) → Logged (tables t' e q') (log (requested x w))
  requested_logged {q = q} {q' = q'} r h =
      let rec = request_record x.low x.high in
      let y : q' ≡ pushed request_width q (length w.requests) rec = r.table ∙ ap (λ (i : Counts). pushed request_width q i.requests rec) (sym p) in
      record {
        errors = h.errors;
        requests = subst (λ q. Holds request_width q (request_words (w.requests ++ (x ∷ [])))) (sym y)
            (holds_more requests_written q w.requests (length w.requests) x refl h.requests);
      }

-- the state with the next scope number
abbrev pub next_scope : Counts → Counts
next_scope st = record { scope = st.scope + 1; swallow = st.swallow; errors = st.errors; requests = st.requests }

pub numbered_counts : {st : Counts} (w : State) → counts w ≡ st → counts (numbered w) ≡ next_scope st
numbered_counts w p =
    ap {B = Counts} (λ i. record { scope = i; swallow = w.swallow; errors = length w.errors; requests = length w.requests })
    (let z : suc w.scope ≡ w.scope + 1 = omega arith in z)
    ∙ ap next_scope p

-- The code's ways ----------------------------------------------------------

module _ (x : Error) (st : Counts) (e : List ℕ) where
  pub report_lost : st.swallow ≡ true → Reported x st (record { scope = st.scope; swallow = false; errors = st.errors; requests = st.requests }) e e
  unfolding told told_in charge
  report_lost f =
      record {
        state = ap {B = Counts} (λ b. record { scope = st.scope; swallow = false; errors = cond b st.errors (st.errors + 1); requests = st.requests }) (sym f);
        table = ap (λ b. cond b e (pushed error_width e st.errors (error_record x.code x.low x.high))) (sym f);
      }

  pub report_kept : st.swallow ≡ false → {e' : List ℕ} → e' ≡ pushed error_width e st.errors (error_record x.code x.low x.high)
      → Reported x st (record { scope = st.scope; swallow = false; errors = st.errors + 1; requests = st.requests }) e e'
  unfolding told told_in charge
  report_kept f g =
      record {
        state = ap {B = Counts} (λ b. record { scope = st.scope; swallow = false; errors = cond b st.errors (st.errors + 1); requests = st.requests }) (sym f);
        table = g ∙ ap (λ b. cond b e (pushed error_width e st.errors (error_record x.code x.low x.high))) (sym f);
      }

-- a note is a report, after which the flag is set
pub note_report : {n : ℕ} {met : Bool} {st x : Counts} {e e' : List ℕ} → met ≡ true → Reported (error_at 1 n) st x e e'
    → Noted n met st (record { scope = x.scope; swallow = true; errors = x.errors; requests = x.requests }) e e'
unfolding told noting
note_report {n} {met} {st} {x} {e} m r =
    record {
      state = ap {B = Counts} (λ (i : Counts). record { scope = i.scope; swallow = true; errors = i.errors; requests = i.requests }) r.state ∙ ap (λ b. noting b st) (sym m);
      table = r.table ∙ ap (λ b. cond b (told_in st (error_at 1 n) e) e) (sym m);
    }

pub note_none : (n : ℕ) (met : Bool) (st : Counts) (e : List ℕ) → not met ≡ true → Noted n met st st e e
unfolding noting
note_none n met st e f =
    let m = not-true met f in
    record { state = ap (λ b. noting b st) (sym m); table = ap (λ b. cond b (told_in st (error_at 1 n) e) e) (sym m) }
