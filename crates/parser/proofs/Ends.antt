-- From what reading came to, to the outcome: too deep, too little room, or an answer.
use mathlib.Core.Path.{◌≡◌, refl, ap, sym, subst, ◌∙◌}
use mathlib.Core.Bool.{Bool, true, false}
use mathlib.Core.List.{List, [], ◌∷◌, ◌++◌}
use mathlib.Core.Option.{none, some}
use Prim.Native.Nat.{ℕ, ◌+◌, ◌*◌, ◌-◌, ◌/◌, ◌≤◌, ◌<◌}
use native.Mathlib.Omega.{arith}
use borrow.Author.Tests.{lt-ltb, le-ltb, ltb-true, lt-leb}
use native.Mathlib.Nat.{mul-le-mul_right, zero-add}
use lib.Dec.{ltb}
use lib.ListN.{length, take}
use Rattle.reading.specs.Grammar.{Rows, State, Input, Reply, ok, err}
use Rattle.reading.specs.Reading.{written, start, rows_of, state_of}
use Rattle.reading.specs.Table.{answered, Test, when, first, first_high, row_width, error_width, request_width, row_words, error_words, request_words, room, zeros, filled, max_text, max_scope, max_level}
use Rattle.reading.specs.Outcome.{Call, Outcome, reading, needs, refusal, left, settled, outcome}
use Rattle.reading.proofs.Answers.{Answered, written_answers}
use Rattle.table.specs.Words.{Holds, HoldsRows}
use Rattle.table.proofs.Holds.{holds_filled}
use Rattle.line.specs.Lines.{lined}
use Rattle.line.proofs.Fills.{lined_length}
use Rattle.line.proofs.Rows.{holds_lined}
use Rattle.reading.specs.Rules.{source_file}
use Rattle.cursor.specs.Text.{cursor}
use Rattle.cursor.specs.declared.Cursor.{Cursor}
use Rattle.state.specs.Acts.{counts, log, tables, Logged, deep_or, done_of, state_after, rows_read, rules, Acts}
use Rattle.state.specs.declared.State.{State as Kept}
use Rattle.state.specs.Done.{Done}
use Rattle.state.proofs.Agree.{Found, found as got_found}
use Rattle.statement.specs.Lined.{Lined}
use Rattle.parser.specs.Answers.{told, end_scope, end_swallow, call, Meets, Cleared, ReadSo, Answer}
use Rattle.parser.specs.declared.error.ReadError.TheVariants.{TooLong, HighByte, ScopeTooLarge, LevelTooLarge, TooDeep, NoRoomForRows, NoRoomForErrors, NoRoomForRequests}
use Rattle.parser.proofs.Room.{Kind, rows, errors, requests, number, width, need, lent, words, words_are, Readable, Enough, Before, Short, tight, short?, readable_rooms, lacks_rooms, fits_none}
use Rattle.std.specs.Prelude.{Ok, Err, IsErr}
use Rattle.state.proofs.Agree.{not_got}

same_outcome : {r r' e e' q q' n n' : ℕ} {f f' : Bool} {t t' u u' v v' : List ℕ} → r ≡ r' → e ≡ e' → q ≡ q' → n ≡ n' → f ≡ f' → t ≡ t' → u ≡ u' → v ≡ v'
    → ◌≡◌ {A = Outcome} (record { answer = answered (record { rows = r; errors = e; requests = q }); scope = n; swallow = f; rows = t; errors = u; requests = v })
    (record { answer = answered (record { rows = r'; errors = e'; requests = q' }); scope = n'; swallow = f'; rows = t'; errors = u'; requests = v' })
same_outcome a b c d g h i j = cc (a, b, c, d, g, h, i, j)

filled_same : (ws u u₀ : List ℕ) → length u ≡ length u₀ → filled ws u ≡ filled ws u₀
filled_same ws u u₀ h = ap (λ (m : ℕ). ws ++ zeros (m - length ws)) h

module _ {s : List ℕ} {n : ℕ} {f : Bool} {l : ℕ} {r : Done} {t e q : List ℕ} (x : ReadSo s n f l r (tables t e q)) where
  abbrev this : Call
  this = call s n f l t e q

  refused_so : (m g : ℕ) → refusal this ≡ some (m, g) → settled this (some (m, g)) ≡ outcome this
  unfolding outcome
  refused_so m g h = sym (ap (settled this) h)

  -- too deep -----------------------------------------------------------------

  deep_so : l < (state_of (written s n f)).peak → refusal this ≡ some (5, l)
  unfolding refusal
  deep_so h =
      rw (le-ltb max_text (length s) x.short, x.plain, le-ltb max_scope n x.scope, le-ltb max_level l x.level, lt-ltb l (state_of (written s n f)).peak h)

  -- what does not read is too deep
  not_read : IsErr r → l < (state_of (written s n f)).peak
  unfolding done_of
  not_read h = go (written s n f) (written_answers s n f) x.acts.answer
    where
      pick : (b : Bool) (v : Rows) (p : Input) (w : State) → ltb l w.peak ≡ b → r ≡ deep_or b (Ok (record { at = record { 0 = p.at }; count = record { 0 = 0 + length v }; met = false }, counts w)) → l < w.peak
      pick true v p w i j = ltb-true l w.peak i
      pick false v p w i j = absurd (not_got j h)

      go : (o : Reply Rows) → Answered o → r ≡ done_of l 0 o → l < (state_of o).peak
      go (ok v p w) a i = pick (ltb l w.peak) v p w refl i
      go (err w) a i = let z : ◌≡◌ {A = ℕ} 0 1 = (let y = a.same in cc) in absurd (let y : ⊥ = omega arith in y)

  pub deep_meets : IsErr r → {t' e' q' : List ℕ} → Cleared (tables t e q) (tables t' e' q') → Meets this t' e' q' (Err (TooDeep l))
  deep_meets h c = record { outcome_is = rw (c.rows, c.errors, c.requests) (refused_so 5 l (deep_so (not_read h))) }

  -- read ---------------------------------------------------------------------

  module _ (d : Cursor) (st : Kept) (h : r ≡ Ok (d, st)) where
    abbrev seen : Found (written s n f) l 0 d st
    seen = got_found l 0 (written s n f) d st (sym h ∙ x.acts.answer)

    readable : Readable this
    readable =
        record {
          short = x.short;
          plain = x.plain;
          scope = x.scope;
          level = x.level;
          deep = subst (λ (o : Reply Rows). (state_of o).peak ≤ l) (sym seen.is) seen.low;
        }

    -- the counts of the code are the needs
    abbrev kept_of : Kind → ℕ
    kept_of rows = d.count.0
    kept_of errors = st.errors
    kept_of requests = st.requests

    kept_is : (k : Kind) → kept_of k ≡ need k this
    kept_is rows = (let z : d.count.0 ≡ length seen.v = omega (arith, seen.count) in z) ∙ ap (λ (o : Reply Rows). length (rows_of o)) (sym seen.is)
    kept_is errors = ap (λ (y : Kept). y.errors) (sym seen.state) ∙ ap (λ (o : Reply Rows). length (state_of o).errors) (sym seen.is)
    kept_is requests = ap (λ (y : Kept). y.requests) (sym seen.state) ∙ ap (λ (o : Reply Rows). length (state_of o).requests) (sym seen.is)

    short_so : (k : Kind) → Before k this → Short k this → (g : ℕ) → g ≡ kept_of k → refusal this ≡ some (number k, g)
    short_so k b i g j = readable_rooms this readable ∙ lacks_rooms k this b i ∙ ap (λ (y : ℕ). some (number k, y)) (sym (j ∙ kept_is k))

    module _ {t' e' q' : List ℕ} (c : Cleared (tables t e q) (tables t' e' q')) where
      pub rows_meet : room row_width t < d.count.0 → Meets this t' e' q' (Err (NoRoomForRows d.count.0))
      rows_meet i =
          record { outcome_is = rw (c.rows, c.errors, c.requests) (refused_so 6 d.count.0 (short_so rows tt (omega (arith, kept_is rows)) d.count.0 refl)) }

      pub errors_meet : d.count.0 ≤ room row_width t → room error_width e < st.errors → Meets this t' e' q' (Err (NoRoomForErrors st.errors))
      errors_meet i j =
          record {
            outcome_is = rw (c.rows, c.errors, c.requests)
                (refused_so 7 st.errors (short_so errors (omega (arith, kept_is rows)) (omega (arith, kept_is errors)) st.errors refl));
          }

      pub requests_meet : d.count.0 ≤ room row_width t → st.errors ≤ room error_width e → room request_width q < st.requests
          → Meets this t' e' q' (Err (NoRoomForRequests st.requests))
      requests_meet i j k =
          record {
            outcome_is = rw (c.rows, c.errors, c.requests)
                (refused_so 8 st.requests (short_so requests (omega (arith, kept_is rows), omega (arith, kept_is errors)) (omega (arith, kept_is requests)) st.requests refl));
          }

    -- the tables hold the reading's records as far as they fit
    nothing : (w : ℕ) (u : List ℕ) → Holds w u []
    nothing w u = record { word = λ i g k. absurd (let z : ⊥ = omega arith in z) }

    low : (state_after (written s n f)).peak ≤ l
    unfolding state_after
    low = subst (λ (o : Reply Rows). (state_after o).peak ≤ l) (sym seen.is) seen.low

    held_rows : HoldsRows x.draft (rows_of (reading this))
    unfolding state_after rows_read
    held_rows =
        let y : HoldsRows x.draft (rows_read (written s n f)) = x.acts.rows low [] refl (nothing row_width x.t₀) in
        turn (written s n f) y
      where
        turn : (o : Reply Rows) → HoldsRows x.draft (rows_read o) → HoldsRows x.draft (rows_of o)
        turn (ok v p w) y = y
        turn (err w) y = y

    held_log : Logged (tables x.draft e q) (log (state_of (reading this)))
    unfolding state_after
    held_log =
        let y : Logged (tables x.draft e q) (log (state_after (written s n f))) =
        x.acts.logged low (record { errors = nothing error_width x.e₀; requests = nothing request_width x.q₀ }) in
        turn (written s n f) y
      where
        turn : (o : Reply Rows) → Logged (tables x.draft e q) (log (state_after o)) → Logged (tables x.draft e q) (log (state_of o))
        turn (ok v p w) y = y
        turn (err w) y = y

    -- zeros behind the last record of each kind
    pub read_meets : d.count.0 ≤ room row_width t → st.errors ≤ room error_width e → st.requests ≤ room request_width q → {t' e' q' : List ℕ}
        → t' ≡ take (d.count.0 * row_width) t ++ zeros (length t - d.count.0 * row_width)
        → e' ≡ take (st.errors * error_width) e ++ zeros (length e - st.errors * error_width)
        → q' ≡ take (st.requests * request_width) q ++ zeros (length q - st.requests * request_width)
        → Meets this t' e' q' (Ok (record { rows = d.count.0; errors = st.errors; requests = st.requests; scope = st.scope; swallow = st.swallow }))
    unfolding outcome needs
    read_meets i j k a b c =
        let z : refusal this ≡ none = fits_none this readable enough in
        let k₁ = kept_is rows in
        let k₂ = kept_is errors in
        let k₃ = kept_is requests in
        let w₁ : st.scope ≡ (state_of (reading this)).scope = ap (λ (y : Kept). y.scope) (sym seen.state) ∙ ap (λ (o : Reply Rows). (state_of o).scope) (sym seen.is) in
        let w₂ : st.swallow ≡ (state_of (reading this)).swallow = ap (λ (y : Kept). y.swallow) (sym seen.state) ∙ ap (λ (o : Reply Rows). (state_of o).swallow) (sym seen.is) in
        let o : t ≡ lined s x.draft d.count.0 = x.lines d st h in
        let u : d.count.0 ≤ room row_width x.draft = omega (arith, i, ap (λ (y : List ℕ). room row_width y) o, ap (◌/ row_width) (lined_length s x.draft d.count.0)) in
        let whole : Holds row_width t (row_words s (rows_of (reading this))) =
        subst (λ (y : List ℕ). Holds row_width y (row_words s (rows_of (reading this)))) (sym o) (holds_lined s x.draft (rows_of (reading this)) d.count.0 k₁ u held_rows) in
        let t₁ = a ∙ filled_so rows i whole in
        let t₂ = b ∙ filled_so errors j held_log.errors in
        let t₃ = c ∙ filled_so requests k held_log.requests in
        record { outcome_is = same_outcome k₁ k₂ k₃ w₁ w₂ t₁ t₂ t₃ ∙ sym (ap (settled this) z) }
      where
        filled_so : (y : Kind) → kept_of y ≤ room (width y) (lent y this) → Holds (width y) (lent y this) (words y this)
            → take (kept_of y * width y) (lent y this) ++ zeros (length (lent y this) - kept_of y * width y) ≡ filled (words y this) (lent y this)
        filled_so y g v =
            let o : kept_of y * width y ≡ length (words y this) = ap (λ (m : ℕ). m * width y) (kept_is y) ∙ sym (words_are y this) in
            holds_filled (width y) (lent y this) (words y this) (kept_of y * width y) v (omega (arith, mul-le-mul_right (width y) g, o)) o

        enough : (y : Kind) → Enough y this
        enough rows = omega (arith, kept_is rows)
        enough errors = omega (arith, kept_is errors)
        enough requests = omega (arith, kept_is requests)

-- Tables of the same lengths: past refusals 1 to 4 the outcome does not look at what they held -----------------

late : (s : List ℕ) (n : ℕ) (f : Bool) (l : ℕ) (t e q : List ℕ) → length s ≤ max_text → first_high 0 s ≡ none → n ≤ max_scope → l ≤ max_level
    → refusal (call s n f l t e q) ≡ first (when (ltb l (state_of (written s n f)).peak) 5 l ∷ short? rows (call s n f l t e q) ∷ short? errors (call s n f l t e q) ∷ short? requests (call s n f l t e q) ∷ [])
unfolding refusal needs
late s n f l t e q a b c d = rw (le-ltb max_text (length s) a, b, le-ltb max_scope n c, le-ltb max_level l d)

-- one of the last four refusals, or none
settled_same : (c d : Call) (a b g h : Bool) (i j k m : ℕ) → ((x : Test) → x ≡ none → settled c x ≡ settled d x) → ((n y : ℕ) → 4 < n → settled c (some (n, y)) ≡ settled d (some (n, y)))
    → settled c (first (when a 5 i ∷ when b 6 j ∷ when g 7 k ∷ when h 8 m ∷ [])) ≡ settled d (first (when a 5 i ∷ when b 6 j ∷ when g 7 k ∷ when h 8 m ∷ []))
settled_same c d true b g h i j k m x y = y 5 i (omega arith)
settled_same c d false true g h i j k m x y = y 6 j (omega arith)
settled_same c d false false true h i j k m x y = y 7 k (omega arith)
settled_same c d false false false true i j k m x y = y 8 m (omega arith)
settled_same c d false false false false i j k m x y = x none refl

left_same : (m : ℕ) → 4 < m → (u u₀ : List ℕ) → length u ≡ length u₀ → left m u ≡ left m u₀
left_same m h u u₀ i = rw (lt-leb m 4 h) (filled_same [] u u₀ i)

module _ (s : List ℕ) (n : ℕ) (f : Bool) (l : ℕ) (t t₀ e e₀ q q₀ : List ℕ) (a : length t ≡ length t₀) (b : length e ≡ length e₀) (c : length q ≡ length q₀) where
  tables_same : (m y : ℕ) → 4 < m → settled (call s n f l t e q) (some (m, y)) ≡ settled (call s n f l t₀ e₀ q₀) (some (m, y))
  tables_same m y h =
      let x₁ = left_same m h t t₀ a in
      let x₂ = left_same m h e e₀ b in
      let x₃ = left_same m h q q₀ c in
      rw (x₁, x₂, x₃)

  answer_same : (x : Test) → x ≡ none → settled (call s n f l t e q) x ≡ settled (call s n f l t₀ e₀ q₀) x
  unfolding needs
  answer_same x h =
      let x₁ = filled_same (row_words s (rows_of (written s n f))) t t₀ a in
      let x₂ = filled_same (error_words (state_of (written s n f)).errors) e e₀ b in
      let x₃ = filled_same (request_words (state_of (written s n f)).requests) q q₀ c in
      rw (h, x₁, x₂, x₃)

  tests_same : refusal (call s n f l t e q) ≡ refusal (call s n f l t₀ e₀ q₀)
  unfolding refusal needs
  tests_same = rw (a, b, c)

  pub lengths_same : length s ≤ max_text → first_high 0 s ≡ none → n ≤ max_scope → l ≤ max_level → outcome (call s n f l t e q) ≡ outcome (call s n f l t₀ e₀ q₀)
  unfolding outcome
  lengths_same h i j k =
      ap (settled (call s n f l t e q)) (tests_same ∙ late s n f l t₀ e₀ q₀ h i j k)
      ∙ settled_same (call s n f l t e q) (call s n f l t₀ e₀ q₀) (ltb l (state_of (written s n f)).peak) (tight rows (call s n f l t₀ e₀ q₀)) (tight errors (call s n f l t₀ e₀ q₀)) (tight requests (call s n f l t₀ e₀ q₀))
      l (need rows (call s n f l t₀ e₀ q₀)) (need errors (call s n f l t₀ e₀ q₀)) (need requests (call s n f l t₀ e₀ q₀)) answer_same tables_same
      ∙ sym (ap (settled (call s n f l t₀ e₀ q₀)) (late s n f l t₀ e₀ q₀ h i j k))

-- The first four refusals --------------------------------------------------

module _ (s : List ℕ) (n : ℕ) (f : Bool) (l : ℕ) (t e q : List ℕ) where
  pub long_meets : max_text < length s → Meets (call s n f l t e q) t e q (Err (TooLong (length s)))
  unfolding outcome refusal
  long_meets h = record { outcome_is = rw (lt-ltb max_text (length s) h) }

  pub high_meets : (i : ℕ) → length s ≤ max_text → some i ≡ first_high 0 s → Meets (call s n f l t e q) t e q (Err (HighByte i))
  unfolding outcome refusal
  high_meets i a h = record { outcome_is = rw (le-ltb max_text (length s) a, sym h) }

  pub scope_meets : length s ≤ max_text → none ≡ first_high 0 s → max_scope < n → Meets (call s n f l t e q) t e q (Err (ScopeTooLarge n))
  unfolding outcome refusal
  scope_meets a b h = record { outcome_is = rw (le-ltb max_text (length s) a, sym b, lt-ltb max_scope n h) }

  pub level_meets : length s ≤ max_text → none ≡ first_high 0 s → n ≤ max_scope → max_level < l → Meets (call s n f l t e q) t e q (Err (LevelTooLarge l))
  unfolding outcome refusal
  level_meets a b c h = record { outcome_is = rw (le-ltb max_text (length s) a, sym b, le-ltb max_scope n c, lt-ltb max_level l h) }

-- What the reader of a source file has done, from the start ----------------------------------------------------

pub does_so : (s : List ℕ) (n : ℕ) (f : Bool) (l : ℕ) {r : Done} (t₀ e₀ q₀ t e q : List ℕ) → length s ≤ max_text → none ≡ first_high 0 s → n ≤ max_scope → l ≤ max_level
    → Lined source_file s (cursor 0 0 false) (record { scope = n; swallow = f; errors = 0; requests = 0 }) l (tables t₀ e₀ q₀) (tables t e q) r → ReadSo s n f l r (tables t e q)
unfolding written rules
does_so s n f l {r} t₀ e₀ q₀ t e q a b c d x =
    record {
      short = a;
      plain = sym b;
      scope = c;
      level = d;
      t₀ = t₀;
      e₀ = e₀;
      q₀ = q₀;
      draft = x.draft;
      lines = x.lines;
      acts = subst (λ (m : ℕ). Acts (written s n f) m 0 [] (log (start n f)) (tables t₀ e₀ q₀) (tables x.draft e q) r) (zero-add l)
          ((x.does.acting 0).doing.acts (start n f) refl (omega arith));
    }

-- an outcome for the tables as they were lent
pub meets_lent : (s : List ℕ) (n : ℕ) (f : Bool) (l : ℕ) (t t₀ e e₀ q q₀ t' e' q' : List ℕ) (r : Answer) → length t ≡ length t₀ → length e ≡ length e₀ → length q ≡ length q₀
    → length s ≤ max_text → none ≡ first_high 0 s → n ≤ max_scope → l ≤ max_level → Meets (call s n f l t e q) t' e' q' r → Meets (call s n f l t₀ e₀ q₀) t' e' q' r
meets_lent s n f l t t₀ e e₀ q q₀ t' e' q' r a b c h i j k m =
    record { outcome_is = same r ∙ m.outcome_is ∙ lengths_same s n f l t t₀ e e₀ q q₀ a b c h (sym i) j k }
  where
    same : (r : Answer)
        → ◌≡◌ {A = Outcome} (record { answer = told r; scope = end_scope (call s n f l t₀ e₀ q₀) r; swallow = end_swallow (call s n f l t₀ e₀ q₀) r; rows = t'; errors = e'; requests = q' })
        (record { answer = told r; scope = end_scope (call s n f l t e q) r; swallow = end_swallow (call s n f l t e q) r; rows = t'; errors = e'; requests = q' })
    same (Ok x) = refl
    same (Err x) = refl

-- the tables as they come back out of the struct
pub meets_back : {c : Call} {t e q : List ℕ} {r : Answer} → Meets c t e q r → (t' e' q' : List ℕ) → t' ≡ t → e' ≡ e → q' ≡ q → Meets c t' e' q' r
meets_back m t' e' q' a b d = rw (a, b, d) m
