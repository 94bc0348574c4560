-- How agreement over a state is put together: one step for each way in which a reader goes on. The replies are any: nothing here knows a parser.
use mathlib.Core.Logic.{⊎_elim}
use mathlib.Core.Path.{◌≡◌, refl, ap, ap₂, sym, subst, ◌∙◌}
use mathlib.Core.Bool.{Bool, true, false}
use mathlib.Core.List.{List, [], ◌∷◌, ◌++◌, append-nil, append_assoc}
use Prim.Native.Nat.{ℕ, ◌+◌, ◌≤◌, ◌<◌}
use native.Mathlib.Omega.{arith}
use borrow.Author.Tests.{lt-ltb, le-ltb, ltb-true, ltb-false}
use lib.Dec.{ltb}
use lib.ListN.{length, length-append}
use Rattle.reading.specs.Grammar.{Row, Rows, State, Input, Reply, ok, err, then, else, with}
use Rattle.reading.specs.Table.{row_width}
use Rattle.table.specs.Words.{HoldsRows, pushed, record_of}
use Rattle.table.proofs.Holds.{holds_push, holds_prefix}
use Rattle.cursor.specs.Text.{here, cursor}
use Rattle.cursor.specs.declared.Cursor.{Cursor}
use Rattle.state.specs.declared.State.{State as Counts}
use Rattle.state.specs.Done.{Done}
use Rattle.state.specs.Acts.{counts, Log, log, Tables, tables, Logged, deep_or, done_of, state_after, rows_read, Acts}
use Rattle.cursor.specs.declared.Stop.TheVariants.{Miss, Deep}
use Rattle.std.specs.Prelude.{Ok, Err, IsOk, IsErr, is_ok, is_err, ◌⊎◌}

-- Answers ------------------------------------------------------------------

-- what an end and a miss say of the reply
pub record Found (o : Reply Rows) (lim base : ℕ) (d : Cursor) (st : Counts) : Type 0 where
  pub v : Rows
  pub q : Input
  pub w : State
  pub is : o ≡ ok v q w
  pub low : w.peak ≤ lim
  pub at : d.at.0 ≡ q.at
  pub count : d.count.0 ≡ base + length v
  pub clear : d.met ≡ false
  pub state : counts w ≡ st

pub record Lost (o : Reply Rows) (lim : ℕ) (st : Counts) : Type 0 where
  pub w : State
  pub is : o ≡ err w
  pub low : w.peak ≤ lim
  pub state : counts w ≡ st

got_is : (d e : Cursor) (x y : Counts) → ◌≡◌ {A = Done} (Ok (d, x)) (Ok (e, y)) → (d ≡ e) × (x ≡ y)
got_is d e x y h =
    let p : ◌≡◌ {A = Cursor × Counts} (d, x) (e, y) = cc in (ap (λ (q : Cursor × Counts). q.0) p, ap (λ (q : Cursor × Counts). q.1) p)

miss_is : (x y : Counts) → ◌≡◌ {A = Done} (Err (Miss x)) (Err (Miss y)) → x ≡ y
miss_is x y h = cc

pub got_deep : (d : Cursor) (x : Counts) → ◌≡◌ {A = Done} (Ok (d, x)) (Err Deep) → ⊥
got_deep d x h = let z : ◌≡◌ {A = ℕ} 0 1 = cc in omega arith

pub got_miss : (d : Cursor) (x y : Counts) → ◌≡◌ {A = Done} (Ok (d, x)) (Err (Miss y)) → ⊥
got_miss d x y h = let z : ◌≡◌ {A = ℕ} 0 1 = cc in omega arith

pub miss_deep : (x : Counts) → ◌≡◌ {A = Done} (Err (Miss x)) (Err Deep) → ⊥
miss_deep x h = let z : ◌≡◌ {A = ℕ} 0 1 = cc in omega arith

-- an answer that is known to be none of a kind
pub not_got : {r : Done} {p : Cursor × Counts} → r ≡ Ok p → IsErr r → ⊥
not_got q h = let z : ◌≡◌ {A = Bool} false true = sym (ap is_err q) ∙ h in cc

pub not_miss : (r : Done) → IsOk r ⊎ (r ≡ Err Deep) → (x : Counts) → r ≡ Err (Miss x) → ⊥
not_miss r h x e =
    ⊎_elim (λ (y : IsOk r). let z : ◌≡◌ {A = Bool} true false = sym y ∙ ap is_ok e in let w : ◌≡◌ {A = ℕ} 0 1 = cc in omega arith)
    (λ (y : r ≡ Err Deep). miss_deep x (sym e ∙ y)) h

module _ (lim base : ℕ) where
  -- the answers within the limit
  abbrev got_at : Rows → Input → State → Done
  got_at v q w = Ok (cursor q.at (base + length v) false, counts w)

  pub found : (o : Reply Rows) (d : Cursor) (x : Counts) → Ok (d, x) ≡ done_of lim base o → Found o lim base d x
  unfolding done_of
  found (ok v q w) d x h = go (ltb lim w.peak) refl h
    where
      go : (b : Bool) → ltb lim w.peak ≡ b → Ok (d, x) ≡ deep_or b (got_at v q w) → Found (ok v q w) lim base d x
      go true e z = absurd (got_deep d x z)
      go false e z =
          let g = got_is d _ x _ z in
          record {
            v = v;
            q = q;
            w = w;
            is = refl;
            low = ltb-false lim w.peak e;
            at = ap (λ (c : Cursor). c.at.0) g.0;
            count = ap (λ (c : Cursor). c.count.0) g.0;
            clear = ap (λ (c : Cursor). c.met) g.0;
            state = sym g.1;
          }
  found (err w) d x h = absurd (go (ltb lim w.peak) h)
    where
      go : (b : Bool) → Ok (d, x) ≡ deep_or b (Err (Miss (counts w))) → ⊥
      go true z = got_deep d x z
      go false z = got_miss d x _ z

  pub lost : (o : Reply Rows) (x : Counts) → Err (Miss x) ≡ done_of lim base o → Lost o lim x
  unfolding done_of
  lost (ok v q w) x h = absurd (go (ltb lim w.peak) h)
    where
      go : (b : Bool) → Err (Miss x) ≡ deep_or b (got_at v q w) → ⊥
      go true z = miss_deep x z
      go false z = got_miss _ _ x (sym z)
  lost (err w) x h = go (ltb lim w.peak) refl h
    where
      go : (b : Bool) → ltb lim w.peak ≡ b → Err (Miss x) ≡ deep_or b (Err (Miss (counts w))) → Lost (err w) lim x
      go true e z = absurd (miss_deep x z)
      go false e z = record { w = w; is = refl; low = ltb-false lim w.peak e; state = sym (miss_is x _ z) }

  pub deep : (o : Reply Rows) → Err Deep ≡ done_of lim base o → lim < (state_after o).peak
  unfolding done_of state_after
  deep (ok v q w) h = go (ltb lim w.peak) refl h
    where
      go : (b : Bool) → ltb lim w.peak ≡ b → Err Deep ≡ deep_or b (got_at v q w) → lim < w.peak
      go true e z = ltb-true lim w.peak e
      go false e z = absurd (got_deep _ _ (sym z))
  deep (err w) h = go (ltb lim w.peak) refl h
    where
      go : (b : Bool) → ltb lim w.peak ≡ b → Err Deep ≡ deep_or b (Err (Miss (counts w))) → lim < w.peak
      go true e z = ltb-true lim w.peak e
      go false e z = absurd (miss_deep _ (sym z))

  -- too deep
  pub acts_deep : (o : Reply Rows) {acc : Rows} {b : Log} {T T' : Tables} → lim < (state_after o).peak → Acts o lim base acc b T T' (Err Deep)
  unfolding done_of state_after
  acts_deep o h = record { answer = go o h; rows = λ k. absurd (let z : ⊥ = omega arith in z); logged = λ k. absurd (let z : ⊥ = omega arith in z) }
    where
      go : (o : Reply Rows) → lim < (state_after o).peak → Err Deep ≡ done_of lim base o
      go (ok v q w) h = sym (ap (λ (x : Bool). deep_or x (got_at v q w)) (lt-ltb lim w.peak h))
      go (err w) h = sym (ap (λ (x : Bool). deep_or x (Err (Miss (counts w)))) (lt-ltb lim w.peak h))

-- Steps --------------------------------------------------------------------

-- the reply is another one that is equal
pub acts_is : {o o' : Reply Rows} {lim base : ℕ} {acc : Rows} {b : Log} {T T' : Tables} {r : Done}
    → o ≡ o' → Acts o' lim base acc b T T' r → Acts o lim base acc b T T' r
acts_is {lim = lim} {base = base} {acc = acc} {b = b} {T = T} {T' = T'} {r = r} e a = subst (λ x. Acts x lim base acc b T T' r) (sym e) a

-- the rows are read: those collected are the value
pub acts_ok : (v : Rows) (q : Input) (w : State) (lim base : ℕ) (T : Tables) (d : Cursor) (st : Counts)
    → w.peak ≤ lim → d.at.0 ≡ q.at → d.count.0 ≡ base + length v → d.met ≡ false → counts w ≡ st
    → Acts (ok v q w) lim base v (log w) T T (Ok (d, st))
unfolding done_of rows_read state_after
acts_ok v q w lim base T d st h x y z j =
    let e : d ≡ cursor q.at (base + length v) false = λ k. cursor (x k) (y k) (z k) in
    record {
      answer = ap₂ {C = Done} (λ (c : Cursor) (i : Counts). Ok (c, i)) e (sym j)
          ∙ sym (ap (λ (b : Bool). deep_or b (Ok (cursor q.at (base + length v) false, counts w))) (le-ltb lim w.peak h));
      rows = λ z pre y g. g;
      logged = λ z g. g;
    }

-- it does not fit: the rows collected are given up, the errors and requests stay
pub acts_err : (w : State) (lim base : ℕ) (acc : Rows) (T : Tables) (st : Counts)
    → w.peak ≤ lim → counts w ≡ st → Acts (err w) lim base acc (log w) T T (Err (Miss st))
unfolding done_of rows_read state_after
acts_err w lim base acc T st h j =
    record {
      answer = ap (λ (x : Counts). Err (Miss x)) (sym j) ∙ sym (ap (λ (x : Bool). deep_or x (Err (Miss (counts w)))) (le-ltb lim w.peak h));
      rows = λ z pre y g. rw append-nil (holds_prefix T.rows pre acc g);
      logged = λ z g. g;
    }

-- the tables are others, which hold what they have to
pub acts_from : {o : Reply Rows} {lim base : ℕ} {acc acc₁ : Rows} {b b₁ : Log} {T T₁ T' : Tables} {r : Done}
    → ((pre : Rows) → length pre ≡ base → HoldsRows T.rows (pre ++ acc) → HoldsRows T₁.rows (pre ++ acc₁)) → (Logged T b → Logged T₁ b₁)
    → Acts o lim base acc₁ b₁ T₁ T' r → Acts o lim base acc b T T' r
acts_from f g a = record { answer = a.answer; rows = λ k pre z h. a.rows k pre z (f pre z h); logged = λ k h. a.logged k (g h) }

-- a row is pushed
pub acts_push : {o : Reply Rows} {lim base : ℕ} (acc : Rows) {b : Log} (T : Tables) {T' : Tables} {r : Done} (n : ℕ) (x : Row) → n ≡ base + length acc
    → Acts o lim base (acc ++ (x ∷ [])) b (tables (pushed row_width T.rows n (record_of x)) T.errors T.requests) T' r
    → Acts o lim base acc b T T' r
acts_push acc T n x e a =
    acts_from
    (λ pre z g. rw (← (append_assoc pre acc (x ∷ []))) (holds_push T.rows (pre ++ acc) n x (omega (arith, length-append pre acc)) g))
    (λ g. record { errors = g.errors; requests = g.requests }) a

-- errors or requests were recorded
pub acts_told : {o : Reply Rows} {lim base : ℕ} {acc : Rows} {b b₁ : Log} {T T' : Tables} (e q : List ℕ) {r : Done}
    → (Logged T b → Logged (tables T.rows e q) b₁) → Acts o lim base acc b₁ (tables T.rows e q) T' r → Acts o lim base acc b T T' r
acts_told e q f a = acts_from (λ pre z g. g) f a

-- rows that were there stand in front of what is read
pub acts_with : (o : Reply Rows) {lim base : ℕ} (acc : Rows) {b : Log} {n : ℕ} {T T' : Tables} {r : Done}
    → n ≡ base + length acc → Acts o lim n [] b T T' r → Acts (with (acc ++◌) o) lim base acc b T T' r
unfolding done_of rows_read state_after
acts_with (ok v q w) {lim} {base} acc {b} {n} {T} {T'} i a =
    record {
      answer = a.answer
          ∙ ap (λ (i : ℕ). deep_or (ltb lim w.peak) (Ok (cursor q.at i false, counts w)))
          (let z : n + length v ≡ base + length (acc ++ v) = omega (arith, length-append acc v) in z);
      rows = λ h pre z g.
          let y : HoldsRows T'.rows ((pre ++ acc) ++ v) = a.rows h (pre ++ acc) (omega (arith, length-append pre acc)) (rw append-nil g) in
          rw append_assoc at y;
      logged = a.logged;
    }
acts_with (err w) acc {b} {n} {T} {T'} i a =
    record {
      answer = a.answer;
      rows = λ h pre z g.
          let y : HoldsRows T'.rows ((pre ++ acc) ++ []) = a.rows h (pre ++ acc) (omega (arith, length-append pre acc)) (rw append-nil g) in
          rw append-nil (holds_prefix T'.rows pre acc (rw append-nil at y));
      logged = a.logged;
    }

-- Callees ------------------------------------------------------------------

abbrev Keeps : ℕ → ℕ → Tables → Tables → Reply Rows → Type 0
Keeps lim n T T₁ o =
    (state_after o).peak ≤ lim → (pre : Rows) → length pre ≡ n → HoldsRows T.rows (pre ++ []) → HoldsRows T₁.rows (pre ++ rows_read o)

abbrev Logs : ℕ → Log → Tables → Tables → Reply Rows → Type 0
Logs lim b T T₁ o = (state_after o).peak ≤ lim → Logged T b → Logged T₁ (log (state_after o))

-- what a callee that read something left is where the rest begins
pub acts_found : {o x : Reply Rows} {lim base : ℕ} (acc : Rows) {b : Log} {n : ℕ} {T T₁ T' : Tables} {r₁ r : Done} {d : Cursor} {st : Counts}
    (f : Found o lim n d st) → n ≡ base + length acc → Acts o lim n [] b T T₁ r₁ → Acts x lim base (acc ++ f.v) (log f.w) T₁ T' r
    → Acts x lim base acc b T T' r
unfolding rows_read state_after
acts_found {o} {x} {lim} {base} acc {b} {n} {T} {T₁} f i a h =
    let kept : Keeps lim n T T₁ (ok f.v f.q f.w) = subst (Keeps lim n T T₁) f.is a.rows in
    acts_from
    (λ pre w y.
    let j : HoldsRows T₁.rows ((pre ++ acc) ++ f.v) = kept f.low (pre ++ acc) (omega (arith, length-append pre acc)) (rw append-nil y) in
    rw append_assoc at j)
    (subst (Logs lim b T T₁) f.is a.logged f.low) h

-- one that read nothing: its rows are given up, its errors stay
pub acts_lost : {o x : Reply Rows} {lim base : ℕ} (acc : Rows) {b : Log} {n : ℕ} {T T₁ T' : Tables} {r₁ r : Done} {st : Counts}
    (f : Lost o lim st) → n ≡ base + length acc → Acts o lim n [] b T T₁ r₁ → Acts x lim base acc (log f.w) T₁ T' r → Acts x lim base acc b T T' r
unfolding rows_read state_after
acts_lost {o} {x} {lim} {base} acc {b} {n} {T} {T₁} f i a h =
    let kept : Keeps lim n T T₁ (err f.w) = subst (Keeps lim n T T₁) f.is a.rows in
    acts_from
    (λ pre w y.
    let j : HoldsRows T₁.rows ((pre ++ acc) ++ []) = kept f.low (pre ++ acc) (omega (arith, length-append pre acc)) (rw append-nil y) in
    rw append-nil at j)
    (subst (Logs lim b T T₁) f.is a.logged f.low) h

-- the place of a reply is the text's
abbrev pub Lies : List ℕ → Reply Rows → Type 0
Lies s (ok v q w) = q ≡ here s q.at
Lies s (err w) = Unit {0}

pub found_at : (s : List ℕ) {o : Reply Rows} {lim n : ℕ} {d : Cursor} {st : Counts} (f : Found o lim n d st) → Lies s o → o ≡ ok f.v (here s d.at.0) f.w
found_at s f lie = f.is ∙ ap (λ q. ok f.v q f.w) (subst (Lies s) f.is lie ∙ ap (here s) (sym f.at))

-- a callee read something, and the rest goes on from there, in the state that it left
pub acts_got : (s : List ℕ) {o : Reply Rows} {lim base : ℕ} (acc : Rows) {b : Log} {n : ℕ} {T T₁ T' : Tables} {r₁ r : Done} (d : Cursor) (st : Counts)
    (f : Rows → Input → State → Reply Rows) → n ≡ base + length acc → Lies s o → Acts o lim n [] b T T₁ r₁ → r₁ ≡ Ok (d, st)
    → ((v : Rows) (w : State) → o ≡ ok v (here s d.at.0) w → d.count.0 ≡ base + length (acc ++ v) → d.met ≡ false → counts w ≡ st → w.peak ≤ lim
    → Acts (f v (here s d.at.0) w) lim base (acc ++ v) (log w) T₁ T' r)
    → Acts (then o f) lim base acc b T T' r
acts_got s {o} {lim} {base} acc {b} {n} {T} {T₁} {T'} {r₁} {r} d st f i lie a u g = go (found lim n o d st (sym u ∙ a.answer))
  where
    go : Found o lim n d st → Acts (then o f) lim base acc b T T' r
    go x =
        let z = found_at s x lie in
        acts_is (ap (λ o. then o f) z)
        (acts_found acc x i a (g x.v x.w z (omega (arith, x.count, length-append acc x.v)) x.clear x.state x.low))

-- a callee read nothing, and the rest goes on in the state that it left
pub acts_or : {o : Reply Rows} {lim base : ℕ} (acc : Rows) {b : Log} {n : ℕ} {T T₁ T' : Tables} {r₁ r : Done} (st : Counts) (f : State → Reply Rows)
    → n ≡ base + length acc → Acts o lim n [] b T T₁ r₁ → r₁ ≡ Err (Miss st)
    → ((w : State) → counts w ≡ st → w.peak ≤ lim → Acts (f w) lim base acc (log w) T₁ T' r) → Acts (else o f) lim base acc b T T' r
acts_or {o} {lim} {base} acc {b} {n} {T} {T₁} {T'} {r₁} {r} st f i a u g = go (lost lim n o st (sym u ∙ a.answer))
  where
    go : Lost o lim st → Acts (else o f) lim base acc b T T' r
    go x = acts_is (ap (λ o. else o f) x.is) (acts_lost acc x i a (g x.w x.state x.low))

-- what happens after a part never lowers the highest level
abbrev pub Rises : (Rows → Input → State → Reply Rows) → Type 0
Rises f = (v : Rows) (q : Input) (w : State) → w.peak ≤ (state_after (f v q w)).peak

pub peak_then : (o : Reply Rows) (f : Rows → Input → State → Reply Rows) → Rises f → (state_after o).peak ≤ (state_after (then o f)).peak
unfolding state_after
peak_then (ok v q w) f h = h v q w
peak_then (err w) f h = omega arith

pub peak_else : (o : Reply Rows) (f : State → Reply Rows) → ((w : State) → w.peak ≤ (state_after (f w)).peak) → (state_after o).peak ≤ (state_after (else o f)).peak
unfolding state_after
peak_else (ok v q w) f h = omega arith
peak_else (err w) f h = h w

-- a callee that read nothing, or went too deep, is the end of the reading
pub acts_out : {o : Reply Rows} {lim base : ℕ} (acc : Rows) {b : Log} {n : ℕ} {T T₁ : Tables} {r₁ : Done} (f : Rows → Input → State → Reply Rows)
    → Rises f → n ≡ base + length acc → Acts o lim n [] b T T₁ r₁ → IsErr r₁
    → Acts (then o f) lim base acc b T T₁ r₁
acts_out {o} {lim} {base} acc {b} {n} {T} {T₁} {r₁} f up i a h = go r₁ refl
  where
    missed : (x : Counts) → Lost o lim x → Acts (then o f) lim base acc b T T₁ (Err (Miss x))
    missed x g = acts_is (ap (λ o. then o f) g.is) (acts_lost acc g i a (acts_err g.w lim base acc T₁ x g.low g.state))

    go : (r : Done) → r₁ ≡ r → Acts (then o f) lim base acc b T T₁ r
    go (Ok (d, x)) q = absurd (not_got q h)
    go (Err (Miss x)) q = missed x (lost lim n o x (sym q ∙ a.answer))
    go (Err Deep) q = acts_deep lim base (then o f) (omega (arith, deep lim n o (sym q ∙ a.answer), peak_then o f up))

-- the first attempt read something, or went too deep
pub acts_first : {o : Reply Rows} (f : State → Reply Rows) → ((w : State) → w.peak ≤ (state_after (f w)).peak)
    → {lim base : ℕ} {acc : Rows} {b : Log} {T T' : Tables} {r : Done} → Acts o lim base acc b T T' r → ((x : Counts) → r ≡ Err (Miss x) → ⊥)
    → Acts (else o f) lim base acc b T T' r
acts_first {o} f up {lim} {base} {acc} {b} {T} {T'} {r} a h = go r refl
  where
    go : (x : Done) → r ≡ x → Acts (else o f) lim base acc b T T' r
    go (Ok (d, x)) q = let g = found lim base o d x (sym q ∙ a.answer) in acts_is (ap (λ o. else o f) g.is ∙ sym g.is) a
    go (Err (Miss x)) q = absurd (h x q)
    go (Err Deep) q =
        subst (λ (x : Done). Acts (else o f) lim base acc b T T' x) (sym q)
        (acts_deep lim base (else o f) (omega (arith, deep lim base o (sym q ∙ a.answer), peak_else o f up)))
