-- The loop over items: a continuation. From each state at its start there is a state now, and whatever the rest answers from there, the whole
-- answers. It begins with the identity, each turn composes one item, the exit applies it.
use mathlib.Core.Path.{◌≡◌, refl, ap, sym, ◌∙◌}
use mathlib.Core.Bool.{Bool, true, false}
use mathlib.Core.List.{List, [], ◌∷◌, ◌++◌, append-nil, append_assoc}
use Prim.Native.Nat.{ℕ, ◌+◌, ◌≤◌, ◌<◌}
use native.Mathlib.Omega.{arith}
use borrow.Author.Tests.{lt-ltb}
use lib.Dec.{T as Passes, ltb}
use lib.ListN.{length, drop, length-append, length-drop}
use Rattle.reading.specs.Grammar.{Rows, State, Reply, ok, err, Parser, many0, joined, parse, then, with, gate, last_round, next_round, rounds}
use Rattle.reading.proofs.Moves.{moves}
use Rattle.reading.proofs.Trees.{peak_of, Belows, Sound, sound, reads_sound, rounds_sound}
use Rattle.cursor.specs.Text.{here, cursor}
use Rattle.cursor.specs.declared.Cursor.{Cursor}
use Rattle.state.specs.declared.State.{State as Counts}
use Rattle.state.specs.Done.{Done}
use Rattle.state.specs.Acts.{counts, log, Tables, rules, state_after, Acts, Does, Fit}
use Rattle.state.proofs.Agree.{found, lost, deep, found_at, acts_is, acts_deep, acts_ok, acts_found, acts_lost}
use Rattle.state.proofs.Lift.{acting_from}
use Rattle.state.proofs.Laws.{lies}
use Rattle.state.proofs.Bounds.{sober, settled, moved, acted, fit_got}
use Rattle.cursor.specs.declared.Stop.TheVariants.{Miss, Deep}
use Rattle.std.specs.Prelude.{Ok, Err}

-- Rounds -------------------------------------------------------------------

with_tail : (f g : List Rows → Rows) (v : Rows) (o : Reply (List Rows)) → ((vs : List Rows) → f (v ∷ vs) ≡ g vs)
    → with f (then o λ rest r u. ok (v ∷ rest) r u) ≡ with g o
with_tail f g v (ok vs q u) h = ap (λ (z : Rows). ok z q u) (h vs)
with_tail f g v (err u) h = refl

peak_with : (f : List Rows → Rows) (o : Reply (List Rows)) → peak_of o ≤ (state_after (with f o)).peak
unfolding state_after
peak_with f (ok v q w) = omega arith
peak_with f (err w) = omega arith

peak_tail : (v : Rows) (k : ℕ) (o : Reply (List Rows)) → Sound Belows k o → k ≤ peak_of (then o λ rest r u. ok (v ∷ rest) r u)
peak_tail v k (ok vs q u) h = h.rises
peak_tail v k (err u) h = h.rises

module _ (m : Parser) (s : List ℕ) (l : ℕ) where
  -- what is left of the items after the rows acc
  unfoldable pub items_left : List ℕ → Rows → ℕ → State → Reply Rows
  items_left f acc i w = with (λ vs. acc ++ joined vs) (rounds (parse (rules s) m) f l (here s i) w)

  items_all : (i : ℕ) (w : State) → parse (rules s) (many0 m) l (here s i) w ≡ items_left (drop i s) [] i w
  unfolding items_left
  items_all i w = refl

  -- one more item
  items_go : (b : ℕ) (f : List ℕ) (acc v : Rows) (i j : ℕ) (w u : State) → parse (rules s) m l (here s i) w ≡ ok v (here s j) u → i < j
      → items_left (b ∷ f) acc i w ≡ items_left f (acc ++ v) j u
  unfolding items_left
  items_go b f acc v i j w u e h =
      let rest = rounds (parse (rules s) m) f l (here s j) u in
      ap (λ o. with (λ vs. acc ++ joined vs) (next_round (here s i) o λ q v. rounds (parse (rules s) m) f l q v)) e
      ∙ ap (λ y. with (λ vs. acc ++ joined vs) (gate y u λ t. then rest λ vs r x. ok (v ∷ vs) r x)) (lt-ltb i j h)
      ∙ with_tail (λ vs. acc ++ joined vs) (λ vs. (acc ++ v) ++ joined vs) v rest (λ vs. sym (append_assoc acc v (joined vs)))

  -- no more
  items_end : (f : List ℕ) (acc : Rows) (i : ℕ) (w u : State) → parse (rules s) m l (here s i) w ≡ err u → items_left f acc i w ≡ ok (acc ++ []) (here s i) u
  unfolding items_left
  items_end [] acc i w u e = ap (λ o. with (λ vs. acc ++ joined vs) (last_round (here s i) o)) e
  items_end (b ∷ f) acc i w u e = ap (λ o. with (λ vs. acc ++ joined vs) (next_round (here s i) o λ q v. rounds (parse (rules s) m) f l q v)) e

  -- where an item went, the rounds went
  items_peak : (f : List ℕ) (acc : Rows) (i : ℕ) (w : State) → (state_after (parse (rules s) m l (here s i) w)).peak ≤ (state_after (items_left f acc i w)).peak
  unfolding items_left state_after rules
  items_peak f acc i w = omega (arith, item f, peak_with (λ vs. acc ++ joined vs) (rounds (parse (rules s) m) f l (here s i) w))
    where
      last : (o : Reply Rows) → (state_after o).peak ≤ peak_of (last_round (here s i) o)
      last (ok v q u) = omega arith
      last (err u) = omega arith

      gated : (b : Bool) (u : State) (o : Unit {0} → Reply (List Rows)) → u.peak ≤ peak_of (o tt) → u.peak ≤ peak_of (gate b u o)
      gated true u o h = h
      gated false u o h = omega arith

      next : (f : List ℕ) (o : Reply Rows) → (state_after o).peak ≤ peak_of (next_round (here s i) o λ q v. rounds (parse (rules s) m) f l q v)
      next f (ok v q u) =
          gated (ltb i q.at) u (λ t. then (rounds (parse (rules s) m) f l q u) λ rest r u. ok (v ∷ rest) r u)
          (peak_tail v u.peak (rounds (parse (rules s) m) f l q u)
          (rounds_sound (parse (rules s) m) (sound (rules s) (reads_sound (length s)) m) f l q u))
      next f (err u) = omega arith

      item : (f : List ℕ) → (state_after (parse (rules s) m l (here s i) w)).peak ≤ peak_of (rounds (parse (rules s) m) f l (here s i) w)
      item [] = last (parse (rules s) m l (here s i) w)
      item (x ∷ f) = next f (parse (rules s) m l (here s i) w)

-- The loop -----------------------------------------------------------------

-- from the state w₀ at the start: the state now, and how the rest is put behind what was read
pub record Carried (m : Parser) (s : List ℕ) (l lim at₀ count₀ : ℕ) (w₀ : State) (T₀ : Tables) (at count : ℕ) (st : Counts) (T : Tables) : Type 0 where
  pub acc : Rows
  pub fuel : List ℕ
  pub w : State
  pub state : counts w ≡ st
  pub low : w.peak ≤ lim
  pub rows : count ≡ count₀ + length acc
  pub enough : length s ≤ length fuel + at
  pub back : (T' : Tables) (r : Done) → Acts (items_left m s l fuel acc at w) lim count₀ acc (log w) T T' r
      → Acts (items_left m s l (drop at₀ s) [] at₀ w₀) lim count₀ [] (log w₀) T₀ T' r

-- the loop's invariant: where it began, with which counts and tables, and where it is
pub record Walking (m : Parser) (s : List ℕ) (left at₀ count₀ : ℕ) (st₀ : Counts) (T₀ : Tables) (at count : ℕ) (st : Counts) (T : Tables) : Type 0 where
  pub fit : Fit 0 s (cursor at count false) st
  pub rows_length : length T.rows ≡ length T₀.rows
  pub errors_length : length T.errors ≡ length T₀.errors
  pub requests_length : length T.requests ≡ length T₀.requests
  pub carries : (l : ℕ) (w₀ : State) → counts w₀ ≡ st₀ → w₀.peak ≤ l + left → Carried m s l (l + left) at₀ count₀ w₀ T₀ at count st T

pub walking_none : (m : Parser) {s : List ℕ} (left : ℕ) {c : Cursor} {st : Counts} (T : Tables) → Fit 0 s c st
    → Walking m s left c.at.0 c.count.0 st T c.at.0 c.count.0 st T
walking_none m {s} left {c} T h =
    record {
      fit = record { small = h.small; within = h.within; few = h.few; charged = h.charged; scopes = h.scopes; requests = h.requests };
      rows_length = refl;
      errors_length = refl;
      requests_length = refl;
      carries = λ l w₀ p k. record {
        acc = [];
        fuel = drop c.at.0 s;
        w = w₀;
        state = p;
        low = k;
        rows = omega arith;
        enough = omega (arith, length-drop c.at.0 s);
        back = λ T' r a. a;
      };
    }

-- one turn, at a level and from a state
module _ {m : Parser} {s : List ℕ} {left at₀ count₀ : ℕ} {T₀ : Tables} {at count : ℕ} {st : Counts} {T T₁ : Tables} {r₁ : Done}
    (a : Does m s (cursor at count false) st left T T₁ r₁) (l : ℕ) (w₀ : State) (g : Carried m s l (l + left) at₀ count₀ w₀ T₀ at count st T) where
  turn : (d : Cursor) (x : Counts) → r₁ ≡ Ok (d, x) → at < d.at.0 → d.at.0 ≤ length s → (fu : List ℕ) → g.fuel ≡ fu
      → Carried m s l (l + left) at₀ count₀ w₀ T₀ d.at.0 d.count.0 x T₁
  turn d x q on within [] i = absurd (let z : ⊥ = omega (arith, g.enough, ap length i) in z)
  turn d x q on within (c ∷ fu) i =
      let y = (a.acting l).doing.acts g.w g.state g.low in
      let f = found (l + left) count (parse (rules s) m l (here s at) g.w) d x (sym q ∙ y.answer) in
      record {
        acc = g.acc ++ f.v;
        fuel = fu;
        w = f.w;
        state = f.state;
        low = f.low;
        rows = omega (arith, f.count, g.rows, length-append g.acc f.v);
        enough = omega (arith, g.enough, ap length i);
        back = λ T' r h. g.back T' r
            (acts_is
            (ap (λ z. items_left m s l z g.acc at g.w) i
            ∙ items_go m s l c fu g.acc f.v at d.at.0 g.w f.w (found_at s f (lies s m l at g.w)) on)
            (acts_found g.acc f g.rows y h));
      }

  stop : (x : Counts) → r₁ ≡ Err (Miss x)
      → Acts (items_left m s l (drop at₀ s) [] at₀ w₀) (l + left) count₀ [] (log w₀) T₀ T₁ (Ok (cursor at count false, x))
  stop x q =
      let y = (a.acting l).doing.acts g.w g.state g.low in
      let f = lost (l + left) count (parse (rules s) m l (here s at) g.w) x (sym q ∙ y.answer) in
      g.back T₁ (Ok (cursor at count false, x))
      (acts_is (items_end m s l g.fuel g.acc at g.w f.w f.is ∙ ap (λ (v : Rows). ok v (here s at) f.w) (append-nil g.acc))
      (acts_lost g.acc f g.rows y (acts_ok g.acc (here s at) f.w (l + left) count₀ T₁ (cursor at count false) x f.low refl g.rows refl f.state)))

  sink : r₁ ≡ Err Deep → Acts (items_left m s l (drop at₀ s) [] at₀ w₀) (l + left) count₀ [] (log w₀) T₀ T₁ (Err Deep)
  sink q =
      let y = (a.acting l).doing.acts g.w g.state g.low in
      let o = parse (rules s) m l (here s at) g.w in
      g.back T₁ (Err Deep)
      (acts_deep (l + left) count₀ (items_left m s l g.fuel g.acc at g.w)
      (omega (arith, deep (l + left) count o (sym q ∙ y.answer), items_peak m s l g.fuel g.acc at g.w)))

module _ {m : Parser} {s : List ℕ} {left at₀ count₀ : ℕ} {st₀ : Counts} {T₀ : Tables} {at count : ℕ} {st : Counts} {T : Tables}
    (u : Walking m s left at₀ count₀ st₀ T₀ at count st T) {T₁ : Tables} {r₁ : Done} (a : Does m s (cursor at count false) st left T T₁ r₁) where
  -- an item was read, and the loop goes on behind it
  pub walking_less : Passes (sober m) → Passes (moves m) → (d : Cursor) (x : Counts) → r₁ ≡ Ok (d, x) → (at < d.at.0) × (d.at.0 ≤ length s)
  walking_less t v d x q = (moved m u.fit.within (a.acting 0) v d x q, (acted m u.fit.within (a.acting 0) t d x q).within)

  pub walking_more : Passes (sober m) → Passes (settled m) → Passes (moves m) → (d : Cursor) (x : Counts) → r₁ ≡ Ok (d, x)
      → length T₁.rows ≡ length T.rows → length T₁.errors ≡ length T.errors → length T₁.requests ≡ length T.requests
      → Walking m s left at₀ count₀ st₀ T₀ d.at.0 d.count.0 x T₁
  walking_more t z v d x q i j k =
      let y = walking_less t v d x q in
      let f = fit_got u.fit m t z (a.acting 0) d x q in
      record {
        fit = record { small = f.small; within = f.within; few = f.few; charged = f.charged; scopes = f.scopes; requests = f.requests };
        rows_length = i ∙ u.rows_length;
        errors_length = j ∙ u.errors_length;
        requests_length = k ∙ u.requests_length;
        carries = λ l w₀ p j. let g = u.carries l w₀ p j in turn a l w₀ g d x q y.0 y.1 g.fuel refl;
      }

  -- no item fits: the loop has read what it is to read
  pub walking_end : (met₀ : Bool) (x : Counts) → r₁ ≡ Err (Miss x) → Does (many0 m) s (cursor at₀ count₀ met₀) st₀ left T₀ T₁ (Ok (cursor at count false, x))
  walking_end met₀ x q =
      record { acting = λ l. acting_from λ w₀ p j. acts_is (items_all m s l at₀ w₀) (stop a l w₀ (u.carries l w₀ p j) x q) }

  pub walking_deep : (met₀ : Bool) → r₁ ≡ Err Deep → Does (many0 m) s (cursor at₀ count₀ met₀) st₀ left T₀ T₁ (Err Deep)
  walking_deep met₀ q =
      record { acting = λ l. acting_from λ w₀ p j. acts_is (items_all m s l at₀ w₀) (sink a l w₀ (u.carries l w₀ p j) q) }
