-- Rows with no span of their own: over their children, numbered as a scope, and an import's. What was read before the row is taken as one
-- sequence, however it was read; the row begins where its first child does.
use mathlib.Core.Path.{◌≡◌, refl, ap, ap₂, sym, subst, ◌∙◌}
use mathlib.Core.Bool.{Bool, false}
use mathlib.Core.List.{List, [], ◌++◌}
use Prim.Native.Nat.{ℕ, suc, ◌+◌, ◌≤◌}
use native.Mathlib.Omega.{arith}
use lib.Dec.{T as Passes}
use lib.ListN.{length, length-append}
use Rattle.reading.specs.Kind.{importᵏ}
use Rattle.reading.specs.Grammar.{Rows, State, Request, Input, Reply, ok, err, Parser, ◌▸◌, ◌or◌, node, over, scoped, import, numbered, requested, request_of, under, first_low}
use Rattle.reading.specs.Grammar.{parse, then, else, with, located}
use Rattle.reading.specs.Rules.{multiline_trivia, all_rules}
use Rattle.reading.specs.Summary.{touched, applied}
use Rattle.reading.specs.Table.{row_width}
use Rattle.reading.proofs.Tests.{quiet}
use Rattle.reading.proofs.Trees.{Each}
use Rattle.table.specs.Words.{pushed, row_record}
use Rattle.cursor.specs.Text.{here, cursor, Skips}
use Rattle.cursor.specs.Agree.{full}
use Rattle.cursor.specs.declared.Cursor.{Cursor}
use Rattle.cursor.specs.declared.Skip.{Skip}
use Rattle.cursor.proofs.Lows.{first_under}
use Rattle.state.specs.declared.State.{State as Counts}
use Rattle.state.specs.Done.{Done}
use Rattle.state.specs.Acts.{counts, Log, Tables, tables, rules, state_after, rows_read, Acts, Acting, Requested}
use Rattle.state.proofs.Agree.{Rises, peak_then, acts_is, acts_ok, acts_push, acts_told, acts_got, acts_out}
use Rattle.state.proofs.Reports.{next_scope, numbered_counts, requested_counts, requested_logged}
use Rattle.state.proofs.Lift.{acting_from, parse_is}
use Rattle.state.proofs.Laws.{lies, rises}
use Rattle.std.specs.Prelude.{Ok, IsErr}

-- Where a parser's first tree begins ---------------------------------------

-- wherever m fits at the place i, from a state that st stands for, its first tree begins at low
pub record Starts (m : Parser) (s : List ℕ) (l lim i : ℕ) (st : Counts) (low : ℕ) : Type 0 where
  pub first : (w : State) → counts w ≡ st → w.peak ≤ lim → Each (λ v. first_low v ≡ low) (parse (rules s) m l (here s i) w)

pub line_quiet : Passes (quiet multiline_trivia)
unfolding all_rules
line_quiet = tt

-- a node begins where its trivia ends
pub starts_node : (k : ℕ) (d : Rows → ℕ) {t : Parser} (m : Parser) → Passes (quiet t) → {s : List ℕ} {l lim i : ℕ} {st : Counts} {met : Bool} {x : Skip}
    → Skips t s i met x → Starts (node k d t m) s l lim i st x.at.0
starts_node k d {t} m u {s} {l} {lim} {i} {st} {met} {x} skip =
    record {
      first = λ w p j.
          let is = parse_is s t u i (omega (arith, skip.on, skip.within)) l w ∙ ap (λ o. applied (length s) o w) (skip.is (full s) l) in
          subst (λ o. Each (λ v. first_low v ≡ x.at.0) (located k d (here s i) o λ q v. parse (rules s) m l q v)) (sym is)
          (go (parse (rules s) m l (here s x.at.0) (touched (length s) skip.open? 0 w)));
    }
  where
    go : (o : Reply Rows) → Each (λ v. first_low v ≡ x.at.0) (then o λ v q u. ok (under k (d v) i x.at.0 q.at v) q u)
    go (ok v q u) = first_under k (d v) i x.at.0 q.at v
    go (err u) = tt

-- two alternatives begin at the same place
pub starts_or : {m n : Parser} {s : List ℕ} {l lim i : ℕ} {st : Counts} {low : ℕ}
    → Starts m s l lim i st low → ((lim : ℕ) (st : Counts) → Starts n s l lim i st low) → Starts (m or n) s l lim i st low
starts_or {m} {n} {s} {l} {lim} {i} {st} {low} a b = record { first = λ w p k. go (parse (rules s) m l (here s i) w) (a.first w p k) }
  where
    go : (o : Reply Rows) → Each (λ v. first_low v ≡ low) o → Each (λ v. first_low v ≡ low) (else o λ v. parse (rules s) n l (here s i) v)
    go (ok v q w) h = h
    go (err w) h = (b w.peak (counts w)).first w refl (omega arith)

-- a row with no span of its own begins where its first child does
pub starts_over : (k d : ℕ) {m : Parser} (n : Parser) {s : List ℕ} {l lim i : ℕ} {st : Counts} {low : ℕ}
    → Starts m s l lim i st low → Starts (over k d m n) s l lim i st low
starts_over k d {m} n {s} {l} {lim} {i} {st} {low} a = record { first = λ w p k. go (parse (rules s) m l (here s i) w) (a.first w p k) }
  where
    others : (v : Rows) (o : Reply Rows) → first_low v ≡ low
        → Each (λ v. first_low v ≡ low) (then o λ b r u. ok (under k d i (first_low v) r.at (v ++ b)) r u)
    others v (ok b r u) h = first_under k d i (first_low v) r.at (v ++ b) ∙ h
    others v (err u) h = tt

    go : (o : Reply Rows) → Each (λ v. first_low v ≡ low) o
        → Each (λ v. first_low v ≡ low) (then o λ a q v. then (parse (rules s) n l q v) λ b r u. ok (under k d i (first_low a) r.at (a ++ b)) r u)
    go (ok v q w) h = others v (parse (rules s) n l q w) h
    go (err w) h = tt

-- The first child and the others as one sequence ---------------------------

module _ (m n : Parser) (s : List ℕ) (l i : ℕ) (fin : ℕ → Rows → Input → State → Reply Rows) (w : State) where
  abbrev first_child : Reply Rows
  first_child = parse (rules s) m l (here s i) w

  over_is : then first_child (λ a q v. then (parse (rules s) n l q v) λ b r u. fin (first_low a) (a ++ b) r u)
      ≡ then (parse (rules s) (m ▸ n) l (here s i) w) (fin (first_low (rows_read first_child)))
  unfolding rows_read
  over_is = go first_child
    where
      others : (v : Rows) (o : Reply Rows) → then o (λ b r u. fin (first_low v) (v ++ b) r u) ≡ then (with (v ++◌) o) (fin (first_low v))
      others v (ok b r u) = refl
      others v (err u) = refl

      go : (o : Reply Rows) → then o (λ a q v. then (parse (rules s) n l q v) λ b r u. fin (first_low a) (a ++ b) r u)
          ≡ then (then o λ a q v. with (a ++◌) (parse (rules s) n l q v)) (fin (first_low (rows_read o)))
      go (ok v q u) = others v (parse (rules s) n l q u)
      go (err u) = refl

first_fits : {m : Parser} (n : Parser) {s : List ℕ} {l lim i : ℕ} {st : Counts} {low : ℕ} → Starts m s l lim i st low
    → (w : State) → counts w ≡ st → w.peak ≤ lim → (v : Rows) (q : Input) (u : State)
    → parse (rules s) (m ▸ n) l (here s i) w ≡ ok v q u → first_low (rows_read (parse (rules s) m l (here s i) w)) ≡ low
unfolding rows_read
first_fits {m} n {s} {l} {lim} {i} {st} {low} h w p k v q u e = go (parse (rules s) m l (here s i) w) (h.first w p k) e
  where
    go : (o : Reply Rows) → Each (λ v. first_low v ≡ low) o → then o (λ a q v. with (a ++◌) (parse (rules s) n l q v)) ≡ ok v q u → first_low (rows_read o) ≡ low
    go (ok a p x) h e = h
    go (err x) h e = absurd (let z : ◌≡◌ {A = ℕ} 0 1 = cc in let y : ⊥ = omega arith in y)

-- a row of y rows in all is pushed over what was read
row_pushed : (k i low dt : ℕ) (v : Rows) (d : Cursor) {lim base : ℕ} {T : Tables} (y : ℕ) → d.count.0 ≡ base + length v → y + base ≡ d.count.0 + 1
    → (t : List ℕ) → t ≡ pushed row_width T.rows d.count.0 (row_record k y i low d.at.0 dt) → {b : Log} {T' : Tables} {o : Reply Rows} {r : Done}
    → Acts o lim base (under k dt i low d.at.0 v) b (tables t T.errors T.requests) T' r → Acts o lim base v b T T' r
row_pushed k i low dt v d {lim} {base} {T} y c size t e {b} {T'} {o} {r} a =
    let z : y ≡ suc (length v) = omega arith in
    acts_push v T d.count.0 (record { kind = k; size = suc (length v); tlow = i; low = low; high = d.at.0; detail = dt }) c
    (subst (λ t. Acts o lim base (under k dt i low d.at.0 v) b (tables t T.errors T.requests) T' r)
    (e ∙ ap (λ y. pushed row_width T.rows d.count.0 (row_record k y i low d.at.0 dt)) z) a)

under_length : (k dt i low z : ℕ) (v : Rows) → length (under k dt i low z v) ≡ length v + 1
under_length k dt i low z v = length-append v _

-- Over and scoped ----------------------------------------------------------

-- what is made of what was read: the row from `low`, and the state
abbrev over_fin : ℕ → ℕ → ℕ → ℕ → Rows → Input → State → Reply Rows
over_fin k dt i low v r u = ok (under k dt i low r.at v) r u

abbrev scoped_fin : ℕ → ℕ → ℕ → Rows → Input → State → Reply Rows
scoped_fin k i low v r u = ok (under k (suc u.scope) i low r.at v) r (numbered u)

module _ {m n : Parser} {s : List ℕ} {l lim i base : ℕ} {st : Counts} {T T₁ : Tables} {r₁ : Done} (a : Acting (m ▸ n) s l lim i base st T T₁ r₁) where
  -- the children do not fit, or are too deep
  pub over_out : (k dt : ℕ) → IsErr r₁ → Acting (over k dt m n) s l lim i base st T T₁ r₁
  unfolding state_after
  over_out k dt h =
      acting_from λ w p j. acts_is (over_is m n s l i (over_fin k dt i) w)
      (acts_out [] (over_fin k dt i (first_low (rows_read (parse (rules s) m l (here s i) w)))) (λ v q u. omega arith) (omega arith) (a.doing.acts w p j) h)

  pub scoped_out : (k : ℕ) → IsErr r₁ → Acting (scoped k m n) s l lim i base st T T₁ r₁
  unfolding state_after
  scoped_out k h =
      acting_from λ w p j. acts_is (over_is m n s l i (scoped_fin k i) w)
      (acts_out [] (scoped_fin k i (first_low (rows_read (parse (rules s) m l (here s i) w)))) (λ v q u. omega arith) (omega arith) (a.doing.acts w p j) h)

  -- they fit: a row of y rows in all, from the low of the first child
  module _ {low : ℕ} (h : Starts m s l lim i st low) (k : ℕ) (d : Cursor) (x : Counts) (q : r₁ ≡ Ok (d, x)) (y : ℕ) (size : y + base ≡ d.count.0 + 1) {t : List ℕ} where
    pub over_got : (dt : ℕ) → t ≡ pushed row_width T₁.rows d.count.0 (row_record k y i low d.at.0 dt)
        → Acting (over k dt m n) s l lim i base st T (tables t T₁.errors T₁.requests) (Ok (cursor d.at.0 (d.count.0 + 1) false, x))
    over_got dt e =
        acting_from λ w p j. acts_is (over_is m n s l i (over_fin k dt i) w)
        (acts_got s [] d x _ (omega arith) (lies s (m ▸ n) l i w) (a.doing.acts w p j) q
        λ v u z c met o f.
        let rows = under k dt i low d.at.0 v in
        acts_is (ap (λ n. over_fin k dt i n v (here s d.at.0) u) (first_fits n h w p j v (here s d.at.0) u z))
        (row_pushed k i low dt v d y c size t e
        (acts_ok rows (here s d.at.0) u lim base _ (cursor d.at.0 (d.count.0 + 1) false) x f refl
        (omega (arith, under_length k dt i low d.at.0 v)) refl o)))

    -- the number is given now; it is the row's detail
    pub scoped_got : t ≡ pushed row_width T₁.rows d.count.0 (row_record k y i low d.at.0 (x.scope + 1))
        → Acting (scoped k m n) s l lim i base st T (tables t T₁.errors T₁.requests) (Ok (cursor d.at.0 (d.count.0 + 1) false, next_scope x))
    scoped_got e =
        acting_from λ w p j. acts_is (over_is m n s l i (scoped_fin k i) w)
        (acts_got s [] d x _ (omega arith) (lies s (m ▸ n) l i w) (a.doing.acts w p j) q
        λ v u z c met o f.
        let g : suc u.scope ≡ x.scope + 1 = omega (arith, ap (λ (st : Counts). st.scope) o) in
        let rows = under k (x.scope + 1) i low d.at.0 v in
        acts_is (ap₂ {C = Reply Rows} (λ n dt. ok (under k dt i n d.at.0 v) (here s d.at.0) (numbered u)) (first_fits n h w p j v (here s d.at.0) u z) g)
        (row_pushed k i low (x.scope + 1) v d y c size t e
        (acts_ok rows (here s d.at.0) (numbered u) lim base _ (cursor d.at.0 (d.count.0 + 1) false) (next_scope x) f refl
        (omega (arith, under_length k (x.scope + 1) i low d.at.0 v)) refl (numbered_counts u o))))

-- Imports ------------------------------------------------------------------

-- directive and arguments as one sequence m ▸ n, the file name j, the block b; the number and the request come after the block
module _ {m n : Parser} (j b : Parser) {s : List ℕ} {l lim i base : ℕ} {st : Counts} {T T₁ : Tables} {r₁ : Done}
    (a : Acting (m ▸ n) s l lim i base st T T₁ r₁) where
  abbrev import_fin : ℕ → Rows → Rows → Rows → Input → State → Reply Rows
  import_fin low v d e z t = ok (under importᵏ (suc t.scope) i low z.at ((v ++ d) ++ e)) z (requested (request_of d) (numbered t))

  abbrev block_fin : ℕ → Rows → Rows → Input → State → Reply Rows
  block_fin low v d x y = then (parse (rules s) b l x y) (import_fin low v d)

  abbrev name_fin : ℕ → Rows → Input → State → Reply Rows
  name_fin low v r u = then (parse (rules s) j l r u) (block_fin low v)

  block_rises : (low : ℕ) (v : Rows) → Rises (block_fin low v)
  unfolding state_after
  block_rises low v d x y = omega (arith, rises s b l x y, peak_then (parse (rules s) b l x y) (import_fin low v d) λ e z t. omega arith)

  name_rises : (low : ℕ) → Rises (name_fin low)
  name_rises low v r u = omega (arith, rises s j l r u, peak_then (parse (rules s) j l r u) (block_fin low v) (block_rises low v))

  pub import_out : IsErr r₁ → Acting (import m n j b) s l lim i base st T T₁ r₁
  import_out h =
      acting_from λ w p o. acts_is (over_is m n s l i name_fin w)
      (acts_out [] _ (name_rises (first_low (rows_read (parse (rules s) m l (here s i) w)))) (omega arith) (a.doing.acts w p o) h)

  module _ (d : Cursor) (x : Counts) (q : r₁ ≡ Ok (d, x)) {T₂ : Tables} {r₂ : Done} (c : Acting j s l lim d.at.0 d.count.0 x T₁ T₂ r₂) where
    pub import_no_name : IsErr r₂ → Acting (import m n j b) s l lim i base st T T₂ r₂
    import_no_name h =
        acting_from λ w p o. acts_is (over_is m n s l i name_fin w)
        (acts_got s [] d x _ (omega arith) (lies s (m ▸ n) l i w) (a.doing.acts w p o) q
        λ v u z k met o f. acts_out v _ (block_rises (first_low (rows_read (parse (rules s) m l (here s i) w))) v) k (c.doing.acts u o f) h)

    module _ (d₂ : Cursor) (x₂ : Counts) (q₂ : r₂ ≡ Ok (d₂, x₂)) {T₃ : Tables} {r₃ : Done} (e : Acting b s l lim d₂.at.0 d₂.count.0 x₂ T₂ T₃ r₃) where
      pub import_no_block : IsErr r₃ → Acting (import m n j b) s l lim i base st T T₃ r₃
      unfolding state_after
      import_no_block h =
          acting_from λ w p o. acts_is (over_is m n s l i name_fin w)
          (acts_got s [] d x _ (omega arith) (lies s (m ▸ n) l i w) (a.doing.acts w p o) q
          λ v u z k met o f. acts_got s v d₂ x₂ _ k (lies s j l d.at.0 u) (c.doing.acts u o f) q₂
          λ v₂ u₂ z₂ k₂ met₂ o₂ f₂.
          acts_out (v ++ v₂) (import_fin (first_low (rows_read (parse (rules s) m l (here s i) w))) v v₂) (λ e z t. omega arith) k₂ (e.doing.acts u₂ o₂ f₂) h)

      -- the request is that of the file name's rows
      pub import_got : {low : ℕ} → Starts m s l lim i st low → (d₃ : Cursor) (x₃ : Counts) → r₃ ≡ Ok (d₃, x₃) → (f : Request)
          → ((w : State) (v : Rows) (u : State) → parse (rules s) j l (here s d.at.0) w ≡ ok v (here s d₂.at.0) u → request_of v ≡ f)
          → {y : Counts} {g : List ℕ} → Requested f (next_scope x₃) y T₃.requests g
          → (k : ℕ) → k + base ≡ d₃.count.0 + 1 → {t : List ℕ} → t ≡ pushed row_width T₃.rows d₃.count.0 (row_record importᵏ k i low d₃.at.0 (x₃.scope + 1))
          → Acting (import m n j b) s l lim i base st T (tables t T₃.errors g) (Ok (cursor d₃.at.0 (d₃.count.0 + 1) false, y))
      import_got {low} h d₃ x₃ q₃ f named {y} {g} req k size {t} is =
          acting_from λ w p o. acts_is (over_is m n s l i name_fin w)
          (acts_got s [] d x _ (omega arith) (lies s (m ▸ n) l i w) (a.doing.acts w p o) q
          λ v u z c₁ m₁ o₁ f₁. acts_got s v d₂ x₂ _ c₁ (lies s j l d.at.0 u) (c.doing.acts u o₁ f₁) q₂
          λ v₂ u₂ z₂ c₂ m₂ o₂ f₂. acts_got s (v ++ v₂) d₃ x₃ _ c₂ (lies s b l d₂.at.0 u₂) (e.doing.acts u₂ o₂ f₂) q₃
          λ v₃ u₃ z₃ c₃ m₃ o₃ f₃.
          let all = (v ++ v₂) ++ v₃ in
          let place = here s d₃.at.0 in
          let is-low = first_fits n h w p o v (here s d.at.0) u z in
          let is_scope : suc u₃.scope ≡ x₃.scope + 1 = omega (arith, ap (λ (st : Counts). st.scope) o₃) in
          let rows = under importᵏ (x₃.scope + 1) i low d₃.at.0 all in
          acts_is (ap₂ {C = Reply Rows} (λ n dt. ok (under importᵏ dt i n d₃.at.0 all) place (requested (request_of v₂) (numbered u₃))) is-low is_scope
          ∙ ap (λ r. ok rows place (requested r (numbered u₃))) (named u v₂ u₂ z₂))
          (row_pushed importᵏ i low (x₃.scope + 1) all d₃ k c₃ size t is
          (acts_told T₃.errors g (requested_logged f (numbered u₃) (numbered_counts u₃ o₃) req)
          (acts_ok rows place (requested f (numbered u₃)) lim base _ (cursor d₃.at.0 (d₃.count.0 + 1) false) y f₃ refl
          (omega (arith, under_length importᵏ (x₃.scope + 1) i low d₃.at.0 all)) refl (requested_counts f (numbered u₃) (numbered_counts u₃ o₃) req)))))
