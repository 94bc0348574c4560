-- The top rows, one turn after another; and the lent table that they are written to.
use mathlib.Core.Path.{◌≡◌, refl, ap, sym, ◌∙◌}
use mathlib.Core.Bool.{Bool, true, false, ◌||◌, cond}
use mathlib.Core.List.{List, [], ◌∷◌, ◌++◌}
use Prim.Native.Nat.{ℕ, zero, suc, ◌+◌, ◌-◌, ◌≤◌, ◌<◌}
use native.Mathlib.Omega.{arith}
use borrow.Author.Tests.{ne_eqb, eq-eqb, lt-ltb, le-ltb, eqb-false}
use lib.Dec.{ltb, eqb}
use lib.ListN.{length, take, drop, set, replicate, length-set, length-drop}
use lib.Seq.{length-take-le}
use Rattle.reading.specs.Table.{Answer, answered, refused, zeros, filled, room, row_width}
use Rattle.reading.specs.Walk.{Subtree, walk, size_at}
use Rattle.table.proofs.Zeros.{zeros_are}
use Rattle.rows.specs.Answers.{listed}
use Rattle.rows.specs.Tops.{more_tops, tops_from, top_rows, how_many, tops_settled, tops_listed}

-- A subtree has a row at least ----------------------------------------------

less : (n s : ℕ) (x : Subtree) → cond (eqb s 0 || ltb n s) (refused 13 n) (answered (record { root = n - 1; before = n - s })) ≡ answered x → 0 < n → x.before < n
less n s x e h = go (eqb s 0) (ltb n s) refl e
  where
    go : (a b : Bool) → eqb s 0 ≡ a → cond (a || b) (refused 13 n) (answered (record { root = n - 1; before = n - s })) ≡ answered x → x.before < n
    go true b q e = absurd (let z : ◌≡◌ {A = ℕ} 0 1 = cc in omega arith)
    go false true q e = absurd (let z : ◌≡◌ {A = ℕ} 0 1 = cc in omega arith)
    go false false q e =
        let u : record { root = n - 1; before = n - s } ≡ x = cc in
        let p : (s ≡ 0 → ⊥) = eqb-false s 0 q in
        rw (sym u) (omega (arith, p))

pub walk_less : (t : List ℕ) (n : ℕ) (x : Subtree) → walk t n ≡ answered x → x.before < n
unfolding walk
walk_less t n x e = go (eqb n 0) (ltb (room row_width t) n) refl e
  where
    go : (a b : Bool) → eqb n 0 ≡ a
        → cond (a || b) (refused 13 n) (cond (eqb (size_at t n) 0 || ltb n (size_at t n)) (refused 13 n) (answered (record { root = n - 1; before = n - size_at t n }))) ≡ answered x → x.before < n
    go true b q e = absurd (let z : ◌≡◌ {A = ℕ} 0 1 = cc in omega arith)
    go false true q e = absurd (let z : ◌≡◌ {A = ℕ} 0 1 = cc in omega arith)
    go false false q e =
        let p : (n ≡ 0 → ⊥) = eqb-false n 0 q in
        less n (size_at t n) x e (omega (arith, p))

-- Where a walk stands -------------------------------------------------------

-- so many rows are left and these top rows met: the turns that are left answer what the whole walk answers
pub record Ahead (t : List ℕ) (n left : ℕ) (rs : List ℕ) : Type 0 where
  pub turns : ℕ
  pub enough : left ≤ turns
  pub same : tops_from turns t left rs ≡ top_rows t n

pub ahead_all : (t : List ℕ) (n : ℕ) → Ahead t n n []
unfolding top_rows
ahead_all t n = record { turns = n; enough = omega arith; same = refl }

more : (turns : ℕ) (t : List ℕ) (left : ℕ) (rs : List ℕ) → left ≤ suc turns → 0 < left
    → tops_from (suc turns) t left rs ≡ more_tops (walk t left) rs (tops_from turns t)
more turns t left rs l h = rw (ne_eqb left 0 (λ (e : left ≡ 0). omega arith))

module _ (t : List ℕ) (n left : ℕ) (rs : List ℕ) where
  pub ahead_more : Ahead t n left rs → 0 < left → (x : Subtree) → walk t left ≡ answered x → Ahead t n x.before (x.root ∷ rs)
  ahead_more a h x e = go a.turns a.enough a.same
    where
      go : (turns : ℕ) → left ≤ turns → tops_from turns t left rs ≡ top_rows t n → Ahead t n x.before (x.root ∷ rs)
      go zero l s = absurd (let z : ⊥ = omega arith in z)
      go (suc turns) l s =
          record {
            turns = turns;
            enough = omega (arith, walk_less t left x e);
            same = sym (more turns t left rs l h ∙ ap (λ (y : Answer Subtree). more_tops y rs (tops_from turns t)) e) ∙ s;
          }

  pub ahead_refused : Ahead t n left rs → 0 < left → (k g : ℕ) → walk t left ≡ refused k g → top_rows t n ≡ refused k g
  ahead_refused a h k g e = go a.turns a.enough a.same
    where
      go : (turns : ℕ) → left ≤ turns → tops_from turns t left rs ≡ top_rows t n → top_rows t n ≡ refused k g
      go zero l s = absurd (let z : ⊥ = omega arith in z)
      go (suc turns) l s = sym s ∙ more turns t left rs l h ∙ ap (λ (y : Answer Subtree). more_tops y rs (tops_from turns t)) e

pub ahead_none : (t : List ℕ) (n left : ℕ) (rs : List ℕ) → Ahead t n left rs → left ≡ 0 → top_rows t n ≡ answered rs
ahead_none t n left rs a e = go a.turns a.same
  where
    go : (turns : ℕ) → tops_from turns t left rs ≡ top_rows t n → top_rows t n ≡ answered rs
    go zero s = sym s
    go (suc turns) s = sym s ∙ rw (eq-eqb left 0 e)

-- How many there are --------------------------------------------------------

-- no top row is taken back
kept : (turns : ℕ) (t : List ℕ) (n : ℕ) (rs xs : List ℕ) → tops_from turns t n rs ≡ answered xs → length rs ≤ length xs
kept zero t n rs xs e = let u : rs ≡ xs = cc in omega (arith, ap length u)
kept (suc turns) t n rs xs e = go (eqb n 0) (walk t n) (λ x h. kept turns t x.before (x.root ∷ rs) xs h) e
  where
    go : (b : Bool) (y : Answer Subtree) → ((x : Subtree) → tops_from turns t x.before (x.root ∷ rs) ≡ answered xs → suc (length rs) ≤ length xs)
        → cond b (answered rs) (more_tops y rs (tops_from turns t)) ≡ answered xs → length rs ≤ length xs
    go true y f e = let u : rs ≡ xs = cc in omega (arith, ap length u)
    go false (answered x) f e = omega (arith, f x e)
    go false (refused k g) f e = absurd (let z : ◌≡◌ {A = ℕ} 0 1 = cc in omega arith)

more_than : (turns : ℕ) (t : List ℕ) (n r m : ℕ) (rs : List ℕ) (y : Answer (List ℕ)) → tops_from turns t n (r ∷ rs) ≡ y → how_many y ≡ answered m → length rs < m
more_than turns t n r m rs (answered xs) e c =
    let u : length xs ≡ m = cc in
    omega (arith, kept turns t n (r ∷ rs) xs e)
more_than turns t n r m rs (refused k g) e c = absurd (let z : ◌≡◌ {A = ℕ} 0 1 = cc in omega arith)

module _ (t : List ℕ) (n left m : ℕ) (rs : List ℕ) (a : Ahead t n left rs) (c : how_many (top_rows t n) ≡ answered m) where
  -- the top row that is met next is one more of them
  pub fewer : 0 < left → (x : Subtree) → walk t left ≡ answered x → length rs < m
  fewer h x e =
      let b = ahead_more t n left rs a h x e in
      more_than b.turns t x.before x.root m rs (top_rows t n) b.same c

  pub not_refused : 0 < left → (k g : ℕ) → walk t left ≡ refused k g → ⊥
  not_refused h k g e =
      let u : answered m ≡ refused k g = sym c ∙ ap how_many (ahead_refused t n left rs a h k g e) in
      let z : ◌≡◌ {A = ℕ} 0 1 = cc in omega arith

  pub all_met : left ≡ 0 → length rs ≡ m
  all_met e =
      let u : answered (length rs) ≡ answered m = sym (ap how_many (ahead_none t n left rs a e)) ∙ c in
      cc

-- so many are met, and counted
pub record Passed (t : List ℕ) (n left m : ℕ) : Type 0 where
  pub few : m + left ≤ n
  pub met : List ℕ
  pub count : length met ≡ m
  pub ahead : Ahead t n left met

pub passed_none : (t : List ℕ) (n : ℕ) → Passed t n n 0
passed_none t n = record { few = omega arith; met = []; count = refl; ahead = ahead_all t n }

module _ {t : List ℕ} {n left m : ℕ} (u : Passed t n left m) where
  pub passed_more : 0 < left → (x : Subtree) → walk t left ≡ answered x → Passed t n x.before (m + 1)
  passed_more h x e =
      record {
        few = omega (arith, u.few, walk_less t left x e);
        met = x.root ∷ u.met;
        count = omega (arith, u.count);
        ahead = ahead_more t n left u.met u.ahead h x e;
      }

  pub passed_refused : 0 < left → (k g : ℕ) → walk t left ≡ refused k g → refused k g ≡ how_many (top_rows t n)
  passed_refused h k g e = sym (ap how_many (ahead_refused t n left u.met u.ahead h k g e))

  pub passed_all : left ≡ 0 → answered m ≡ how_many (top_rows t n)
  passed_all e = ap answered (sym u.count) ∙ sym (ap how_many (ahead_none t n left u.met u.ahead e))

-- In the lent table ---------------------------------------------------------

in_front : (w : List ℕ) (j k x : ℕ) → j < length w → take (suc k) (drop j (set w j x)) ≡ x ∷ take k (drop (suc j) w)
in_front [] j k x h = absurd (let z : ⊥ = omega arith in z)
in_front (y ∷ w) zero k x h = refl
in_front (y ∷ w) (suc j) k x h = in_front w j k x (omega arith)

before_it : (w : List ℕ) (i m x : ℕ) → 0 < i → i ≤ m → m ≤ length w → take (m - (i - 1)) (drop (i - 1) (set w (i - 1) x)) ≡ x ∷ take (m - i) (drop i w)
before_it w i m x h l o =
    let e : m - (i - 1) ≡ suc (m - i) = omega arith in
    let f : suc (i - 1) ≡ i = omega arith in
    rw e (in_front w (i - 1) (m - i) x (omega arith) ∙ ap (λ (j : ℕ). x ∷ take (m - i) (drop j w)) f)

-- the words from i on, as far as m, are the top rows that are met
pub record Filled (t : List ℕ) (n m : ℕ) (w : List ℕ) (left i : ℕ) : Type 0 where
  pub counted : how_many (top_rows t n) ≡ answered m
  pub room : m ≤ length w
  pub within : i ≤ m
  pub ahead : Ahead t n left (take (m - i) (drop i w))

pub filled_none : (t : List ℕ) (n m : ℕ) (w : List ℕ) → how_many (top_rows t n) ≡ answered m → m ≤ length w → Filled t n m w n m
filled_none t n m w c o =
    let e : m - m ≡ 0 = omega arith in
    record { counted = c; room = o; within = omega arith; ahead = rw e (ahead_all t n) }

met_length : (w : List ℕ) (i m : ℕ) → i ≤ m → m ≤ length w → length (take (m - i) (drop i w)) ≡ m - i
met_length w i m l o = length-take-le (m - i) (drop i w) (omega (arith, length-drop i w))

module _ {t : List ℕ} {n m : ℕ} {w : List ℕ} {left i : ℕ} (u : Filled t n m w left i) where
  pub filled_place : 0 < left → (x : Subtree) → walk t left ≡ answered x → 0 < i
  filled_place h x e = omega (arith, u.within, met_length w i m u.within u.room, fewer t n left m _ u.ahead u.counted h x e)

  pub filled_more : 0 < left → (x : Subtree) → walk t left ≡ answered x → Filled t n m (set w (i - 1) x.root) x.before (i - 1)
  filled_more h x e =
      record {
        counted = u.counted;
        room = rw (length-set w (i - 1) x.root) u.room;
        within = omega (arith, u.within);
        ahead = rw (before_it w i m x.root (filled_place h x e) u.within u.room) (ahead_more t n left _ u.ahead h x e);
      }

  pub filled_all : left ≡ 0 → top_rows t n ≡ answered (take m w)
  filled_all e =
      let z : i ≡ 0 = omega (arith, u.within, met_length w i m u.within u.room, all_met t n left m _ u.ahead u.counted e) in
      let y : m - i ≡ m = omega arith in
      ahead_none t n left _ u.ahead e ∙ ap (λ (k : ℕ). answered (take k (drop i w))) y ∙ ap (λ (j : ℕ). answered (take m (drop j w))) z

  pub filled_never : 0 < left → (k g : ℕ) → walk t left ≡ refused k g → ⊥
  filled_never h k g e = not_refused t n left m _ u.ahead u.counted h k g e

-- The call ------------------------------------------------------------------

module _ (t : List ℕ) (n : ℕ) (w : List ℕ) where
  pub no_subtree : (k g : ℕ) → refused k g ≡ how_many (top_rows t n) → listed (refused k g) w ≡ tops_listed t n w
  unfolding tops_listed
  no_subtree k g e = go (top_rows t n) e
    where
      go : (y : Answer (List ℕ)) → refused k g ≡ how_many y → listed (refused k g) w ≡ tops_settled y w
      go (answered rs) e = absurd (let z : ◌≡◌ {A = ℕ} 0 1 = cc in omega arith)
      go (refused a b) e = ap (λ (x : Answer ℕ). listed x w) e

  pub no_room : (m : ℕ) (v : List ℕ) → v ≡ replicate (length w) 0 → answered m ≡ how_many (top_rows t n) → length w < m → listed (refused 6 m) v ≡ tops_listed t n w
  unfolding tops_listed
  no_room m v z e h = go (top_rows t n) e
    where
      zeroed : v ≡ filled [] w
      zeroed = z ∙ zeros_are (length w) ∙ ap zeros (let u : length w ≡ length w - 0 = omega arith in u)

      go : (y : Answer (List ℕ)) → answered m ≡ how_many y → listed (refused 6 m) v ≡ tops_settled y w
      go (answered rs) e =
          let u : m ≡ length rs = cc in
          rw (sym u, lt-ltb (length w) m h, zeroed)
      go (refused k g) e = absurd (let z : ◌≡◌ {A = ℕ} 0 1 = cc in omega arith)

  pub all_listed : (m : ℕ) → m ≤ length w → (v : List ℕ) → length v ≡ length w → top_rows t n ≡ answered (take m v)
      → listed (answered m) (take m v ++ zeros (length v - m)) ≡ tops_listed t n w
  unfolding tops_listed
  all_listed m l v e c =
      let u : length (take m v) ≡ m = length-take-le m v (omega arith) in
      rw (c, u, le-ltb (length w) m l, e)
