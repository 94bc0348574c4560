-- What every reading does to its levels and its rows: the highest level never falls, and no row counts more rows than stand up to it, itself
-- included. So where a sequence begins with a row of size 1, that row is its first tree. One lemma for each way of combining replies, then
-- one induction over the parsers.
use mathlib.Core.Path.{◌≡◌, refl, ap, ◌∙◌}
use mathlib.Core.Bool.{Bool, true, false}
use mathlib.Core.List.{List, [], ◌∷◌, ◌++◌}
use mathlib.Core.Option.{Option, none, some}
use Prim.Native.Nat.{ℕ, zero, suc, ◌+◌, ◌≤◌, ◌<◌}
use native.Mathlib.Omega.{arith}
use borrow.Author.Tests.{ne_eqb}
use lib.Dec.{ltb, eqb}
use lib.ListN.{length}
use Rattle.reading.specs.Byte.{is}
use Rattle.reading.specs.Kind.{charᵏ, binaryᵏ, importᵏ}
use Rattle.reading.specs.Grammar.{Row, Rows, Error, Request, State, Input, Reply, ok, err, Leaf, Rule, Parser, empty, ◌▸◌, ◌or◌, never, many0, leaf, rule, unterminated, node, pick, over, scoped, import, argument, chain, bracket, braced, complain, expect, reported, raised, error_at, root, joined, under, first_low_from, first_low, placed, folded, Act, to_end, then, else, with, turned, gate, last_round, next_round, rounds, one_of, taken, take, always, located, char_at, picked, pick_word, closed, parse}
use Rattle.reading.specs.Reading.{rule_of, reads}

-- Rows ---------------------------------------------------------------------

-- with n rows in front, no row counts more rows than stand up to it
pub data Below : ℕ → Rows → Type 0 where
  no_rows : {n : ℕ} → Below n []
  row_and : {n : ℕ} {r : Row} {rs : Rows} → r.size ≤ suc n → Below (suc n) rs → Below n (r ∷ rs)

-- the constructor, with its parts told by the statement, so that omega knows what to prove
below_row : {n : ℕ} {r : Row} {rs : Rows} → r.size ≤ suc n → Below (suc n) rs → Below n (r ∷ rs)
below_row h b = row_and h b

below_more : {n m : ℕ} {v : Rows} → n ≤ m → Below n v → Below m v
below_more h no_rows = no_rows
below_more h (row_and a b) = below_row (omega arith) (below_more (omega arith) b)

pub below_append : {n : ℕ} {a b : Rows} → Below n a → Below 0 b → Below n (a ++ b)
below_append no_rows y = below_more (omega arith) y
below_append (row_and x z) y = below_row x (below_append z y)

below_last : {n : ℕ} {a : Rows} (r : Row) → Below n a → r.size ≤ suc (n + length a) → Below n (a ++ (r ∷ []))
below_last r no_rows h = below_row (omega arith) no_rows
below_last r (row_and x y) h = below_row x (below_last r y (omega arith))

pub below_under : (k d t a z : ℕ) {v : Rows} → Below 0 v → Below 0 (under k d t a z v)
below_under k d t a z x = below_last _ x (omega arith)

pub below_one : (r : Row) → r.size ≡ 1 → Below 0 (r ∷ [])
below_one r e = below_row (omega arith) no_rows

below_placed : {n : ℕ} (t a z : ℕ) (v : Rows) → Below n v → Below n (placed t a z v)
below_placed t a z [] x = x
below_placed t a z (r ∷ []) (row_and x y) = below_row x no_rows
below_placed t a z (r ∷ (s ∷ rs)) (row_and x y) = below_row x (below_placed t a z (s ∷ rs) y)

-- many sequences, each by itself
pub data Belows : List Rows → Type 0 where
  no_more : Belows []
  one_and : {v : Rows} {vs : List Rows} → Below 0 v → Belows vs → Belows (v ∷ vs)

below_joined : {vs : List Rows} → Belows vs → Below 0 (joined vs)
below_joined no_more = no_rows
below_joined (one_and x y) = below_append x (below_joined y)

below_folded : {a : Rows} {vs : List Rows} → Below 0 a → Belows vs → Below 0 (folded a vs)
below_folded x no_more = x
below_folded x (one_and y z) = below_folded (below_under binaryᵏ 0 _ _ _ (below_append x y)) z

-- rows of which none counts those in front leave the first low as it is
first_stays : (n a : ℕ) {m : ℕ} {v : Rows} → m < n → Below m v → first_low_from n a v ≡ a
first_stays n a h no_rows = refl
first_stays n a h (row_and {r = r} {rs = rs} x y) =
    ap (λ (b : Bool). first_low_from (suc n) (elim b [ true ↦ r.low | false ↦ a ]) rs) (ne_eqb r.size (suc n) λ e. let z : ⊥ = omega arith in z)
    ∙ first_stays (suc n) a (omega arith) y

-- a first row of size 1 is the first tree
pub first_one : (r : Row) (v : Rows) → r.size ≡ 1 → Below 0 v → first_low (r ∷ v) ≡ r.low
first_one r v e x =
    ap (λ (b : Bool). first_low_from 1 (elim b [ true ↦ r.low | false ↦ 0 ]) v) (ap (λ n. eqb n 1) e) ∙ first_stays 1 r.low (omega arith) x

-- Replies ------------------------------------------------------------------

abbrev pub peak_of : {A : Type 0} → Reply A → ℕ
peak_of (ok a q v) = v.peak
peak_of (err v) = v.peak

abbrev pub Each : {A : Type 0} → (A → Type 0) → Reply A → Type 0
Each P (ok a q v) = P a
Each P (err v) = Unit {0}

-- a reply to a state whose highest level is k; P holds of its value
pub record Sound {A : Type 0} (P : A → Type 0) (k : ℕ) (r : Reply A) : Type 0 where
  pub rises : k ≤ peak_of r
  pub value : Each P r

from_lower : {A : Type 0} {P : A → Type 0} {k j : ℕ} {r : Reply A} → j ≤ k → Sound P k r → Sound P j r
from_lower h s = record { rises = omega (arith, s.rises); value = s.value }

then_sound : {A B : Type 0} {P : A → Type 0} {Q : B → Type 0} {k : ℕ} {r : Reply A} {f : A → Input → State → Reply B}
    → Sound P k r → ((a : A) (q : Input) (v : State) → P a → Sound Q v.peak (f a q v)) → Sound Q k (then r f)
then_sound {r = ok a q v} h e = from_lower h.rises (e a q v h.value)
then_sound {r = err v} h e = record { rises = h.rises; value = tt }

else_sound : {A : Type 0} {P : A → Type 0} {k : ℕ} {r : Reply A} {f : State → Reply A}
    → Sound P k r → ((v : State) → Sound P v.peak (f v)) → Sound P k (else r f)
else_sound {r = ok a q v} h e = h
else_sound {r = err v} h e = from_lower h.rises (e v)

with_sound : {A B : Type 0} {P : A → Type 0} {Q : B → Type 0} {k : ℕ} (f : A → B) {r : Reply A}
    → Sound P k r → ((a : A) → P a → Q (f a)) → Sound Q k (with f r)
with_sound f {r = ok a q v} h e = record { rises = h.rises; value = e a h.value }
with_sound f {r = err v} h e = record { rises = h.rises; value = tt }

-- the state is as it was, or has another number or report
ok_sound : {A : Type 0} {P : A → Type 0} {k : ℕ} {a : A} {q : Input} {v : State} → v.peak ≡ k → P a → Sound P k (ok a q v)
ok_sound e h = record { rises = omega arith; value = h }

err_sound : {A : Type 0} {P : A → Type 0} {v : State} → Sound P v.peak (err v)
err_sound = record { rises = omega arith; value = tt }

turned_sound : {A : Type 0} {P : A → Type 0} {k : ℕ} (p : Input) (r : Reply A) → Sound P k r → Sound (Below 0) k (turned p r)
turned_sound p (ok a q v) h = record { rises = h.rises; value = tt }
turned_sound p (err v) h = record { rises = h.rises; value = no_rows }

take_sound : (o : Option ℕ) (p : Input) (w : State) → Sound (Below 0) w.peak (take o p w)
take_sound none p w = err_sound
take_sound (some n) p w = ok_sound refl no_rows

-- rounds
last_sound : {k : ℕ} (p : Input) (r : Reply Rows) → Sound (Below 0) k r → Sound Belows k (last_round p r)
last_sound p (ok a q v) h = record { rises = h.rises; value = tt }
last_sound p (err v) h = record { rises = h.rises; value = no_more }

gate_sound : {A : Type 0} {P : A → Type 0} (b : Bool) (v : State) {f : Unit {0} → Reply A}
    → ((t : Unit {0}) → Sound P v.peak (f t)) → Sound P v.peak (gate b v f)
gate_sound true v h = h tt
gate_sound false v h = err_sound

next_sound : {k : ℕ} (p : Input) (r : Reply Rows) {f : Input → State → Reply (List Rows)}
    → Sound (Below 0) k r → ((q : Input) (v : State) → Sound Belows v.peak (f q v)) → Sound Belows k (next_round p r f)
next_sound p (ok a q v) h e =
    from_lower h.rises (gate_sound (ltb p.at q.at) v λ t. then_sound (e q v) λ rest r u z. ok_sound refl (one_and h.value z))
next_sound p (err v) h e = record { rises = h.rises; value = no_more }

pub rounds_sound : (m : Act Rows) → ((l : ℕ) (p : Input) (w : State) → Sound (Below 0) w.peak (m l p w))
    → (f : List ℕ) (l : ℕ) (p : Input) (w : State) → Sound Belows w.peak (rounds m f l p w)
rounds_sound m h [] l p w = last_sound p (m l p w) (h l p w)
rounds_sound m h (b ∷ f) l p w = next_sound p (m l p w) (h l p w) λ q v. rounds_sound m h f l q v

picked_sound : (k t d : ℕ) (o : Option ℕ) (p : Input) (w : State) {r : Reply Rows}
    → Sound (Below 0) w.peak r → Sound (Below 0) w.peak (picked k t d o p w r)
picked_sound k t d none p w h = h
picked_sound k t d (some n) p w h = ok_sound refl (below_one _ refl)

pick_sound : (k t : ℕ) (xs : List (Leaf × ℕ)) (p : Input) (w : State) → Sound (Below 0) w.peak (pick_word k t xs p w)
pick_sound k t [] p w = err_sound
pick_sound k t (x ∷ xs) p w = picked_sound k t x.1 (taken x.0 p.left) p w (pick_sound k t xs p w)

-- a report leaves the levels as they are
reported_at : (e : Error) (n : ℕ) (f : Bool) (es : List Error) (qs : List Request) (a : ℕ)
    → (reported e (record { scope = n; swallow = f; errors = es; requests = qs; peak = a })).peak ≡ a
reported_at e n true es qs a = refl
reported_at e n false es qs a = refl

pub reported_peak : (e : Error) (w : State) → (reported e w).peak ≡ w.peak
reported_peak e w = reported_at e w.scope w.swallow w.errors w.requests w.peak

-- trivia and what stands behind it, with a row around it
located_sound : (k : ℕ) (d : Rows → ℕ) {j : ℕ} (p : Input) {r : Reply Rows} {f : Input → State → Reply Rows}
    → Sound (Below 0) j r → ((q : Input) (v : State) → Sound (Below 0) v.peak (f q v)) → Sound (Below 0) j (located k d p r f)
located_sound k d p h e =
    then_sound h λ _ q v _. then_sound (e q v) λ a s u x. ok_sound refl (below_under k (d a) p.at q.at s.at x)

pub char_sound : (c : ℕ) {k : ℕ} (p : Input) {r : Reply Rows} → Sound (Below 0) k r → Sound (Below 0) k (char_at c p r)
char_sound c p h = located_sound charᵏ (always c) p h λ q v. take_sound (one_of (is c) q.left) q v

pub closed_sound : (o : Row) {k : ℕ} (p : Input) {r : Reply Rows} → Sound (Below 0) k r → Sound (Below 0) k (closed o p r)
closed_sound o p h = else_sound (char_sound 125 p h) λ v. ok_sound (reported_peak (error_at 5 p.at) v) (below_one _ refl)

-- Parsers ------------------------------------------------------------------

module _ (ρ : Rule → Act Rows) (h : (x : Rule) (l : ℕ) (p : Input) (w : State) → Sound (Below 0) w.peak (ρ x l p w)) where
  pub sound : (m : Parser) (l : ℕ) (p : Input) (w : State) → Sound (Below 0) w.peak (parse ρ m l p w)
  sound empty l p w = ok_sound refl no_rows
  sound (m ▸ n) l p w = then_sound (sound m l p w) λ a q v x. with_sound (a ++◌) (sound n l q v) λ b y. below_append x y
  sound (m or n) l p w = else_sound (sound m l p w) λ v. sound n l p v
  sound (never m) l p w = turned_sound p (parse ρ m l p w) (sound m l p w)
  sound (many0 m) l p w = with_sound joined (rounds_sound (parse ρ m) (sound m) p.left l p w) λ vs x. below_joined x
  sound (leaf f) l p w = take_sound (taken f p.left) p w
  sound (rule x) l p w = h x l p w
  sound unterminated l p w = ok_sound (reported_peak (error_at 1 (to_end p).at) w) no_rows
  sound (node k d t m) l p w = located_sound k d p (sound t l p w) λ q v. sound m l q v
  sound (pick k t xs) l p w = then_sound (sound t l p w) λ _ q v _. pick_sound k p.at xs q v
  sound (over k d m n) l p w =
      then_sound (sound m l p w) λ a q v x. then_sound (sound n l q v)
      λ b r u y. ok_sound refl (below_under k d p.at (first_low a) r.at (below_append x y))
  sound (scoped k m n) l p w =
      then_sound (sound m l p w) λ a q v x. then_sound (sound n l q v)
      λ b r u y. ok_sound refl (below_under k (suc u.scope) p.at (first_low a) r.at (below_append x y))
  sound (import m n s b) l p w =
      then_sound (sound m l p w) λ a q v x. then_sound (sound n l q v) λ c r u y. then_sound (sound s l r u) λ d i j z. then_sound (sound b l i j)
      λ e o t f. ok_sound refl (below_under importᵏ (suc t.scope) p.at (first_low a) o.at (below_append (below_append (below_append x y) z) f))
  sound (argument t m) l p w =
      then_sound (sound t l p w) λ _ q v _. then_sound (sound m l q v) λ a r u y. ok_sound refl (below_placed p.at q.at r.at a y)
  sound (chain o m) l p w =
      then_sound (sound m l p w) λ a q v x. with_sound (folded a)
      (rounds_sound (parse ρ (o ▸ m))
      (λ l p w. then_sound (sound o l p w) λ b q v y. with_sound (b ++◌) (sound m l q v) λ c z. below_append y z) q.left l q v)
      λ vs y. below_folded x y
  sound (bracket t c m) l p w =
      then_sound (char_sound c p (sound t l p w)) λ a q v x. with_sound (a ++◌) (from_lower (omega arith) (sound m (suc l) q (raised (suc l) v)))
      λ b y. below_append x y
  sound (braced t m) l p w =
      then_sound (char_sound 123 p (sound t l p w)) λ a q v x.
      then_sound (from_lower (omega arith) (rounds_sound (parse ρ m) (sound m) q.left (suc l) q (raised (suc l) v))) λ rs r u y.
      with_sound (λ c. a ++ joined rs ++ c) (closed_sound (root a) r (sound t (suc l) r u)) λ c z. below_append (below_append x (below_joined y)) z
  sound (complain m) l p w =
      then_sound (sound m l p w) λ a q v x. ok_sound (reported_peak (record { code = 2; low = (root a).low; high = (root a).high }) v) x
  sound (expect c m) l p w = else_sound (sound m l p w) λ v. ok_sound (reported_peak (error_at c p.at) v) no_rows

pub reads_sound : (n : ℕ) (x : Rule) (l : ℕ) (p : Input) (w : State) → Sound (Below 0) w.peak (reads n x l p w)
reads_sound zero x l p w = err_sound
reads_sound (suc n) x l p w = sound (reads n) (reads_sound n) (rule_of x) l p w
