-- When a call is refused for want of room and when it is answered, of the outcome as it is defined; and an answer in full.
use mathlib.Core.Path.{◌≡◌, refl, ap, ap₂, sym, subst, ◌∙◌}
use mathlib.Core.Bool.{Bool, true, false}
use mathlib.Core.List.{List, [], ◌∷◌}
use mathlib.Core.Option.{Option, none, some}
use Prim.Native.Nat.{ℕ, ◌*◌, ◌<◌}
use native.Mathlib.Omega.{arith}
use borrow.Author.Tests.{lt-ltb, le-ltb, ltb-true, ltb-false}
use lib.Dec.{ltb}
use lib.ListN.{length}
use Rattle.reading.specs.Reading.{rows_of, state_of}
use Rattle.reading.specs.Table.{max_text, max_scope, max_level, Answer, answered, refused, Test, when, found, first, first_high, row_width, error_width, row_words, error_words, request_words, room, filled}
use Rattle.table.proofs.Holds.{words_length, errors_written, requests_written}
use Rattle.line.proofs.Rows.{rows_written}
use Rattle.reading.specs.Outcome.{Call, Counts, reading, needs, refusal, settled, outcome}
use Rattle.parser.specs.Seen.{code_of, given_of, Seen, exported}
use Rattle.parser.specs.Demand.{count, table, Answered}
pub use Rattle.parser.specs.Demand.{Kind, rows, errors, requests, number, width, lent, need, Readable, Enough, Short, Before, Lacks}

-- the words that the reading puts into a table
abbrev pub words : Kind → Call → List ℕ
words rows c = row_words c.text (rows_of (reading c))
words errors c = error_words (state_of (reading c)).errors
words requests c = request_words (state_of (reading c)).requests

-- What refusals say --------------------------------------------------------

abbrev pub tight : Kind → Call → Bool
tight k c = ltb (room (width k) (lent k c)) (need k c)

abbrev pub short? : Kind → Call → Test
short? k c = when (tight k c) (number k) (need k c)

when_false : (b : Bool) (n g : ℕ) → b ≡ false → when b n g ≡ none
when_false b n g e = ap (λ x. when x n g) e

when_none : (b : Bool) (n g : ℕ) → when b n g ≡ none → b ≡ false
when_none true n g e = let z : ◌≡◌ {A = ℕ} 0 1 = cc in absurd (let y : ⊥ = omega arith in y)
when_none false n g e = refl

found_none : (o : Option ℕ) (n : ℕ) → found o n ≡ none → o ≡ none
found_none none n e = refl
found_none (some g) n e = let z : ◌≡◌ {A = ℕ} 0 1 = cc in absurd (let y : ⊥ = omega arith in y)

-- a list of tests that finds x, where the first of them does not
first_none : (t : Test) (ts : List Test) → first (t ∷ ts) ≡ none → (t ≡ none) × (first ts ≡ none)
first_none none ts e = (refl, e)
first_none (some x) ts e = let z : ◌≡◌ {A = ℕ} 0 1 = cc in absurd (let y : ⊥ = omega arith in y)

same : (x y : ℕ × ℕ) → ◌≡◌ {A = Test} (some x) (some y) → x ≡ y
same x y e = cc

other : {A : Type 0} (m n h g : ℕ) → (m ≡ n → ⊥) → ◌≡◌ {A = Test} (some (m, h)) (some (n, g)) → A
other m n h g d e = absurd (d (ap (λ (x : ℕ × ℕ). x.0) (same (m, h) (n, g) e)))

when_other : (b : Bool) (m h n g : ℕ) (ts : List Test) → (m ≡ n → ⊥) → first (when b m h ∷ ts) ≡ some (n, g) → (b ≡ false) × (first ts ≡ some (n, g))
when_other true m h n g ts d e = other m n h g d e
when_other false m h n g ts d e = (refl, e)

found_other : (o : Option ℕ) (m n g : ℕ) (ts : List Test) → (m ≡ n → ⊥) → first (found o m ∷ ts) ≡ some (n, g) → (o ≡ none) × (first ts ≡ some (n, g))
found_other none m n g ts d e = (refl, e)
found_other (some h) m n g ts d e = other m n h g d e

when_this : (b : Bool) (n h g : ℕ) (ts : List Test) → ((j : ℕ) → first ts ≡ some (n, j) → ⊥) → first (when b n h ∷ ts) ≡ some (n, g) → (b ≡ true) × (g ≡ h)
when_this true n h g ts d e = (refl, sym (ap (λ (x : ℕ × ℕ). x.1) (same (n, h) (n, g) e)))
when_this false n h g ts d e = absurd (d g e)

none_some : (x : ℕ × ℕ) → ◌≡◌ {A = Test} none (some x) → ⊥
none_some x e = let z : ◌≡◌ {A = ℕ} 0 1 = cc in omega arith

-- the tests for room: what is left of a readable call's
abbrev pub rooms : Call → Test
rooms c = first (short? rows c ∷ short? errors c ∷ short? requests c ∷ [])

five : (a b c d e : Test) (ts : List Test) → a ≡ none → b ≡ none → c ≡ none → d ≡ none → e ≡ none → first (a ∷ b ∷ c ∷ d ∷ e ∷ ts) ≡ first ts
five a b c d e ts p q r s t = rw (p, q, r, s, t)

pub readable_rooms : (c : Call) → Readable c → refusal c ≡ rooms c
unfolding refusal needs
readable_rooms c h =
    five _ _ _ _ _ (short? rows c ∷ short? errors c ∷ short? requests c ∷ []) (when_false _ _ _ (le-ltb max_text (length c.text) h.short)) (ap (λ o. found o 2) h.plain)
    (when_false _ _ _ (le-ltb max_scope c.scope h.scope)) (when_false _ _ _ (le-ltb max_level c.level h.level)) (when_false _ _ _ (le-ltb c.level (state_of (reading c)).peak h.deep))

-- Answers and refusals of the tests, and of the outcome -----------------------

refused_is : (m h n g : ℕ) → ◌≡◌ {A = Answer Counts} (refused m h) (refused n g) → (m ≡ n) × (h ≡ g)
refused_is m h n g e = (cc, cc)

refusal_some : (c : Call) (n g : ℕ) → (outcome c).answer ≡ refused n g → refusal c ≡ some (n, g)
unfolding outcome
refusal_some c n g e = go (refusal c) refl e
  where
    go : (t : Test) → refusal c ≡ t → (settled c t).answer ≡ refused n g → refusal c ≡ some (n, g)
    go none p q = let z : ◌≡◌ {A = ℕ} 0 1 = cc in absurd (let y : ⊥ = omega arith in y)
    go (some (m, h)) p q = let z = refused_is m h n g q in p ∙ ap₂ (λ (a b : ℕ). some (a, b)) z.0 z.1

some_refusal : (c : Call) (n g : ℕ) → refusal c ≡ some (n, g) → (outcome c).answer ≡ refused n g
unfolding outcome
some_refusal c n g e = ap (λ t. (settled c t).answer) e

eight : (a b c d e f g h : Test) → first (a ∷ b ∷ c ∷ d ∷ e ∷ f ∷ g ∷ h ∷ []) ≡ none
    → (a ≡ none) × (b ≡ none) × (c ≡ none) × (d ≡ none) × (e ≡ none) × (f ≡ none) × (g ≡ none) × (h ≡ none)
eight a b c d e f g h z =
    let x₁ = first_none a (b ∷ c ∷ d ∷ e ∷ f ∷ g ∷ h ∷ []) z in
    let x₂ = first_none b (c ∷ d ∷ e ∷ f ∷ g ∷ h ∷ []) x₁.1 in
    let x₃ = first_none c (d ∷ e ∷ f ∷ g ∷ h ∷ []) x₂.1 in
    let x₄ = first_none d (e ∷ f ∷ g ∷ h ∷ []) x₃.1 in
    let x₅ = first_none e (f ∷ g ∷ h ∷ []) x₄.1 in
    let x₆ = first_none f (g ∷ h ∷ []) x₅.1 in
    let x₇ = first_none g (h ∷ []) x₆.1 in
    let x₈ = first_none h [] x₇.1 in
    (x₁.0, x₂.0, x₃.0, x₄.0, x₅.0, x₆.0, x₇.0, x₈.0)

-- nothing is refused: the call is readable, and there is room for each kind
pub none_fits : (c : Call) → refusal c ≡ none → Readable c × ((k : Kind) → Enough k c)
unfolding refusal needs
none_fits c e =
    let x = eight _ _ _ _ _ _ _ _ e in (
      record {
        short = ltb-false max_text (length c.text) (when_none _ _ _ x.0);
        plain = found_none _ _ x.1;
        scope = ltb-false max_scope c.scope (when_none _ _ _ x.2);
        level = ltb-false max_level c.level (when_none _ _ _ x.3);
        deep = ltb-false c.level (state_of (reading c)).peak (when_none _ _ _ x.4);
      },
      λ k. enough k x.5 x.6 x.7,
    )
  where
    enough : (k : Kind) → short? rows c ≡ none → short? errors c ≡ none → short? requests c ≡ none → Enough k c
    enough rows f g h = ltb-false _ _ (when_none _ _ _ f)
    enough errors f g h = ltb-false _ _ (when_none _ _ _ g)
    enough requests f g h = ltb-false _ _ (when_none _ _ _ h)

pub fits_none : (c : Call) → Readable c → ((k : Kind) → Enough k c) → refusal c ≡ none
fits_none c h r =
    readable_rooms c h ∙ three _ _ _ (when_false _ _ _ (le-ltb _ _ (r rows))) (when_false _ _ _ (le-ltb _ _ (r errors))) (when_false _ _ _ (le-ltb _ _ (r requests)))
  where
    three : (a b c : Test) → a ≡ none → b ≡ none → c ≡ none → first (a ∷ b ∷ c ∷ []) ≡ none
    three a b c p q r = rw (p, q, r)

-- Answers ------------------------------------------------------------------

pub words_are : (k : Kind) (c : Call) → length (words k c) ≡ need k c * width k
words_are rows c = words_length (rows_written c.text) (rows_of (reading c))
words_are errors c = words_length errors_written (state_of (reading c)).errors
words_are requests c = words_length requests_written (state_of (reading c)).requests

-- what the caller sees of an answer, in full
pub record Given (c : Call) (x : Seen) : Type 0 where
  pub answered : Answered x
  pub counts : (k : Kind) → count k x ≡ need k c
  pub scope : x.end_scope ≡ (state_of (reading c)).scope
  pub swallow : x.end_swallow ≡ (state_of (reading c)).swallow
  pub tables : (k : Kind) → table k x ≡ filled (words k c) (lent k c)

pub none_given : (c : Call) → refusal c ≡ none → Given c (exported (outcome c))
unfolding outcome exported needs
none_given c e = subst (λ (t : Test). Given c (exported (settled c t))) (sym e) (record { answered = refl; counts = counts_are; scope = refl; swallow = refl; tables = tables_are })
  where
    counts_are : (k : Kind) → count k (exported (settled c none)) ≡ need k c
    counts_are rows = refl
    counts_are errors = refl
    counts_are requests = refl

    tables_are : (k : Kind) → table k (exported (settled c none)) ≡ filled (words k c) (lent k c)
    tables_are rows = refl
    tables_are errors = refl
    tables_are requests = refl

-- Refusals for room --------------------------------------------------------

pub lacks_rooms : (k : Kind) (c : Call) → Before k c → Short k c → rooms c ≡ some (number k, need k c)
lacks_rooms rows c b h = ap (λ x. first (when x 6 (need rows c) ∷ short? errors c ∷ short? requests c ∷ [])) (lt-ltb _ _ h)
lacks_rooms errors c b h =
    ap₂ (λ x y. first (when x 6 (need rows c) ∷ when y 7 (need errors c) ∷ short? requests c ∷ [])) (le-ltb (room row_width c.rows) (need rows c) b) (lt-ltb _ _ h)
lacks_rooms requests c b h =
    ap₂ (λ x y. first (when x 6 (need rows c) ∷ when y 7 (need errors c) ∷ short? requests c ∷ [])) (le-ltb (room row_width c.rows) (need rows c) b.0)
    (le-ltb (room error_width c.errors) (need errors c) b.1)
    ∙ ap (λ x. first (when x 8 (need requests c) ∷ [])) (lt-ltb _ _ h)

-- the refusal comes if there is too little room, and gives the need
pub lacks_refused : (k : Kind) (c : Call) → Lacks k c → (outcome c).answer ≡ refused (number k) (need k c)
lacks_refused k c h = some_refusal c (number k) (need k c) (readable_rooms c h.readable ∙ lacks_rooms k c h.before h.short)

-- which of three tests gave this
three_first : (a b c : Bool) (x y z g : ℕ) → first (when a 6 x ∷ when b 7 y ∷ when c 8 z ∷ []) ≡ some (6, g) → (a ≡ true) × (g ≡ x)
three_first a b c x y z g e =
    when_this a 6 x g (when b 7 y ∷ when c 8 z ∷ []) (λ j h.
    let i = when_other b 7 y 6 j (when c 8 z ∷ []) (λ (p : 7 ≡ 6). omega arith) h in
    none_some (6, j) (when_other c 8 z 6 j [] (λ (p : 8 ≡ 6). omega arith) i.1).1) e

three_second : (a b c : Bool) (x y z g : ℕ) → first (when a 6 x ∷ when b 7 y ∷ when c 8 z ∷ []) ≡ some (7, g) → (a ≡ false) × (b ≡ true) × (g ≡ y)
three_second a b c x y z g e =
    let i = when_other a 6 x 7 g (when b 7 y ∷ when c 8 z ∷ []) (λ (p : 6 ≡ 7). omega arith) e in
    let j = when_this b 7 y g (when c 8 z ∷ []) (λ j h. none_some (7, j) (when_other c 8 z 7 j [] (λ (p : 8 ≡ 7). omega arith) h).1) i.1 in
    (i.0, j.0, j.1)

three_third : (a b c : Bool) (x y z g : ℕ) → first (when a 6 x ∷ when b 7 y ∷ when c 8 z ∷ []) ≡ some (8, g) → (a ≡ false) × (b ≡ false) × (c ≡ true) × (g ≡ z)
three_third a b c x y z g e =
    let i = when_other a 6 x 8 g (when b 7 y ∷ when c 8 z ∷ []) (λ (p : 6 ≡ 8). omega arith) e in
    let j = when_other b 7 y 8 g (when c 8 z ∷ []) (λ (p : 7 ≡ 8). omega arith) i.1 in
    let k = when_this c 8 z g [] (λ j h. none_some (8, j) h) j.1 in
    (i.0, j.0, k.0, k.1)

rooms_lack : (k : Kind) (c : Call) (g : ℕ) → rooms c ≡ some (number k, g) → Before k c × Short k c × (g ≡ need k c)
rooms_lack rows c g e =
    let x = three_first (tight rows c) (tight errors c) (tight requests c) (need rows c) (need errors c) (need requests c) g e in
    (tt, ltb-true _ _ x.0, x.1)
rooms_lack errors c g e =
    let x = three_second (tight rows c) (tight errors c) (tight requests c) (need rows c) (need errors c) (need requests c) g e in
    (ltb-false _ _ x.0, ltb-true _ _ x.1, x.2)
rooms_lack requests c g e =
    let x = three_third (tight rows c) (tight errors c) (tight requests c) (need rows c) (need errors c) (need requests c) g e in
    ((ltb-false _ _ x.0, ltb-false _ _ x.1), ltb-true _ _ x.2, x.3)

-- a refusal that is none of 1 to 5 comes from the tests behind theirs
five_other : (a c d e : Bool) (b : Option ℕ) (f h i j : ℕ) (ts : List Test) (n g : ℕ) → ((m : ℕ) → 0 < m → m < 6 → m ≡ n → ⊥)
    → first (when a 1 f ∷ found b 2 ∷ when c 3 h ∷ when d 4 i ∷ when e 5 j ∷ ts) ≡ some (n, g)
    → (a ≡ false) × (b ≡ none) × (c ≡ false) × (d ≡ false) × (e ≡ false) × (first ts ≡ some (n, g))
five_other a c d e b f h i j ts n g l z =
    let x₁ = when_other a 1 f n g (found b 2 ∷ when c 3 h ∷ when d 4 i ∷ when e 5 j ∷ ts) (l 1 (omega arith) (omega arith)) z in
    let x₂ = found_other b 2 n g (when c 3 h ∷ when d 4 i ∷ when e 5 j ∷ ts) (l 2 (omega arith) (omega arith)) x₁.1 in
    let x₃ = when_other c 3 h n g (when d 4 i ∷ when e 5 j ∷ ts) (l 3 (omega arith) (omega arith)) x₂.1 in
    let x₄ = when_other d 4 i n g (when e 5 j ∷ ts) (l 4 (omega arith) (omega arith)) x₃.1 in
    let x₅ = when_other e 5 j n g ts (l 5 (omega arith) (omega arith)) x₄.1 in
    (x₁.0, x₂.0, x₃.0, x₄.0, x₅.0, x₅.1)

room_number : (k : Kind) → 5 < number k
room_number rows = omega arith
room_number errors = omega arith
room_number requests = omega arith

room_readable : (k : Kind) (c : Call) (g : ℕ) → refusal c ≡ some (number k, g) → Readable c × (rooms c ≡ some (number k, g))
unfolding refusal needs
room_readable k c g e =
    let x = five_other _ _ _ _ (first_high 0 c.text) _ _ _ _ (short? rows c ∷ short? errors c ∷ short? requests c ∷ []) (number k) g (λ m p q r. omega (arith, room_number k)) e in (
      record {
        short = ltb-false _ _ x.0;
        plain = x.1;
        scope = ltb-false _ _ x.2;
        level = ltb-false _ _ x.3;
        deep = ltb-false _ _ x.4;
      },
      x.5,
    )

-- and only then
pub refused_lacks : (k : Kind) (c : Call) (g : ℕ) → (outcome c).answer ≡ refused (number k) g → Lacks k c × (g ≡ need k c)
refused_lacks k c g e =
    let x = room_readable k c g (refusal_some c (number k) g e) in
    let y = rooms_lack k c g x.1 in
    (record { readable = x.0; before = y.0; short = y.1 }, y.2)

-- What is seen of an answer --------------------------------------------------

pub code_refused : (k : Kind) (r : Answer Counts) → code_of r ≡ number k → r ≡ refused (number k) (given_of r)
code_refused k (answered n) h = absurd (let z : ⊥ = omega (arith, room_number k) in z)
code_refused k (refused n g) h = ap (λ (i : ℕ). refused i g) h

-- no refusal has the number 0, so that what is seen as an answer is one
number_not_zero : (c : Call) (g : ℕ) → refusal c ≡ some (0, g) → ⊥
unfolding refusal needs
number_not_zero c g e =
    let x =
    five_other (ltb max_text (length c.text)) (ltb max_scope c.scope) (ltb max_level c.level) (ltb c.level (state_of (reading c)).peak) (first_high 0 c.text) (length c.text) c.scope
    c.level c.level (short? rows c ∷ short? errors c ∷ short? requests c ∷ []) 0 g (λ m p q r. omega arith) e in
    let y = when_other (tight rows c) 6 (need rows c) 0 g (short? errors c ∷ short? requests c ∷ []) (λ (p : 6 ≡ 0). omega arith) x.5 in
    let z = when_other (tight errors c) 7 (need errors c) 0 g (short? requests c ∷ []) (λ (p : 7 ≡ 0). omega arith) y.1 in
    none_some (0, g) (when_other (tight requests c) 8 (need requests c) 0 g [] (λ (p : 8 ≡ 0). omega arith) z.1).1

pub answered_none : (c : Call) → Answered (exported (outcome c)) → refusal c ≡ none
unfolding outcome exported
answered_none c e = go (refusal c) refl e
  where
    go : (t : Test) → refusal c ≡ t → code_of (settled c t).answer ≡ 0 → refusal c ≡ none
    go none p q = p
    go (some (m, h)) p q = absurd (number_not_zero c h (p ∙ ap (λ (i : ℕ). some (i, h)) q))
