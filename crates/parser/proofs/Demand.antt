-- Demand 3 (specs/Demand) of the outcome, of whatever shows it, and of `parser::read`.
use mathlib.Core.Path.{◌≡◌, refl, ap, ap₂, sym, subst, ◌∙◌}
use mathlib.Core.Bool.{Bool, true, false}
use mathlib.Core.List.{List}
use mathlib.Core.Logic.{◌⊎◌, inl, inr}
use Prim.Native.Nat.{ℕ, zero, suc, ◌+◌, ◌*◌, ◌-◌, ◌≤◌, ◌<◌}
use native.Mathlib.Omega.{arith}
use borrow.Author.Tests.{ltb-true, ltb-false}
use lib.Dec.{ltb}
use lib.ListN.{length, take, drop, length-append}
use lib.Seq.{take_at, drop_at}
use Rattle.reading.specs.Grammar.{Rows, Reply}
use Rattle.reading.specs.Reading.{rows_of, state_of}
use Rattle.reading.specs.Table.{max_text, max_level, first_high, row_words, error_words, request_words, zeros}
use Rattle.reading.specs.Outcome.{Call, reading, outcome}
use Rattle.parser.specs.Answers.{Meets, Answer}
use Rattle.parser.specs.Seen.{code_of, Seen, exported, answer_seen}
use Rattle.parser.specs.Demand.{Kind, rows, errors, requests, number, width, lent, room_of, need, count, table, Answered, Refused, Readable, Enough, Before, Lacks, OneCall, SameText, Larger, Unchanged, size, records, Whole, Repeats, TwoCalls, Demand3}
use Rattle.parser.proofs.Room.{words, words_are, Given, none_given, none_fits, fits_none, answered_none, code_refused, refused_lacks, lacks_refused}

-- One call -------------------------------------------------------------------

refused_seen : (k : Kind) (c : Call) → Refused k (exported (outcome c)) → Lacks k c × ((exported (outcome c)).given ≡ need k c)
unfolding exported
refused_seen k c h = refused_lacks k c _ (code_refused k (outcome c).answer h)

lacks_seen : (k : Kind) (c : Call) → Lacks k c → Refused k (exported (outcome c))
unfolding exported
lacks_seen k c h = ap code_of (lacks_refused k c h)

answered_seen : (c : Call) → Answered (exported (outcome c)) → Given c (exported (outcome c))
answered_seen c h = none_given c (answered_none c h)

outcome_one : (c : Call) → OneCall c (exported (outcome c))
outcome_one c =
    record {
      named = λ k h. (refused_seen k c h).1;
      exact = λ k. (λ h. (refused_seen k c h).0, lacks_seen k c);
      answers = (λ h. none_fits c (answered_none c h), λ h. (none_given c (fits_none c h.0 h.1)).answered);
      counts = λ h. (answered_seen c h).counts;
    }

-- a readable call with room for the kinds that are tested before this one is refused for it, or has room for it
lacks_or_fits : (k : Kind) (c : Call) → Readable c → Before k c → Refused k (exported (outcome c)) ⊎ Enough k c
lacks_or_fits k c r b = go (ltb (room_of k c) (need k c)) refl
  where
    go : (t : Bool) → ltb (room_of k c) (need k c) ≡ t → Refused k (exported (outcome c)) ⊎ Enough k c
    go true h = inl (lacks_seen k c (record { readable = r; before = b; short = ltb-true _ _ h }))
    go false h = inr (ltb-false _ _ h)

abbrev Later : ℕ → Call → Type 0
Later n c = Answered (exported (outcome c)) ⊎ (n < (exported (outcome c)).code)

-- with room for this kind too, it is answered or refused for a later kind
settles : (k : Kind) (c : Call) → Readable c → Before k c → Enough k c → Later (number k) c
settles k c r = go k
  where
    each : Before requests c → Enough requests c → (j : Kind) → Enough j c
    each b e rows = b.0
    each b e errors = b.1
    each b e requests = e

    to_requests : Before requests c → Refused requests (exported (outcome c)) ⊎ Enough requests c → Later 7 c
    to_requests b (inl h) = inr (omega (arith, h))
    to_requests b (inr e) = inl (none_given c (fits_none c r (each b e))).answered

    sooner : Later 7 c → Later 6 c
    sooner (inl h) = inl h
    sooner (inr h) = inr (omega (arith, h))

    to_errors : Before errors c → Refused errors (exported (outcome c)) ⊎ Enough errors c → Later 6 c
    to_errors b (inl h) = inr (omega (arith, h))
    to_errors b (inr e) = sooner (to_requests (b, e) (lacks_or_fits requests c r (b, e)))

    go : (k : Kind) → Before k c → Enough k c → Later (number k) c
    go rows b e = to_errors e (lacks_or_fits errors c r e)
    go errors b e = to_requests (b, e) (lacks_or_fits requests c r (b, e))
    go requests b e = inl (none_given c (fits_none c r (each b e))).answered

-- The records of an answer ---------------------------------------------------

length_zeros : (n : ℕ) → length (zeros n) ≡ n
length_zeros zero = refl
length_zeros (suc n) = ap suc (length_zeros n)

module _ (c : Call) (x : Seen) (g : Given c x) where
  abbrev rest : Kind → List ℕ
  rest k = zeros (length (lent k c) - length (words k c))

  size_is : (k : Kind) → length (words k c) ≡ size k x
  size_is k = words_are k c ∙ ap (λ (n : ℕ). n * width k) (sym (g.counts k))

  pub records_are : (k : Kind) → records k x ≡ words k c
  records_are k = ap (take (size k x)) (g.tables k) ∙ take_at (words k c) (rest k) (size k x) (size_is k)

  rest_is : (k : Kind) → rest k ≡ zeros (length (table k x) - size k x)
  rest_is k =
      let y : length (table k x) ≡ length (words k c) + length (rest k) = ap length (g.tables k) ∙ length-append (words k c) (rest k) in
      ap zeros
      (let z : length (lent k c) - length (words k c) ≡ length (table k x) - size k x =
      omega (arith, y, size_is k, length_zeros (length (lent k c) - length (words k c))) in z)

  pub whole : (k : Kind) → Whole k x
  whole k =
      record {
        long = ap length (records_are k) ∙ size_is k;
        behind = ap (drop (size k x)) (g.tables k) ∙ (drop_at (words k c) (rest k) (size k x) (size_is k) ∙ rest_is k);
      }

-- Two calls ------------------------------------------------------------------

module _ (a b : Call) (s : SameText a b) where
  same_reading : reading a ≡ reading b
  same_reading = cc (s.text, s.scope, s.swallow)

  same_need : (k : Kind) → need k a ≡ need k b
  same_need rows = ap (λ (o : Reply Rows). length (rows_of o)) same_reading
  same_need errors = ap (λ (o : Reply Rows). length (state_of o).errors) same_reading
  same_need requests = ap (λ (o : Reply Rows). length (state_of o).requests) same_reading

  same_words : (k : Kind) → words k a ≡ words k b
  same_words rows = ap₂ (λ (t : List ℕ) (o : Reply Rows). row_words t (rows_of o)) s.text same_reading
  same_words errors = ap (λ (o : Reply Rows). error_words (state_of o).errors) same_reading
  same_words requests = ap (λ (o : Reply Rows). request_words (state_of o).requests) same_reading

  still_readable : a.level ≤ b.level → b.level ≤ max_level → Readable a → Readable b
  still_readable h i r =
      record {
        short = subst (λ (t : List ℕ). length t ≤ max_text) s.text r.short;
        plain = ap (first_high 0) (sym s.text) ∙ r.plain;
        scope = omega (arith, s.scope, r.scope);
        level = i;
        deep = let z = ap (λ (o : Reply Rows). (state_of o).peak) same_reading in omega (arith, z, r.deep, h);
      }

  still_enough : (k : Kind) → room_of k a ≤ room_of k b → Enough k a → Enough k b
  still_enough k h e = omega (arith, same_need k, h, e)

  -- a kind that is tested before this one has the room that it had
  still_earlier : (j k : Kind) → number j < number k → Unchanged k a b → Enough j a → Enough j b
  still_earlier j k l u e = let z = u.rooms j (λ p. let i = ap number p in omega (arith, l, i)) in still_enough j (omega (arith, z)) e

  still_before : (k : Kind) → Unchanged k a b → Before k a → Before k b
  still_before rows u e = tt
  still_before errors u e = still_earlier rows errors (omega arith) u e
  still_before requests u e = (still_earlier rows requests (omega arith) u e.0, still_earlier errors requests (omega arith) u e.1)

  abbrev x : Seen
  x = exported (outcome a)

  abbrev y : Seen
  y = exported (outcome b)

  grown : Larger a b → Answered x → Repeats x y
  grown l h =
      let e = none_fits a (answered_none a h) in
      let fit : (k : Kind) → Enough k b = λ k. still_enough k (l.rooms k) (e.1 k) in
      let g = answered_seen a h in
      let i = none_given b (fits_none b (still_readable l.level l.allowed e.0) fit) in
      record {
        answered = i.answered;
        counts = λ k. counted g i k;
        scope = i.scope ∙ (ap (λ (o : Reply Rows). (state_of o).scope) (sym same_reading) ∙ sym g.scope);
        swallow = i.swallow ∙ (ap (λ (o : Reply Rows). (state_of o).swallow) (sym same_reading) ∙ sym g.swallow);
        same = λ k. records_are b y i k ∙ (sym (same_words k) ∙ sym (records_are a x g k));
        first = whole a x g;
        second = whole b y i;
      }
    where
      counted : Given a x → Given b y → (k : Kind) → count k y ≡ count k x
      counted g i k = i.counts k ∙ (sym (same_need k) ∙ sym (g.counts k))

  named : (k : Kind) → Refused k x → x.given ≡ need k b
  named k h = (refused_seen k a h).1 ∙ same_need k

  still_tested : (k : Kind) → Unchanged k a b → Refused k x → Readable b × Before k b
  still_tested k u h =
      let l = (refused_seen k a h).0 in
      (still_readable (omega (arith, u.level)) (omega (arith, u.level, l.readable.level)) l.readable, still_before k u l.before)

  exactly : (k : Kind) → Unchanged k a b → Refused k x → (Refused k y → room_of k b < x.given) × (room_of k b < x.given → Refused k y)
  exactly k u h = (
    λ i. let z = (refused_seen k b i).0.short in omega (arith, named k h, z),
    λ i. let r = still_tested k u h in lacks_seen k b (record { readable = r.0; before = r.1; short = omega (arith, named k h, i) }),
  )

  pub outcome_two : TwoCalls a x b y
  outcome_two =
      record {
        grows = grown;
        needs = same_need;
        gives = λ k h i. (refused_seen k b i).1 ∙ sym (named k h);
        has = λ k h i. (answered_seen b i).counts k ∙ sym (named k h);
        exact = λ k u h. (exactly k u h, λ i. (refused_seen k b i).1 ∙ sym (named k h));
        again = λ k u h i.
            let r = still_tested k u h in
            subst (λ (n : ℕ). Answered y ⊎ (n < y.code)) (sym h) (settles k b r.0 r.1 (omega (arith, named k h, i)));
      }

-- The calls ------------------------------------------------------------------

-- any two outcomes, and whatever shows them
pub outcome_room : (a b : Call) → Demand3 a (exported (outcome a)) b (exported (outcome b))
outcome_room a b = record { first = outcome_one a; second = outcome_one b; both = outcome_two a b }

pub shown_room : {a b : Call} {x y : Seen} → x ≡ exported (outcome a) → y ≡ exported (outcome b) → Demand3 a x b y
shown_room {a} {b} {x} {y} p q = subst (λ (v : Seen). Demand3 a v b y) (sym p) (subst (Demand3 a (exported (outcome a)) b) (sym q) (outcome_room a b))

-- `parser::read`: any two calls that meet the contract
pub read_room : {a b : Call} {t₁ e₁ q₁ t₂ e₂ q₂ : List ℕ} {r₁ r₂ : Answer} → Meets a t₁ e₁ q₁ r₁ → Meets b t₂ e₂ q₂ r₂
    → Demand3 a (answer_seen a t₁ e₁ q₁ r₁) b (answer_seen b t₂ e₂ q₂ r₂)
read_room m n = shown_room (ap exported m.outcome_is) (ap exported n.outcome_is)
