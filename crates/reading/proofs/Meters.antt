-- Errors, requests and scope numbers are paid for by bytes. A meter is a number read off the state, with a price for each thing that may raise
-- it. `fair` and `dues`, which antt computes, say that a parser's bytes pay for what it does to the meter, and that what fails has done nothing
-- to it. One induction over the parsers shows it for every meter; three meters bound the errors, the requests and the scope numbers of a text.
use mathlib.Core.Path.{◌≡◌, refl, ap, sym, subst}
use mathlib.Core.Bool.{Bool, true, false, ◌&&◌, ◌||◌, not}
use mathlib.Core.List.{List, [], ◌∷◌, ◌++◌}
use Prim.Native.Nat.{ℕ, zero, suc, ◌+◌, ◌≤◌}
use native.Mathlib.Omega.{arith}
use lib.Dec.{T, leb→le, ltb}
use lib.ListN.{length, length-append}
use Rattle.reading.specs.Byte.{is}
use Rattle.reading.specs.Kind.{charᵏ}
use Rattle.reading.specs.Grammar.{Rows, State, Error, Request, Input, Reply, ok, err, one, Rule, expr, config, stmt, Parser, empty, ◌▸◌, ◌or◌, never, many0, leaf, rule, unterminated, node, pick, over, scoped, import, argument, chain, bracket, braced, complain, expect, reported, swallowing, numbered, requested, raised, error_at, request_of, root, joined, Act, then, else, with, gate, last_round, next_round, rounds, always, char_at, closed, parse}
use Rattle.reading.specs.Rules.{source_file, all_rules}
use Rattle.reading.specs.Reading.{start, rule_of, reads, written}
use Rattle.reading.specs.Summary.{Summary, fits, fails, noted, applied, scan, scans}
use Rattle.reading.proofs.Bool.{and_left, and_right}
use Rattle.reading.proofs.Ahead.{On, ahead}
use Rattle.reading.proofs.Tests.{quiet}
use Rattle.reading.proofs.Fuel.{reads_on}
use Rattle.reading.proofs.Quiet.{parse_quiet}
use Rattle.reading.proofs.Written.{written_in}
use Rattle.reading.proofs.Cost.{Cost, price, ◌⊕◌, paid, worse, worse_both, all_four}
use Rattle.reading.proofs.Moves.{moves, Past, moving, reads_moving, Succeeds, then_succeeds, rounds_succeed}
use Rattle.reading.proofs.Answers.{sure, else_succeeds, with_succeeds, answers}

-- Meters -------------------------------------------------------------------

-- what a report, a scope number and a request may raise a meter by
pub record Prices : Type 0 where
  pub report : ℕ
  pub number : ℕ
  pub request : ℕ

-- levels and open comments leave it
pub record Meter (c : Prices) (μ : State → ℕ) : Type 0 where
  pub levels : (l : ℕ) (w : State) → μ (raised l w) ≤ μ w
  pub comments : (i : ℕ) (w : State) → μ (swallowing (reported (error_at 1 i) w)) ≤ μ w
  pub reports : (e : Error) (w : State) → μ (reported e w) ≤ μ w + c.report
  pub numbers : (w : State) → μ (numbered w) ≤ μ w + c.number
  pub requests : (q : Request) (w : State) → μ (requested q w) ≤ μ w + c.request

-- The test -----------------------------------------------------------------

abbrev pub bit : Bool → ℕ
bit true = 1
bit false = 0

-- what is quiet owes nothing, and has a byte to spare where it moves
abbrev pub spare : Parser → Cost
spare m = price (bit (moves m)) 0

-- what `braced` reads around its items
abbrev pub brace : ℕ → Parser → Parser
brace i t = node charᵏ (always i) t (leaf (one (is i)))

-- what a parser adds to the meter is at most its bytes, less `gain`, and `debt` more
abbrev pub dues : Prices → Parser → Cost
dues c empty = price 0 0
dues c (m ▸ n) = dues c m ⊕ dues c n
dues c (m or n) = worse (dues c m) (dues c n)
dues c (never m) = price 0 0
dues c (many0 m) = price 0 0
dues c (leaf f) = spare (leaf f)
dues c (rule x) = price 0 0
dues c unterminated = price 0 0
dues c (node k d t m) = spare (node k d t m)
dues c (pick k t xs) = spare (pick k t xs)
dues c (over k d m n) = dues c m ⊕ dues c n
dues c (scoped k m n) = dues c m ⊕ (dues c n ⊕ price 0 c.number)
dues c (import m n s b) = spare m ⊕ (spare n ⊕ (spare s ⊕ (dues c b ⊕ price 0 (c.number + c.request))))
dues c (argument t m) = spare (argument t m)
dues c (chain o m) = spare (chain o m)
dues c (bracket t i m) = spare (bracket t i m)
dues c (braced t m) = spare (brace 123 t) ⊕ (price 0 0 ⊕ worse (spare (brace 125 t)) (price 0 c.report))
dues c (complain m) = dues c m ⊕ price 0 c.report
dues c (expect i m) = worse (dues c m) (price 0 c.report)

-- what is read in rounds moves and pays for itself; and what stands before something that may fail is quiet, so that a failure leaves the meter
abbrev pub fair : Prices → Parser → Bool
fair c empty = true
fair c (m ▸ n) = (fair c m && fair c n) && (quiet m || sure n)
fair c (m or n) = fair c m && fair c n
fair c (never m) = quiet m
fair c (many0 m) = fair c m && (moves m && paid (dues c m))
fair c (leaf f) = true
fair c (rule x) = true
fair c unterminated = true
fair c (node k d t m) = quiet t && quiet m
fair c (pick k t xs) = quiet t
fair c (over k d m n) = (fair c m && fair c n) && (quiet m || sure n)
fair c (scoped k m n) = (fair c m && fair c n) && (quiet m || sure n)
fair c (import m n s b) = (quiet m && quiet n) && (quiet s && fair c b)
fair c (argument t m) = quiet t && quiet m
fair c (chain o m) = quiet o && quiet m
fair c (bracket t i m) = quiet t && quiet m
fair c (braced t m) = quiet t && (fair c m && (moves m && paid (dues c m)))
fair c (complain m) = fair c m
fair c (expect i m) = fair c m

-- What the test means ------------------------------------------------------

-- the state that a reply leaves stands no higher than w
abbrev pub Still : {A : Type 0} → (State → ℕ) → State → Reply A → Type 0
Still μ w (ok a q v) = μ v ≤ μ w
Still μ w (err v) = μ v ≤ μ w

-- a reply from p and w at this cost; a failure leaves the meter
abbrev pub Paid : {A : Type 0} → (State → ℕ) → Cost → Input → State → Reply A → Type 0
Paid μ c p w (ok a q v) = μ v + p.at + c.gain ≤ μ w + q.at + c.debt
Paid μ c p w (err v) = μ v ≤ μ w

pub record Metered {A : Type 0} (μ : State → ℕ) (c : Cost) (p : Input) (w : State) (r : Reply A) : Type 0 where
  pub pays : Paid μ c p w r

first_succeeds : {A B : Type 0} (r : Reply A) (f : A → Input → State → Reply B) → Succeeds (then r f) → Succeeds r
first_succeeds (ok a q v) f s = tt
first_succeeds (err v) f s = s

module _ {μ : State → ℕ} where
  -- at a higher cost, and from a state that stands higher
  cheaper : {A : Type 0} {c d : Cost} {p : Input} {w : State} {r : Reply A} → d.gain + c.debt ≤ c.gain + d.debt → Metered μ c p w r → Metered μ d p w r
  cheaper {r = ok a q v} h i = record { pays = omega (arith, i.pays) }
  cheaper {r = err v} h i = record { pays = i.pays }

  from_above : {A : Type 0} {c : Cost} {p : Input} {v w : State} {r : Reply A} → μ v ≤ μ w → Metered μ c p v r → Metered μ c p w r
  from_above {r = ok a q u} h i = record { pays = omega (arith, i.pays) }
  from_above {r = err u} h i = record { pays = omega (arith, i.pays) }

  for_nothing : {A : Type 0} (c : Cost) {p : Input} {w : State} {r : Reply A} → T (paid c) → Metered μ c p w r → Metered μ (price 0 0) p w r
  for_nothing c t h = cheaper (omega (arith, leb→le c.debt c.gain t)) h

  -- x: the first is quiet; y: what follows never fails
  behind_paid : {A B : Type 0} (x y : Bool) {c d : Cost} {p q : Input} {v w : State} {a : A} {r : Reply B}
      → T (x || y) → (T x → μ v ≤ μ w) → (T y → Succeeds r) → Metered μ c p w (ok a q v) → Metered μ d q v r → Metered μ (c ⊕ d) p w r
  behind_paid x y {r = ok b s t} u i j h e = record { pays = omega (arith, h.pays, e.pays) }
  behind_paid true y {r = err t} u i j h e = record { pays = omega (arith, i tt, e.pays) }
  behind_paid false y {r = err t} u i j h e = absurd (j u)

  then_paid : {A B : Type 0} (x y : Bool) {c d : Cost} {p : Input} {w : State} {r : Reply A} {k : A → Input → State → Reply B}
      → T (x || y) → (T x → Still μ w r) → (T y → (a : A) (q : Input) (v : State) → Succeeds (k a q v))
      → Metered μ c p w r → ((a : A) (q : Input) (v : State) → Metered μ d q v (k a q v)) → Metered μ (c ⊕ d) p w (then r k)
  then_paid x y {r = ok a q v} u i j h e = behind_paid x y u i (λ t. j t a q v) h (e a q v)
  then_paid x y {r = err v} u i j h e = record { pays = h.pays }

  -- whatever is made of what was read
  made_paid : {A B : Type 0} (f : A → Input → State → B) {c : Cost} {p : Input} {w : State} {r : Reply A}
      → Metered μ c p w r → Metered μ c p w (then r λ a q v. ok (f a q v) q v)
  made_paid f {r = ok a q v} h = record { pays = h.pays }
  made_paid f {r = err v} h = record { pays = h.pays }

  -- and what is done to the state then, for k
  done_paid : {A B : Type 0} (f : A → Input → State → B) (g : A → State → State) (k : ℕ) {c : Cost} {p : Input} {w : State} {r : Reply A}
      → ((a : A) (v : State) → μ (g a v) ≤ μ v + k) → Metered μ c p w r → Metered μ (c ⊕ price 0 k) p w (then r λ a q v. ok (f a q v) q (g a v))
  done_paid f g k {r = ok a q v} i h = record { pays = omega (arith, i a v, h.pays) }
  done_paid f g k {r = err v} i h = record { pays = h.pays }

  else_paid : {A : Type 0} (c d : Cost) {p : Input} {w : State} {r : Reply A} {k : State → Reply A}
      → Metered μ c p w r → ((v : State) → Metered μ d p v (k v)) → Metered μ (worse c d) p w (else r k)
  else_paid c d {r = ok a q v} h e = cheaper (worse_both c d).0 (record { pays = h.pays })
  else_paid c d {r = err v} h e = cheaper (worse_both c d).1 (from_above h.pays (e v))

  with_paid : {A B : Type 0} (f : A → B) {c : Cost} {p : Input} {w : State} {r : Reply A} → Metered μ c p w r → Metered μ c p w (with f r)
  with_paid f {r = ok a q v} h = record { pays = h.pays }
  with_paid f {r = err v} h = record { pays = h.pays }

  quiet_paid : {A : Type 0} (b : Bool) {p : Input} {w : State} (r : Reply A) → Still μ w r → On p r → (T b → Past p r) → Metered μ (price (bit b) 0) p w r
  quiet_paid true (ok a q v) s h i = record { pays = omega (arith, i tt) }
  quiet_paid false (ok a q v) s h i = record { pays = omega arith }
  quiet_paid b (err v) s h i = record { pays = s }

  -- rounds that pay for themselves and do not fail
  last_paid : {A : Type 0} (p : Input) (w : State) (r : Reply A) → Metered μ (price 0 0) p w r → Succeeds (last_round p r)
      → Metered μ (price 0 0) p w (last_round p r)
  last_paid p w (ok a q v) h s = absurd s
  last_paid p w (err v) h s = record { pays = omega (arith, h.pays) }

  gate_paid : {A : Type 0} (b : Bool) (v : State) (k : Unit {0} → Reply A) {c : Cost} {p : Input} {w : State}
      → (Succeeds (k tt) → Metered μ c p w (k tt)) → Succeeds (gate b v k) → Metered μ c p w (gate b v k)
  gate_paid true v k h s = h s
  gate_paid false v k h s = absurd s

  next_paid : {A : Type 0} (p : Input) (w : State) (r : Reply A) (k : Input → State → Reply (List A)) → Metered μ (price 0 0) p w r
      → ((q : Input) (v : State) → Succeeds (k q v) → Metered μ (price 0 0) q v (k q v)) → Succeeds (next_round p r k)
      → Metered μ (price 0 0) p w (next_round p r k)
  next_paid p w (ok a q v) k h e =
      gate_paid (ltb p.at q.at) v (λ t. then (k q v) λ rest r u. ok (a ∷ rest) r u)
      λ s. behind_paid false true tt (λ t. absurd t) (λ t. s) h
      (made_paid (λ rest r u. a ∷ rest) (e q v (first_succeeds (k q v) (λ rest r u. ok (a ∷ rest) r u) s)))
  next_paid p w (err v) k h e = λ s. record { pays = omega (arith, h.pays) }

  rounds_paid : {A : Type 0} (m : Act A) → ((l : ℕ) (p : Input) (w : State) → Metered μ (price 0 0) p w (m l p w))
      → (f : List ℕ) (l : ℕ) (p : Input) (w : State) → Succeeds (rounds m f l p w) → Metered μ (price 0 0) p w (rounds m f l p w)
  rounds_paid m h [] l p w s = last_paid p w (m l p w) (h l p w) s
  rounds_paid m h (b ∷ f) l p w s = next_paid p w (m l p w) (λ q v. rounds m f l q v) (h l p w) (λ q v t. rounds_paid m h f l q v t) s

-- Parsers ------------------------------------------------------------------

and_also : (b : Bool) → T b → T (b && true)
and_also true t = tt
and_also false t = t

module _ {c : Prices} {μ : State → ℕ} (M : Meter c μ) where
  noted_still : (e : ℕ) (b : Bool) (w : State) → μ (noted e b w) ≤ μ w
  noted_still e true w = M.comments e w
  noted_still e false w = omega arith

  applied_still : (e : ℕ) (s : Summary Rows) (w : State) → Still μ w (applied e s w)
  applied_still e (fits a q b k) w = omega (arith, M.levels k (noted e b w), noted_still e b w)
  applied_still e (fails b k) w = omega (arith, M.levels k (noted e b w), noted_still e b w)

  still : (n : ℕ) (m : Parser) → T (quiet m) → (l : ℕ) (p : Input) (w : State) → Still μ w (parse (reads n) m l p w)
  still n m u l p w =
      let e = p.at + length p.left in
      subst (Still μ w) (sym (parse_quiet e n m u l p w refl)) (applied_still e (scan (scans n) m l p) w)

  -- with rules that pay for themselves
  module _ (n : ℕ) (r : (x : Rule) (l : ℕ) (p : Input) (w : State) → Metered μ (price 0 0) p w (reads n x l p w)) where
    quiet_metered : (m : Parser) → T (quiet m) → (l : ℕ) (p : Input) (w : State) → Metered μ (spare m) p w (parse (reads n) m l p w)
    quiet_metered m u l p w =
        quiet_paid (moves m) (parse (reads n) m l p w) (still n m u l p w) (ahead (reads n) (reads_on n) m l p w)
        λ t. moving (reads n) (reads_on n) (reads_moving n) m t l p w

    -- a quiet parser, and what stands behind it
    first : {B : Type 0} (m : Parser) → T (quiet m) → {d : Cost} (l : ℕ) (p : Input) (w : State) {k : Rows → Input → State → Reply B}
        → ((a : Rows) (q : Input) (v : State) → Metered μ d q v (k a q v)) → Metered μ (spare m ⊕ d) p w (then (parse (reads n) m l p w) k)
    first m u l p w e = then_paid true false tt (λ t. still n m u l p w) (λ t. absurd t) (quiet_metered m u l p w) e

    succeeds : (m : Parser) → T (sure m) → (l : ℕ) (p : Input) (w : State) → Succeeds (parse (reads n) m l p w)
    succeeds m u l p w = answers (reads n) (reads_on n) (reads_moving n) m u l p w

    -- items, each of which moves and pays for itself
    rounds_metered : (m : Parser) → T (moves m && paid (dues c m)) → ((l : ℕ) (p : Input) (w : State) → Metered μ (dues c m) p w (parse (reads n) m l p w))
        → (l : ℕ) (p : Input) (w : State)
        → Succeeds (rounds (parse (reads n) m) p.left l p w) × Metered μ (price 0 0) p w (rounds (parse (reads n) m) p.left l p w)
    rounds_metered m u h l p w =
        let s = rounds_succeed (parse (reads n) m) (ahead (reads n) (reads_on n) m)
        (moving (reads n) (reads_on n) (reads_moving n) m (and_left (moves m) (paid (dues c m)) u)) p.left l p w (omega arith) in
        (s, rounds_paid (parse (reads n) m) (λ l p w. for_nothing (dues c m) (and_right (moves m) (paid (dues c m)) u) (h l p w)) p.left l p w s)

    metered : (m : Parser) → T (fair c m) → (l : ℕ) (p : Input) (w : State) → Metered μ (dues c m) p w (parse (reads n) m l p w)
    metered empty u l p w = quiet_metered empty tt l p w
    metered (m ▸ k) u l p w =
        let mk = and_left (fair c m && fair c k) (quiet m || sure k) u in
        then_paid (quiet m) (sure k) (and_right (fair c m && fair c k) (quiet m || sure k) u) (λ t. still n m t l p w)
        (λ t a q v. with_succeeds (a ++◌) (parse (reads n) k l q v) (succeeds k t l q v)) (metered m (and_left (fair c m) (fair c k) mk) l p w)
        λ a q v. with_paid (a ++◌) (metered k (and_right (fair c m) (fair c k) mk) l q v)
    metered (m or k) u l p w =
        else_paid (dues c m) (dues c k) (metered m (and_left (fair c m) (fair c k) u) l p w) λ v. metered k (and_right (fair c m) (fair c k) u) l p v
    metered (never m) u l p w = quiet_metered (never m) u l p w
    metered (many0 m) u l p w =
        let rest = moves m && paid (dues c m) in
        with_paid joined (rounds_metered m (and_right (fair c m) rest u) (metered m (and_left (fair c m) rest u)) l p w).1
    metered (leaf f) u l p w = quiet_metered (leaf f) u l p w
    metered (rule x) u l p w = r x l p w
    metered unterminated u l p w = quiet_metered unterminated u l p w
    metered (node k d t m) u l p w = quiet_metered (node k d t m) u l p w
    metered (pick k t xs) u l p w = quiet_metered (pick k t xs) u l p w
    metered (over k d m s) u l p w =
        let ms = and_left (fair c m && fair c s) (quiet m || sure s) u in
        then_paid (quiet m) (sure s) (and_right (fair c m && fair c s) (quiet m || sure s) u) (λ t. still n m t l p w)
        (λ t a q v. then_succeeds (parse (reads n) s l q v) _ (succeeds s t l q v) λ b x y. tt) (metered m (and_left (fair c m) (fair c s) ms) l p w)
        λ a q v. made_paid _ (metered s (and_right (fair c m) (fair c s) ms) l q v)
    metered (scoped k m s) u l p w =
        let ms = and_left (fair c m && fair c s) (quiet m || sure s) u in
        then_paid (quiet m) (sure s) (and_right (fair c m && fair c s) (quiet m || sure s) u) (λ t. still n m t l p w)
        (λ t a q v. then_succeeds (parse (reads n) s l q v) _ (succeeds s t l q v) λ b x y. tt) (metered m (and_left (fair c m) (fair c s) ms) l p w)
        λ a q v. done_paid _ (λ b x. numbered x) c.number (λ b x. M.numbers x) (metered s (and_right (fair c m) (fair c s) ms) l q v)
    metered (import m k s b) u l p w =
        first m (all_four (quiet m) (quiet k) (quiet s) (fair c b) u).0 l p w
        λ a q v. first k (all_four (quiet m) (quiet k) (quiet s) (fair c b) u).1 l q v
        λ d x y. first s (all_four (quiet m) (quiet k) (quiet s) (fair c b) u).2 l x y
        λ f z t. done_paid _ (λ _ v. requested (request_of f) (numbered v)) (c.number + c.request)
        (λ _ v. omega (arith, M.requests (request_of f) (numbered v), M.numbers v)) (metered b (all_four (quiet m) (quiet k) (quiet s) (fair c b) u).3 l z t)
    metered (argument t m) u l p w = quiet_metered (argument t m) u l p w
    metered (chain o m) u l p w = quiet_metered (chain o m) u l p w
    metered (bracket t i m) u l p w = quiet_metered (bracket t i m) u l p w
    metered (braced t m) u l p w =
        let rest = moves m && paid (dues c m) in
        let ut = and_left (quiet t) (fair c m && rest) u in
        let um = and_right (quiet t) (fair c m && rest) u in
        first (brace 123 t) (and_also (quiet t) ut) l p w
        λ a q v.
        let x = raised (suc l) v in
        let items = rounds_metered m (and_right (fair c m) rest um) (metered m (and_left (fair c m) rest um)) (suc l) q x in
        then_paid false true tt (λ e. absurd e)
        (λ _ rs r y. with_succeeds (λ b. a ++ joined rs ++ b) (closed (root a) r (parse (reads n) t (suc l) r y))
        (else_succeeds (char_at 125 r (parse (reads n) t (suc l) r y)) _ λ z. tt))
        (from_above (M.levels (suc l) v) items.1)
        λ rs r y. with_paid (λ b. a ++ joined rs ++ b)
        (else_paid (spare (brace 125 t)) (price 0 c.report) (quiet_metered (brace 125 t) (and_also (quiet t) ut) (suc l) r y)
        λ z. record { pays = omega (arith, M.reports (error_at 5 r.at) z) })
    metered (complain m) u l p w =
        done_paid _ (λ a v. reported (record { code = 2; low = (root a).low; high = (root a).high }) v) c.report
        (λ a v. M.reports (record { code = 2; low = (root a).low; high = (root a).high }) v) (metered m u l p w)
    metered (expect i m) u l p w =
        else_paid (dues c m) (price 0 c.report) (metered m u l p w) λ v. record { pays = omega (arith, M.reports (error_at i p.at) v) }

-- The rules, and a text ----------------------------------------------------

abbrev pub affordable : Prices → Parser → Bool
affordable c m = fair c m && paid (dues c m)

module _ {c : Prices} {μ : State → ℕ} (M : Meter c μ) (a : (x : Rule) → T (affordable c (rule_of x))) where
  pub reads_metered : (n : ℕ) (x : Rule) (l : ℕ) (p : Input) (w : State) → Metered μ (price 0 0) p w (reads n x l p w)
  reads_metered zero x l p w = record { pays = omega arith }
  reads_metered (suc n) x l p w =
      let m = rule_of x in
      for_nothing (dues c m) (and_right (fair c m) (paid (dues c m)) (a x)) (metered M n (reads_metered n) m (and_left (fair c m) (paid (dues c m)) (a x)) l p w)

  pub parse_metered : (n : ℕ) (m : Parser) → T (fair c m) → (l : ℕ) (p : Input) (w : State) → Metered μ (dues c m) p w (parse (reads n) m l p w)
  parse_metered n m u l p w = metered M n (reads_metered n) m u l p w

  -- a text raises the meter by one for a byte at most
  pub written_metered : T (affordable c source_file) → (t : List ℕ) (n : ℕ) (f : Bool) (v : Rows) (q : Input) (w : State)
      → written t n f ≡ ok v q w → μ w ≤ μ (start n f) + length t
  unfolding written
  written_metered u t n f v q w e =
      let m = source_file in
      let h = subst (Metered μ (price 0 0) (record { at = 0; left = t }) (start n f)) e
      (for_nothing (dues c m) (and_right (fair c m) (paid (dues c m)) u)
      (parse_metered (length t) m (and_left (fair c m) (paid (dues c m)) u) 0 (record { at = 0; left = t }) (start n f))) in
      omega (arith, h.pays, written_in t n f v q w e)

-- Errors -------------------------------------------------------------------

-- the errors, and one more while the flag is clear: an open comment's, which may still come and sets the flag
abbrev pub errors_and_flag : State → ℕ
errors_and_flag w = length w.errors + bit (not w.swallow)

bit_small : (b : Bool) → bit b ≤ 1
bit_small true = omega arith
bit_small false = omega arith

-- report_error adds an error if the flag is clear, and does nothing to the other lists and the scope numbers
pub record Reported (w v : State) : Type 0 where
  pub errors : length v.errors ≡ length w.errors + bit (not w.swallow)
  pub requests : v.requests ≡ w.requests
  pub scope : v.scope ≡ w.scope

reported_at : (e : Error) (n : ℕ) (f : Bool) (es : List Error) (qs : List Request) (k : ℕ)
    → let w : State = record { scope = n; swallow = f; errors = es; requests = qs; peak = k } in Reported w (reported e w)
reported_at e n true es qs k = record { errors = omega arith; requests = refl; scope = refl }
reported_at e n false es qs k = record { errors = length-append es (e ∷ []); requests = refl; scope = refl }

reported_does : (e : Error) (w : State) → Reported w (reported e w)
reported_does e w = reported_at e w.scope w.swallow w.errors w.requests w.peak

abbrev pub error_prices : Prices
error_prices = record { report = 1; number = 0; request = 0 }

pub errors_paid : (x : Rule) → T (affordable error_prices (rule_of x))
unfolding all_rules
errors_paid expr = tt
errors_paid config = tt
errors_paid stmt = tt

pub error_meter : Meter error_prices errors_and_flag
error_meter =
    record {
      levels = λ l w. omega arith;
      comments = λ i w. omega (arith, (reported_does (error_at 1 i) w).errors);
      reports = λ e w. omega (arith, (reported_does e w).errors, bit_small (not (reported e w).swallow));
      numbers = λ w. omega arith;
      requests = λ q w. omega arith;
    }

-- a text has at most one error for a byte, and one more
pub error_bound : (t : List ℕ) (n : ℕ) (f : Bool) (v : Rows) (q : Input) (w : State) → written t n f ≡ ok v q w → length w.errors ≤ length t + 1
unfolding all_rules
error_bound t n f v q w e = omega (arith, written_metered error_meter errors_paid tt t n f v q w e, bit_small (not f))

-- Requests -----------------------------------------------------------------

abbrev pub request_prices : Prices
request_prices = record { report = 0; number = 0; request = 1 }

pub requests_paid : (x : Rule) → T (affordable request_prices (rule_of x))
unfolding all_rules
requests_paid expr = tt
requests_paid config = tt
requests_paid stmt = tt

pub request_meter : Meter request_prices (λ w. length w.requests)
request_meter =
    record {
      levels = λ l w. omega arith;
      comments = λ i w. omega (arith, ap length (reported_does (error_at 1 i) w).requests);
      reports = λ e w. omega (arith, ap length (reported_does e w).requests);
      numbers = λ w. omega arith;
      requests = λ q w. omega (arith, length-append w.requests (q ∷ []));
    }

-- a text has at most one request for a byte
pub request_bound : (t : List ℕ) (n : ℕ) (f : Bool) (v : Rows) (q : Input) (w : State) → written t n f ≡ ok v q w → length w.requests ≤ length t
unfolding all_rules
request_bound t n f v q w e = omega (arith, written_metered request_meter requests_paid tt t n f v q w e)

-- Scope numbers ------------------------------------------------------------

abbrev pub scope_prices : Prices
scope_prices = record { report = 0; number = 1; request = 0 }

pub scopes_paid : (x : Rule) → T (affordable scope_prices (rule_of x))
unfolding all_rules
scopes_paid expr = tt
scopes_paid config = tt
scopes_paid stmt = tt

pub scope_meter : Meter scope_prices (λ w. w.scope)
scope_meter =
    record {
      levels = λ l w. omega arith;
      comments = λ i w. omega (arith, (reported_does (error_at 1 i) w).scope);
      reports = λ e w. omega (arith, (reported_does e w).scope);
      numbers = λ w. omega arith;
      requests = λ q w. omega arith;
    }

-- a text uses at most one scope number for a byte
pub scope_bound : (t : List ℕ) (n : ℕ) (f : Bool) (v : Rows) (q : Input) (w : State) → written t n f ≡ ok v q w → w.scope ≤ n + length t
unfolding all_rules
scope_bound t n f v q w e = omega (arith, written_metered scope_meter scopes_paid tt t n f v q w e)
