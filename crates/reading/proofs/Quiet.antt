-- What a quiet parser answers does not rest on the state, and what it does to the state is one touch: it may note an open comment, and it goes
-- to a level. `scan` says all of it: one induction over the parsers. Two touches are one, so that reading twice is reading once.
use mathlib.Core.Path.{◌≡◌, refl, ap, ◌∙◌, sym}
use mathlib.Core.Bool.{Bool, true, false, ◌||◌}
use mathlib.Core.List.{List, [], ◌∷◌, ◌++◌}
use mathlib.Core.Option.{Option, none, some}
use Prim.Native.Nat.{ℕ, zero, suc, ◌+◌, max}
use native.Mathlib.Omega.{arith}
use native.Mathlib.Nat.{max-zero}
use lib.Dec.{T, ltb}
use lib.ListN.{length}
use Rattle.reading.specs.Byte.{is}
use Rattle.reading.specs.Kind.{charᵏ}
use Rattle.reading.specs.Grammar.{Rows, Error, Request, State, Input, Reply, ok, err, Leaf, Rule, Parser, empty, ◌▸◌, ◌or◌, never, many0, leaf, rule, unterminated, node, pick, over, scoped, import, argument, chain, bracket, braced, complain, expect, reported, swallowing, raised, error_at, joined, under, first_low, placed, folded, Act, behind, to_end, then, else, with, turned, gate, last_round, next_round, rounds, one_of, taken, take, always, located, char_at, picked, pick_word, parse}
use Rattle.reading.specs.Reading.{reads, rule_of, state_of}
use Rattle.reading.specs.Summary.{Summary, fits, fails, noted, touched, applied, more, thenˢ, elseˢ, withˢ, turnedˢ, gateˢ, last_roundˢ, next_roundˢ, Scan, roundsˢ, takeˢ, locatedˢ, char_atˢ, pickedˢ, pick_wordˢ, scan, scans}
use Rattle.reading.proofs.Bool.{and_left, and_right, or_same}
use Rattle.reading.proofs.Ahead.{Ahead, On, Onward, ahead, pair_on, char_at_on}
use Rattle.reading.proofs.Tests.{quiet, quiet_rule, rule_quiet}
use Rattle.reading.proofs.Fuel.{then_same, else_same, gate_same, next_same, reads_on}

-- Touches ------------------------------------------------------------------

abbrev state : ℕ → Bool → List Error → List Request → ℕ → State
state n f es qs k = record { scope = n; swallow = f; errors = es; requests = qs; peak = k }

max_assoc : (a k j : ℕ) → max (max a k) j ≡ max a (max k j)
max_assoc a k j = omega arith

touch_at : (e : ℕ) (b : Bool) (k : ℕ) (c : Bool) (j n : ℕ) (f : Bool) (es : List Error) (qs : List Request) (a : ℕ)
    → touched e c j (touched e b k (state n f es qs a)) ≡ touched e (b || c) (max k j) (state n f es qs a)
touch_at e false k false j n f es qs a = ap (state n f es qs) (max_assoc a k j)
touch_at e false k true j n true es qs a = ap (state n true es qs) (max_assoc a k j)
touch_at e false k true j n false es qs a = ap (state n true (es ++ (error_at 1 e ∷ [])) qs) (max_assoc a k j)
touch_at e true k false j n true es qs a = ap (state n true es qs) (max_assoc a k j)
touch_at e true k false j n false es qs a = ap (state n true (es ++ (error_at 1 e ∷ [])) qs) (max_assoc a k j)
touch_at e true k true j n true es qs a = ap (state n true es qs) (max_assoc a k j)
touch_at e true k true j n false es qs a = ap (state n true (es ++ (error_at 1 e ∷ [])) qs) (max_assoc a k j)

-- two touches are one
pub touch_touch : (e : ℕ) (b : Bool) (k : ℕ) (c : Bool) (j : ℕ) (w : State) → touched e c j (touched e b k w) ≡ touched e (b || c) (max k j) w
touch_touch e b k c j w = touch_at e b k c j w.scope w.swallow w.errors w.requests w.peak

-- the same touch twice is that touch
pub touch_twice : (e : ℕ) (b : Bool) (k : ℕ) (w : State) → touched e b k (touched e b k w) ≡ touched e b k w
touch_twice e b k w =
    touch_touch e b k b k w ∙ ap (λ x. touched e x (max k k) w) (or_same b) ∙ ap (λ x. touched e b x w) (let h : max k k ≡ k = omega arith in h)

pub touch_none : (e : ℕ) (w : State) → touched e false 0 w ≡ w
touch_none e w = ap (state w.scope w.swallow w.errors w.requests) (max-zero w.peak)

-- the text ends at e
module _ (e : ℕ) where
  -- A combinator on replies that summaries give is the combinator on the summaries ---------------

  more_applied : {A : Type 0} (b : Bool) (k : ℕ) (s : Summary A) (w : State) → applied e s (touched e b k w) ≡ applied e (more b k s) w
  more_applied b k (fits a q c j) w = ap (ok a q) (touch_touch e b k c j w)
  more_applied b k (fails c j) w = ap err (touch_touch e b k c j w)

  then_applied : {A B : Type 0} (s : Summary A) (f : A → Input → Summary B) (w : State)
      → then (applied e s w) (λ a q v. applied e (f a q) v) ≡ applied e (thenˢ s f) w
  then_applied (fits a q b k) f w = more_applied b k (f a q) w
  then_applied (fails b k) f w = refl

  else_applied : {A : Type 0} (s n : Summary A) (w : State) → else (applied e s w) (λ v. applied e n v) ≡ applied e (elseˢ s λ t. n) w
  else_applied (fits a q b k) n w = refl
  else_applied (fails b k) n w = more_applied b k n w

  with_applied : {A B : Type 0} (f : A → B) (s : Summary A) (w : State) → with f (applied e s w) ≡ applied e (withˢ f s) w
  with_applied f (fits a q b k) w = refl
  with_applied f (fails b k) w = refl

  turned_applied : {A : Type 0} (p : Input) (s : Summary A) (w : State) → turned p (applied e s w) ≡ applied e (turnedˢ p s) w
  turned_applied p (fits a q b k) w = refl
  turned_applied p (fails b k) w = refl

  last_applied : {A : Type 0} (p : Input) (s : Summary A) (w : State) → last_round p (applied e s w) ≡ applied e (last_roundˢ p s) w
  last_applied p (fits a q b k) w = refl
  last_applied p (fails b k) w = refl

  done : {A : Type 0} (a : A) (q : Input) (v : State) → ok a q v ≡ applied e (fits a q false 0) v
  done a q v = ap (ok a q) (sym (touch_none e v))

  failed : {A : Type 0} (v : State) → ◌≡◌ {A = Reply A} (err v) (applied e (fails false 0) v)
  failed v = ap err (sym (touch_none e v))

  gate_applied : {A : Type 0} (b : Bool) (s : Summary A) (w : State) → gate b w (λ t. applied e s w) ≡ applied e (gateˢ b λ t. s) w
  gate_applied true s w = refl
  gate_applied false s w = failed w

  take_applied : (o : Option ℕ) (p : Input) (w : State) → take o p w ≡ applied e (takeˢ o p) w
  take_applied none p w = failed w
  take_applied (some n) p w = done [] (behind n p) w

  picked_applied : (k t d : ℕ) (o : Option ℕ) (p : Input) (w : State) (r : Reply Rows) (s : Summary Rows)
      → r ≡ applied e s w → picked k t d o p w r ≡ applied e (pickedˢ k t d o p s) w
  picked_applied k t d none p w r s i = i
  picked_applied k t d (some n) p w r s i = done _ (behind n p) w

  pick_applied : (k t : ℕ) (xs : List (Leaf × ℕ)) (p : Input) (w : State) → pick_word k t xs p w ≡ applied e (pick_wordˢ k t xs p) w
  pick_applied k t [] p w = failed w
  pick_applied k t (x ∷ xs) p w =
      picked_applied k t x.1 (taken x.0 p.left) p w (pick_word k t xs p w) (pick_wordˢ k t xs p) (pick_applied k t xs p w)

  value_applied : {A B : Type 0} (s : Summary A) (f : A → Input → B) (w : State)
      → then (applied e s w) (λ a q v. ok (f a q) q v) ≡ applied e (thenˢ s λ a q. fits (f a q) q false 0) w
  value_applied (fits a q b k) f w = done (f a q) q (touched e b k w) ∙ more_applied b k (fits (f a q) q false 0) w
  value_applied (fails b k) f w = refl

  next_applied : {A : Type 0} (p : Input) (s : Summary A) (f : Input → Summary (List A)) (w : State)
      → next_round p (applied e s w) (λ q v. applied e (f q) v) ≡ applied e (next_roundˢ p s f) w
  next_applied p (fits a q b k) f w =
      let tail = thenˢ (f q) λ rest r. fits (a ∷ rest) r false 0 in
      let v = touched e b k w in
      gate_same (ltb p.at q.at) v (λ t. then (applied e (f q) v) λ rest r u. ok (a ∷ rest) r u) (λ t. applied e tail v)
      (value_applied (f q) (λ rest r. a ∷ rest) v)
      ∙ gate_applied (ltb p.at q.at) tail v
      ∙ more_applied b k (gateˢ (ltb p.at q.at) λ t. tail) w
  next_applied p (fails b k) f w = refl

  -- An action that a scan sums up --------------------------------------------

  abbrev pub Ends : Input → Type 0
  Ends p = p.at + length p.left ≡ e

  abbrev pub Summed : {A : Type 0} → Act A → Scan A → Type 0
  Summed m n = (l : ℕ) (p : Input) (w : State) → Ends p → m l p w ≡ applied e (n l p) w

  ends_on : (p q : Input) → Ahead p q → Ends p → Ends q
  ends_on p q h x = sym h.sum ∙ x

  then_summed : {A B : Type 0} (p : Input) (r : Reply A) (s : Summary A) (w : State) (f : A → Input → State → Reply B) (k : A → Input → Summary B)
      → r ≡ applied e s w → On p r → Ends p → ((a : A) (q : Input) (v : State) → Ends q → f a q v ≡ applied e (k a q) v)
      → then r f ≡ applied e (thenˢ s k) w
  then_summed p r s w f k i h x j =
      then_same p r f (λ a q v. applied e (k a q) v) h (λ a q v y. j a q v (ends_on p q y x))
      ∙ ap (λ y. then y λ a q v. applied e (k a q) v) i ∙ then_applied s k w

  with_summed : {A B : Type 0} (f : A → B) (r : Reply A) (s : Summary A) (w : State) → r ≡ applied e s w → with f r ≡ applied e (withˢ f s) w
  with_summed f r s w i = ap (with f) i ∙ with_applied f s w

  value_summed : {A B : Type 0} (r : Reply A) (s : Summary A) (f : A → Input → B) (w : State)
      → r ≡ applied e s w → then r (λ a q v. ok (f a q) q v) ≡ applied e (thenˢ s λ a q. fits (f a q) q false 0) w
  value_summed r s f w i = ap (λ y. then y λ a q v. ok (f a q) q v) i ∙ value_applied s f w

  located_summed : (k : ℕ) (d : Rows → ℕ) (p : Input) (r : Reply Rows) (s : Summary Rows) (w : State)
      (f : Input → State → Reply Rows) (g : Input → Summary Rows)
      → r ≡ applied e s w → On p r → Ends p → ((q : Input) (v : State) → Ends q → f q v ≡ applied e (g q) v)
      → located k d p r f ≡ applied e (locatedˢ k d p s g) w
  located_summed k d p r s w f g i h x j =
      then_summed p r s w _ _ i h x λ _ q v y. value_summed (f q v) (g q) (λ a z. under k (d a) p.at q.at z.at a) v (j q v y)

  char_at_summed : (c : ℕ) (p : Input) (r : Reply Rows) (s : Summary Rows) (w : State)
      → r ≡ applied e s w → On p r → Ends p → char_at c p r ≡ applied e (char_atˢ c p s) w
  char_at_summed c p r s w i h x =
      located_summed charᵏ (always c) p r s w (λ q v. take (one_of (is c) q.left) q v) (λ q. takeˢ (one_of (is c) q.left) q) i h x
      λ q v y. take_applied (one_of (is c) q.left) q v

  rounds_summed : {A : Type 0} (m : Act A) (n : Scan A) → Onward m → Summed m n → (f : List ℕ) → Summed (rounds m f) (roundsˢ n f)
  rounds_summed m n h i [] l p w x = ap (last_round p) (i l p w x) ∙ last_applied p (n l p) w
  rounds_summed m n h i (b ∷ f) l p w x =
      next_same p (m l p w) (λ q v. rounds m f l q v) (λ q v. applied e (roundsˢ n f l q) v) (h l p w)
      (λ q v a. rounds_summed m n h i f l q v (ends_on p q a x))
      ∙ ap (λ y. next_round p y λ q v. applied e (roundsˢ n f l q) v) (i l p w x)
      ∙ next_applied p (n l p) (λ q. roundsˢ n f l q) w

  pair_summed : (a b : Act Rows) (c d : Scan Rows) → Onward a → Summed a c → Summed b d
      → Summed (λ l p w. then (a l p w) λ y q v. with (y ++◌) (b l q v)) (λ l p. thenˢ (c l p) λ y q. withˢ (y ++◌) (d l q))
  pair_summed a b c d h i j l p w x =
      then_summed p (a l p w) (c l p) w (λ y q v. with (y ++◌) (b l q v)) (λ y q. withˢ (y ++◌) (d l q)) (i l p w x) (h l p w) x
      λ y q v z. with_summed (y ++◌) (b l q v) (d l q) v (j l q v z)

  -- Parsers ------------------------------------------------------------------

  module _ (ρ : Rule → Act Rows) (τ : Rule → Scan Rows) (h : (x : Rule) → Onward (ρ x)) (i : (x : Rule) → T (quiet_rule x) → Summed (ρ x) (τ x)) where
    pub quietly : (m : Parser) → T (quiet m) → Summed (parse ρ m) (scan τ m)
    quietly empty u l p w x = done [] p w
    quietly (m ▸ n) u l p w x =
        pair_summed (parse ρ m) (parse ρ n) (scan τ m) (scan τ n) (ahead ρ h m)
        (quietly m (and_left (quiet m) (quiet n) u)) (quietly n (and_right (quiet m) (quiet n) u)) l p w x
    quietly (m or n) u l p w x =
        else_same (parse ρ m l p w) (λ v. parse ρ n l p v) (λ v. applied e (scan τ n l p) v) (λ v. quietly n (and_right (quiet m) (quiet n) u) l p v x)
        ∙ ap (λ y. else y λ v. applied e (scan τ n l p) v) (quietly m (and_left (quiet m) (quiet n) u) l p w x)
        ∙ else_applied (scan τ m l p) (scan τ n l p) w
    quietly (never m) u l p w x = ap (turned p) (quietly m u l p w x) ∙ turned_applied p (scan τ m l p) w
    quietly (many0 m) u l p w x =
        with_summed joined (rounds (parse ρ m) p.left l p w) (roundsˢ (scan τ m) p.left l p) w
        (rounds_summed (parse ρ m) (scan τ m) (ahead ρ h m) (quietly m u) p.left l p w x)
    quietly (leaf f) u l p w x = take_applied (taken f p.left) p w
    quietly (rule y) u l p w x = i y u l p w x
    quietly unterminated u l p w x =
        ap (ok [] (to_end p)) (ap (λ n. swallowing (reported (error_at 1 n) w)) x ∙ sym (touch_none e (noted e true w)))
    quietly (node k d t m) u l p w x =
        located_summed k d p (parse ρ t l p w) (scan τ t l p) w (λ q v. parse ρ m l q v) (λ q. scan τ m l q)
        (quietly t (and_left (quiet t) (quiet m) u) l p w x) (ahead ρ h t l p w) x
        λ q v y. quietly m (and_right (quiet t) (quiet m) u) l q v y
    quietly (pick k t xs) u l p w x =
        then_summed p (parse ρ t l p w) (scan τ t l p) w _ _ (quietly t u l p w x) (ahead ρ h t l p w) x λ _ q v y. pick_applied k p.at xs q v
    quietly (over k d m n) u l p w x =
        then_summed p (parse ρ m l p w) (scan τ m l p) w _ _ (quietly m (and_left (quiet m) (quiet n) u) l p w x) (ahead ρ h m l p w) x
        λ a q v y. value_summed (parse ρ n l q v) (scan τ n l q) (λ b r. under k d p.at (first_low a) r.at (a ++ b)) v
        (quietly n (and_right (quiet m) (quiet n) u) l q v y)
    quietly (scoped k m n) u l p w x = absurd u
    quietly (import m n s b) u l p w x = absurd u
    quietly (argument t m) u l p w x =
        then_summed p (parse ρ t l p w) (scan τ t l p) w _ _ (quietly t (and_left (quiet t) (quiet m) u) l p w x) (ahead ρ h t l p w) x
        λ _ q v y. value_summed (parse ρ m l q v) (scan τ m l q) (λ a r. placed p.at q.at r.at a) v
        (quietly m (and_right (quiet t) (quiet m) u) l q v y)
    quietly (chain o m) u l p w x =
        let part = quietly m (and_right (quiet o) (quiet m) u) in
        then_summed p (parse ρ m l p w) (scan τ m l p) w
        (λ a q v. with (folded a) (rounds (parse ρ (o ▸ m)) q.left l q v)) (λ a q. withˢ (folded a) (roundsˢ (scan τ (o ▸ m)) q.left l q))
        (part l p w x) (ahead ρ h m l p w) x
        λ a q v y. with_summed (folded a) (rounds (parse ρ (o ▸ m)) q.left l q v) (roundsˢ (scan τ (o ▸ m)) q.left l q) v
        (rounds_summed (parse ρ (o ▸ m)) (scan τ (o ▸ m)) (pair_on (parse ρ o) (parse ρ m) (ahead ρ h o) (ahead ρ h m))
        (pair_summed (parse ρ o) (parse ρ m) (scan τ o) (scan τ m) (ahead ρ h o) (quietly o (and_left (quiet o) (quiet m) u)) part)
        q.left l q v y)
    quietly (bracket t c m) u l p w x =
        then_summed p (char_at c p (parse ρ t l p w)) (char_atˢ c p (scan τ t l p)) w _ _
        (char_at_summed c p (parse ρ t l p w) (scan τ t l p) w (quietly t (and_left (quiet t) (quiet m) u) l p w x) (ahead ρ h t l p w) x)
        (char_at_on c p (parse ρ t l p w) (ahead ρ h t l p w)) x
        λ a q v y. with_summed (a ++◌) (parse ρ m (suc l) q (raised (suc l) v)) (scan τ m (suc l) q) (raised (suc l) v)
        (quietly m (and_right (quiet t) (quiet m) u) (suc l) q (raised (suc l) v) y)
        ∙ more_applied false (suc l) (withˢ (a ++◌) (scan τ m (suc l) q)) v
    quietly (braced t m) u l p w x = absurd u
    quietly (complain m) u l p w x = absurd u
    quietly (expect c m) u l p w x = absurd u

-- The rules ----------------------------------------------------------------

-- expressions and config maps: an answer that does not rest on the state, and a touch
pub reads_quiet : (e n : ℕ) (x : Rule) → T (quiet_rule x) → Summed e (reads n x) (scans n x)
reads_quiet e zero x t l p w h = failed e w
reads_quiet e (suc n) x t l p w h = quietly e (reads n) (scans n) (reads_on n) (reads_quiet e n) (rule_of x) (rule_quiet x t) l p w h

-- and every other quiet parser, operands among them
pub parse_quiet : (e n : ℕ) (m : Parser) → T (quiet m) → Summed e (parse (reads n) m) (scan (scans n) m)
parse_quiet e n m u l p w h = quietly e (reads n) (scans n) (reads_on n) (reads_quiet e n) m u l p w h

applied_twice : (e : ℕ) (s : Summary Rows) (w : State) → applied e s (state_of (applied e s w)) ≡ applied e s w
applied_twice e (fits a q b k) w = ap (ok a q) (touch_twice e b k w)
applied_twice e (fails b k) w = ap err (touch_twice e b k w)

-- reading twice is reading once: from the state that it left, a quiet parser answers the same and leaves that state
pub parse_twice : (n : ℕ) (m : Parser) → T (quiet m) → (l : ℕ) (p : Input) (w : State)
    → parse (reads n) m l p (state_of (parse (reads n) m l p w)) ≡ parse (reads n) m l p w
parse_twice n m u l p w =
    let e = p.at + length p.left in
    let once = parse_quiet e n m u l p w refl in
    parse_quiet e n m u l p (state_of (parse (reads n) m l p w)) refl
    ∙ ap (λ r. applied e (scan (scans n) m l p) (state_of r)) once ∙ applied_twice e (scan (scans n) m l p) w ∙ sym once
