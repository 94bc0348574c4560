-- Fuel is enough. A rule is called only behind an opening character, so rules that agree where fewer than n bytes are left make parsers that
-- agree where at most n are: one induction over the parsers. So `reads` with more fuel than there are bytes left reads the same whatever the
-- fuel, and its rules solve their own equations.
use mathlib.Core.Path.{◌≡◌, refl, ap, ◌∙◌}
use mathlib.Core.Bool.{Bool, true, false, ◌&&◌, ◌||◌}
use mathlib.Core.List.{List, [], ◌∷◌, ◌++◌}
use Prim.Native.Nat.{ℕ, zero, suc, ◌+◌, ◌-◌, ◌≤◌, ◌<◌}
use native.Mathlib.Omega.{arith}
use native.Mathlib.Nat.{not-suc-le-zero}
use lib.Dec.{T, ltb}
use lib.ListN.{length, drop}
use Rattle.reading.specs.Byte.{is, given}
use Rattle.reading.specs.Kind.{charᵏ, importᵏ}
use Rattle.reading.specs.Grammar.{Rows, State, Input, Reply, ok, err, Rule, Parser, empty, ◌▸◌, ◌or◌, never, many0, leaf, rule, unterminated, node, pick, over, scoped, import, argument, chain, bracket, braced, complain, expect, reported, numbered, requested, raised, error_at, root, joined, under, first_low, placed, folded, request_of, Act, then, else, with, turned, gate, last_round, next_round, rounds, one_of, take, located, char_at, pick_word, closed, parse}
use Rattle.reading.specs.Reading.{reads, rule_of}
use Rattle.reading.proofs.Bool.{or_and_left, or_and_right}
use Rattle.reading.proofs.Ahead.{Ahead, On, Onward, ahead, pair_on, rounds_on}
use Rattle.reading.proofs.Tests.{guarded, rule_guarded}

-- Replies that go on in the same way ---------------------------------------

pub then_same : {A B : Type 0} (p : Input) (r : Reply A) (f k : A → Input → State → Reply B)
    → On p r → ((a : A) (q : Input) (v : State) → Ahead p q → f a q v ≡ k a q v) → then r f ≡ then r k
then_same p (ok a q v) f k h e = e a q v h
then_same p (err v) f k h e = refl

pub else_same : {A : Type 0} (r : Reply A) (f k : State → Reply A) → ((v : State) → f v ≡ k v) → else r f ≡ else r k
else_same (ok a q v) f k e = refl
else_same (err v) f k e = e v

pub gate_same : {A : Type 0} (b : Bool) (v : State) (f k : Unit {0} → Reply A) → f tt ≡ k tt → gate b v f ≡ gate b v k
gate_same true v f k e = e
gate_same false v f k e = refl

pub next_same : {A : Type 0} (p : Input) (r : Reply A) (f k : Input → State → Reply (List A))
    → On p r → ((q : Input) (v : State) → Ahead p q → f q v ≡ k q v) → next_round p r f ≡ next_round p r k
next_same p (ok a q v) f k h e =
    gate_same (ltb p.at q.at) v (λ t. then (f q v) λ rest r u. ok (a ∷ rest) r u) (λ t. then (k q v) λ rest r u. ok (a ∷ rest) r u)
    (ap (λ x. then x λ rest r u. ok (a ∷ rest) r u) (e q v h))
next_same p (err v) f k h e = refl

-- the same from equal replies
pub then_both : {A B : Type 0} (p : Input) (r s : Reply A) (f k : A → Input → State → Reply B)
    → r ≡ s → On p r → ((a : A) (q : Input) (v : State) → Ahead p q → f a q v ≡ k a q v) → then r f ≡ then s k
then_both p r s f k i h e = then_same p r f k h e ∙ ap (λ x. then x k) i

pub else_both : {A : Type 0} (r s : Reply A) (f k : State → Reply A) → r ≡ s → ((v : State) → f v ≡ k v) → else r f ≡ else s k
else_both r s f k i e = else_same r f k e ∙ ap (λ x. else x k) i

located_both : (k : ℕ) (d : Rows → ℕ) (p : Input) (r s : Reply Rows) (f g : Input → State → Reply Rows)
    → r ≡ s → On p r → ((q : Input) (v : State) → Ahead p q → f q v ≡ g q v) → located k d p r f ≡ located k d p s g
located_both k d p r s f g i h e =
    then_both p r s _ _ i h λ _ q v x. ap (λ y. then y λ a z u. ok (under k (d a) p.at q.at z.at a) z u) (e q v x)

-- Where few bytes are left -------------------------------------------------

-- fewer than n where a rule may be called, at most n before
abbrev pub Room : Bool → ℕ → Input → Type 0
Room true n p = length p.left < n
Room false n p = length p.left ≤ n

room_on : (g : Bool) (n : ℕ) (p q : Input) → Ahead p q → Room g n p → Room g n q
room_on true n p q h r = omega arith
room_on false n p q h r = omega arith

room_most : (g : Bool) (n : ℕ) (p : Input) → Room g n p → length p.left ≤ n
room_most true n p r = omega arith
room_most false n p r = r

room_rule : (g : Bool) (n : ℕ) (p : Input) → T (g || false) → Room g n p → length p.left < n
room_rule true n p t r = r
room_rule false n p t r = absurd t

-- a reply leaves fewer than n, or fails
abbrev Less : {A : Type 0} → ℕ → Reply A → Type 0
Less n (ok a q v) = length q.left < n
Less n (err v) = Unit {0}

then_less : {A B : Type 0} (n : ℕ) (r : Reply A) (f k : A → Input → State → Reply B)
    → Less n r → ((a : A) (q : Input) (v : State) → length q.left < n → f a q v ≡ k a q v) → then r f ≡ then r k
then_less n (ok a q v) f k h e = e a q v h
then_less n (err v) f k h e = refl

value_less : {A B : Type 0} (n : ℕ) (r : Reply A) (f : A → Input → B) → Less n r → Less n (then r λ a q v. ok (f a q) q v)
value_less n (ok a q v) f h = h
value_less n (err v) f h = h

given_less : (n : ℕ) (b : Bool) (p : Input) (w : State) → length (drop 1 p.left) < n → Less n (take (given b 1) p w)
given_less n true p w h = h
given_less n false p w h = tt

one_less : (n : ℕ) (f : ℕ → Bool) (i : ℕ) (t : List ℕ) (w : State) → length t ≤ n → Less n (take (one_of f t) (record { at = i; left = t }) w)
one_less n f i [] w h = tt
one_less n f i (b ∷ t) w h = given_less n (f b) (record { at = i; left = b ∷ t }) w h

-- behind a character fewer are left
char_at_less : (n c : ℕ) (p : Input) (r : Reply Rows) → On p r → length p.left ≤ n → Less n (char_at c p r)
char_at_less n c p (ok a q v) h e =
    value_less n (take (one_of (is c) q.left) q v) (λ b s. under charᵏ c p.at q.at s.at b) (one_less n (is c) q.at q.left v (omega arith))
char_at_less n c p (err v) h e = tt

-- two actions agree there
abbrev pub Same : {A : Type 0} → Bool → ℕ → Act A → Act A → Type 0
Same g n a b = (l : ℕ) (p : Input) (w : State) → Room g n p → a l p w ≡ b l p w

module _ (g : Bool) (n : ℕ) where
  rounds_same : {A : Type 0} (a b : Act A) → Onward a → Same g n a b → (f : List ℕ) → Same g n (rounds a f) (rounds b f)
  rounds_same a b h e [] l p w r = ap (last_round p) (e l p w r)
  rounds_same a b h e (x ∷ f) l p w r =
      next_same p (a l p w) (λ q v. rounds a f l q v) (λ q v. rounds b f l q v) (h l p w) (λ q v y. rounds_same a b h e f l q v (room_on g n p q y r))
      ∙ ap (λ y. next_round p y λ q v. rounds b f l q v) (e l p w r)

  pair_same : (a b c d : Act Rows) → Onward a → Same g n a c → Same g n b d
      → Same g n (λ l p w. then (a l p w) λ x q v. with (x ++◌) (b l q v)) (λ l p w. then (c l p w) λ x q v. with (x ++◌) (d l q v))
  pair_same a b c d h e f l p w r =
      then_both p (a l p w) (c l p w) (λ x q v. with (x ++◌) (b l q v)) (λ x q v. with (x ++◌) (d l q v)) (e l p w r) (h l p w)
      λ x q v y. ap (with (x ++◌)) (f l q v (room_on g n p q y r))

  char_at_both : {A : Type 0} (c : ℕ) (p : Input) (r s : Reply Rows) (f k : Rows → Input → State → Reply A)
      → r ≡ s → On p r → Room g n p → ((a : Rows) (q : Input) (v : State) → length q.left < n → f a q v ≡ k a q v)
      → then (char_at c p r) f ≡ then (char_at c p s) k
  char_at_both c p r s f k i h e x =
      then_less n (char_at c p r) f k (char_at_less n c p r h (room_most g n p e)) x ∙ ap (λ y. then (char_at c p y) k) i

-- Parsers ------------------------------------------------------------------

module _ (n : ℕ) (ρ σ : Rule → Act Rows) (h : (x : Rule) → Onward (ρ x)) (e : (x : Rule) → Same true n (ρ x) (σ x)) where
  -- g: fewer than n are left here, so that the parser need not be guarded
  pub agree : (m : Parser) (g : Bool) → T (g || guarded m) → Same g n (parse ρ m) (parse σ m)
  agree empty g u l p w r = refl
  agree (m ▸ k) g u l p w r =
      pair_same g n (parse ρ m) (parse ρ k) (parse σ m) (parse σ k) (ahead ρ h m)
      (agree m g (or_and_left g (guarded m) (guarded k) u)) (agree k g (or_and_right g (guarded m) (guarded k) u)) l p w r
  agree (m or k) g u l p w r =
      else_both (parse ρ m l p w) (parse σ m l p w) _ _ (agree m g (or_and_left g (guarded m) (guarded k) u) l p w r)
      λ v. agree k g (or_and_right g (guarded m) (guarded k) u) l p v r
  agree (never m) g u l p w r = ap (turned p) (agree m g u l p w r)
  agree (many0 m) g u l p w r = ap (with joined) (rounds_same g n (parse ρ m) (parse σ m) (ahead ρ h m) (agree m g u) p.left l p w r)
  agree (leaf f) g u l p w r = refl
  agree (rule x) g u l p w r = e x l p w (room_rule g n p u r)
  agree unterminated g u l p w r = refl
  agree (node k d t m) g u l p w r =
      located_both k d p (parse ρ t l p w) (parse σ t l p w) (λ q v. parse ρ m l q v) (λ q v. parse σ m l q v)
      (agree t g (or_and_left g (guarded t) (guarded m) u) l p w r) (ahead ρ h t l p w)
      λ q v x. agree m g (or_and_right g (guarded t) (guarded m) u) l q v (room_on g n p q x r)
  agree (pick k t xs) g u l p w r = ap (λ x. then x λ _ q v. pick_word k p.at xs q v) (agree t g u l p w r)
  agree (over k d m j) g u l p w r =
      then_both p (parse ρ m l p w) (parse σ m l p w) _ _ (agree m g (or_and_left g (guarded m) (guarded j) u) l p w r) (ahead ρ h m l p w)
      λ a q v x. ap (λ y. then y λ b r u. ok (under k d p.at (first_low a) r.at (a ++ b)) r u)
      (agree j g (or_and_right g (guarded m) (guarded j) u) l q v (room_on g n p q x r))
  agree (scoped k m j) g u l p w r =
      then_both p (parse ρ m l p w) (parse σ m l p w) _ _ (agree m g (or_and_left g (guarded m) (guarded j) u) l p w r) (ahead ρ h m l p w)
      λ a q v x. ap (λ y. then y λ b r u. ok (under k (suc u.scope) p.at (first_low a) r.at (a ++ b)) r (numbered u))
      (agree j g (or_and_right g (guarded m) (guarded j) u) l q v (room_on g n p q x r))
  agree (import m j s b) g u l p w r =
      let left = or_and_left g (guarded m && guarded j) (guarded s && guarded b) u in
      let right = or_and_right g (guarded m && guarded j) (guarded s && guarded b) u in
      then_both p (parse ρ m l p w) (parse σ m l p w) _ _ (agree m g (or_and_left g (guarded m) (guarded j) left) l p w r) (ahead ρ h m l p w)
      λ a q v x. let r₁ = room_on g n p q x r in
      then_both q (parse ρ j l q v) (parse σ j l q v) _ _ (agree j g (or_and_right g (guarded m) (guarded j) left) l q v r₁) (ahead ρ h j l q v)
      λ c q₂ v₂ x₂. let r₂ = room_on g n q q₂ x₂ r₁ in
      then_both q₂ (parse ρ s l q₂ v₂) (parse σ s l q₂ v₂) _ _ (agree s g (or_and_left g (guarded s) (guarded b) right) l q₂ v₂ r₂) (ahead ρ h s l q₂ v₂)
      λ d q₃ v₃ x₃. ap (λ y. then y λ e z t. ok (under importᵏ (suc t.scope) p.at (first_low a) z.at (a ++ c ++ d ++ e)) z
      (requested (request_of d) (numbered t)))
      (agree b g (or_and_right g (guarded s) (guarded b) right) l q₃ v₃ (room_on g n q₂ q₃ x₃ r₂))
  agree (argument t m) g u l p w r =
      then_both p (parse ρ t l p w) (parse σ t l p w) _ _ (agree t g (or_and_left g (guarded t) (guarded m) u) l p w r) (ahead ρ h t l p w)
      λ _ q v x. ap (λ y. then y λ a r u. ok (placed p.at q.at r.at a) r u)
      (agree m g (or_and_right g (guarded t) (guarded m) u) l q v (room_on g n p q x r))
  agree (chain o m) g u l p w r =
      let part = agree m g (or_and_right g (guarded o) (guarded m) u) in
      then_both p (parse ρ m l p w) (parse σ m l p w) _ _ (part l p w r) (ahead ρ h m l p w)
      λ a q v x. ap (with (folded a))
      (rounds_same g n (parse ρ (o ▸ m)) (parse σ (o ▸ m)) (pair_on (parse ρ o) (parse ρ m) (ahead ρ h o) (ahead ρ h m))
      (pair_same g n (parse ρ o) (parse ρ m) (parse σ o) (parse σ m) (ahead ρ h o) (agree o g (or_and_left g (guarded o) (guarded m) u)) part)
      q.left l q v (room_on g n p q x r))
  agree (bracket t c m) g u l p w r =
      char_at_both g n c p (parse ρ t l p w) (parse σ t l p w) _ _ (agree t g u l p w r) (ahead ρ h t l p w) r
      λ a q v x. ap (with (a ++◌)) (agree m true tt (suc l) q (raised (suc l) v) x)
  agree (braced t m) g u l p w r =
      char_at_both g n 123 p (parse ρ t l p w) (parse σ t l p w) _ _ (agree t g u l p w r) (ahead ρ h t l p w) r
      λ a q v x. then_both q (rounds (parse ρ m) q.left (suc l) q (raised (suc l) v)) (rounds (parse σ m) q.left (suc l) q (raised (suc l) v)) _ _
      (rounds_same true n (parse ρ m) (parse σ m) (ahead ρ h m) (agree m true tt) q.left (suc l) q (raised (suc l) v) x)
      (rounds_on (parse ρ m) (ahead ρ h m) q.left (suc l) q (raised (suc l) v))
      λ rs s y z. ap (λ i. with (λ c. a ++ joined rs ++ c) (closed (root a) s i)) (agree t true tt (suc l) s y (room_on true n q s z x))
  agree (complain m) g u l p w r =
      ap (λ x. then x λ a q v. ok a q (reported (record { code = 2; low = (root a).low; high = (root a).high }) v)) (agree m g u l p w r)
  agree (expect c m) g u l p w r = ap (λ x. else x λ v. ok [] p (reported (error_at c p.at) v)) (agree m g u l p w r)

-- The rules ----------------------------------------------------------------

pub reads_on : (n : ℕ) (x : Rule) → Onward (reads n x)
reads_on zero x l p w = tt
reads_on (suc n) x l p w = ahead (reads n) (reads_on n) (rule_of x) l p w

-- with more fuel than there are bytes left, one more changes nothing
pub enough : (n : ℕ) (x : Rule) (l : ℕ) (p : Input) (w : State) → length p.left < n → reads n x l p w ≡ reads (suc n) x l p w
enough zero x l p w h = absurd (not-suc-le-zero h)
enough (suc n) x l p w h = agree n (reads n) (reads (suc n)) (reads_on n) (enough n) (rule_of x) false (rule_guarded x) l p w (omega arith)

-- so a rule reads what its definition says, with the rules themselves for the rules in it
pub solves : (n : ℕ) (x : Rule) (l : ℕ) (p : Input) (w : State) → length p.left < n → reads n x l p w ≡ parse (reads n) (rule_of x) l p w
solves n x l p w h = enough n x l p w h

-- and any two fuels that are enough read the same
pub enough_more : (n m : ℕ) (x : Rule) (l : ℕ) (p : Input) (w : State) → n ≤ m → length p.left < n → reads n x l p w ≡ reads m x l p w
enough_more n m x l p w i h = go (m - n) ∙ fuel (m - n + n) m (omega arith)
  where
    fuel : (j k : ℕ) → j ≡ k → reads j x l p w ≡ reads k x l p w
    fuel j k e = ap (λ y. reads y x l p w) e

    go : (k : ℕ) → reads n x l p w ≡ reads (k + n) x l p w
    go zero = fuel n (0 + n) (omega arith)
    go (suc k) = go k ∙ enough (k + n) x l p w (omega arith) ∙ fuel (suc (k + n)) (suc k + n) (omega arith)
