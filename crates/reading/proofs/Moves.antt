-- Progress. `moves m`, which antt computes, says that m reads a byte wherever it fits; then so does its reading, if the rules do. And what is
-- read in rounds, each of which reads a byte, ends by itself: many0 never refuses. One lemma for each way of combining replies, then one
-- induction over the parsers.
use mathlib.Core.Bool.{Bool, true, false, ◌&&◌, ◌||◌}
use mathlib.Core.List.{List, [], ◌∷◌, ◌++◌}
use mathlib.Core.Option.{Option, none, some}
use Prim.Native.Nat.{ℕ, zero, suc, ◌≤◌, ◌<◌}
use native.Mathlib.Omega.{arith}
use lib.Dec.{T, leb, leb→le, ltb, lt→ltb}
use lib.ListN.{length}
use Rattle.reading.specs.Byte.{is}
use Rattle.reading.specs.Grammar.{Rows, State, Input, Reply, ok, err, Leaf, Rule, expr, config, stmt, Parser, empty, ◌▸◌, ◌or◌, never, many0, leaf, rule, unterminated, node, pick, over, scoped, import, argument, chain, bracket, braced, complain, expect, raised, root, joined, folded, Act, then, else, with, gate, last_round, next_round, rounds, one_of, taken, take, char_at, picked, pick_word, closed, parse}
use Rattle.reading.specs.Rules.{expression, config_map, statement, source_file, all_rules}
use Rattle.reading.specs.Reading.{rule_of, reads}
use Rattle.reading.proofs.Bool.{and_left, and_right}
use Rattle.reading.proofs.Leaf.{least, all_one, Least, one_least, taken_least}
use Rattle.reading.proofs.Ahead.{On, Onward, then_on, with_on, rounds_on, closed_on, here_on, ahead}
use Rattle.reading.proofs.Fuel.{reads_on}

-- The test -----------------------------------------------------------------

-- what fits reads a byte
abbrev pub moves : Parser → Bool
moves empty = false
moves (m ▸ n) = moves m || moves n
moves (m or n) = moves m && moves n
moves (never m) = false
moves (many0 m) = false
moves (leaf f) = leb 1 (least f)
moves (rule x) = true
moves unterminated = false
moves (node k d t m) = moves m
moves (pick k t xs) = all_one xs
moves (over k d m n) = moves m
moves (scoped k m n) = moves m
moves (import m n s b) = moves m
moves (argument t m) = moves m
moves (chain o m) = moves m
moves (bracket t c m) = true
moves (braced t m) = true
moves (complain m) = moves m
moves (expect c m) = false

-- what is read in rounds reads a byte in each: by `rounds_succeed` no many0 in such a parser ever refuses
abbrev pub rounds_move : Parser → Bool
rounds_move empty = true
rounds_move (m ▸ n) = rounds_move m && rounds_move n
rounds_move (m or n) = rounds_move m && rounds_move n
rounds_move (never m) = rounds_move m
rounds_move (many0 m) = moves m && rounds_move m
rounds_move (leaf f) = true
rounds_move (rule x) = true
rounds_move unterminated = true
rounds_move (node k d t m) = rounds_move t && rounds_move m
rounds_move (pick k t xs) = rounds_move t
rounds_move (over k d m n) = rounds_move m && rounds_move n
rounds_move (scoped k m n) = rounds_move m && rounds_move n
rounds_move (import m n s b) = (rounds_move m && rounds_move n) && (rounds_move s && rounds_move b)
rounds_move (argument t m) = rounds_move t && rounds_move m
rounds_move (chain o m) = (moves o || moves m) && (rounds_move o && rounds_move m)
rounds_move (bracket t c m) = rounds_move t && rounds_move m
rounds_move (braced t m) = rounds_move t && (moves m && rounds_move m)
rounds_move (complain m) = rounds_move m
rounds_move (expect c m) = rounds_move m

pub all_rounds_move : T ((rounds_move expression && rounds_move config_map) && (rounds_move statement && rounds_move source_file))
unfolding all_rules
all_rounds_move = tt

rules_move : (x : Rule) → T (moves (rule_of x))
unfolding all_rules
rules_move expr = tt
rules_move config = tt
rules_move stmt = tt

-- Leaves -------------------------------------------------------------------

abbrev Some : Option ℕ → Type 0
Some none = Unit {0}
Some (some n) = 0 < n

some_least : (k : ℕ) (o : Option ℕ) → 1 ≤ k → Least k o → Some o
some_least k none h i = tt
some_least k (some n) h i = omega arith

taken_some : (f : Leaf) (t : List ℕ) → T (leb 1 (least f)) → Some (taken f t)
taken_some f t u = some_least (least f) (taken f t) (leb→le 1 (least f) u) (taken_least f t)

-- Replies ------------------------------------------------------------------

-- a reply is past p, or fails
abbrev pub Past : {A : Type 0} → Input → Reply A → Type 0
Past p (ok a q v) = p.at < q.at
Past p (err v) = Unit {0}

-- from everywhere
abbrev pub Moving : {A : Type 0} → Act A → Type 0
Moving m = (l : ℕ) (p : Input) (w : State) → Past p (m l p w)

after : {A : Type 0} (p q : Input) (r : Reply A) → p.at < q.at → On q r → Past p r
after p q (ok a s v) h i = omega arith
after p q (err v) h i = tt

before : {A : Type 0} (p q : Input) (r : Reply A) → p.at ≤ q.at → Past q r → Past p r
before p q (ok a s v) h i = omega arith
before p q (err v) h i = tt

-- the first reads a byte, or the second does
first_past : {A B : Type 0} (p : Input) (r : Reply A) (f : A → Input → State → Reply B)
    → Past p r → ((a : A) (q : Input) (v : State) → On q (f a q v)) → Past p (then r f)
first_past p (ok a q v) f h k = after p q (f a q v) h (k a q v)
first_past p (err v) f h k = tt

second_past : {A B : Type 0} (p : Input) (r : Reply A) (f : A → Input → State → Reply B)
    → On p r → ((a : A) (q : Input) (v : State) → Past q (f a q v)) → Past p (then r f)
second_past p (ok a q v) f h k = before p q (f a q v) h.on (k a q v)
second_past p (err v) f h k = tt

else_past : {A : Type 0} (p : Input) (r : Reply A) (f : State → Reply A) → Past p r → ((v : State) → Past p (f v)) → Past p (else r f)
else_past p (ok a q v) f h k = h
else_past p (err v) f h k = k v

with_past : {A B : Type 0} (p : Input) (f : A → B) (r : Reply A) → Past p r → Past p (with f r)
with_past p f (ok a q v) h = h
with_past p f (err v) h = tt

take_past : (o : Option ℕ) (p : Input) (w : State) → Some o → Past p (take o p w)
take_past none p w h = tt
take_past (some n) p w h = omega arith

-- a tuple: `m ▸ n` and a round of a chain
pair_past : (x y : Bool) (m n : Act Rows) → T (x || y) → Onward m → Onward n → (T x → Moving m) → (T y → Moving n)
    → Moving (λ l p w. then (m l p w) λ a q v. with (a ++◌) (n l q v))
pair_past true y m n u h i e f l p w =
    first_past p (m l p w) (λ a q v. with (a ++◌) (n l q v)) (e tt l p w) λ a q v. with_on q (a ++◌) (n l q v) (i l q v)
pair_past false y m n u h i e f l p w =
    second_past p (m l p w) (λ a q v. with (a ++◌) (n l q v)) (h l p w) λ a q v. with_past q (a ++◌) (n l q v) (f u l q v)

char_at_past : (c : ℕ) (p : Input) (r : Reply Rows) → On p r → Past p (char_at c p r)
char_at_past c p r h =
    second_past p r _ h λ _ q v. first_past q (take (one_of (is c) q.left) q v) _ (take_past (one_of (is c) q.left) q v (some_least 1 (one_of (is c) q.left) (omega arith) (one_least (is c) q.left)))
    λ a s u. here_on s

picked_past : (k t d : ℕ) (o : Option ℕ) (p : Input) (w : State) (r : Reply Rows) → Some o → Past p r → Past p (picked k t d o p w r)
picked_past k t d none p w r h e = e
picked_past k t d (some n) p w r h e = omega arith

pick_word_past : (k t : ℕ) (xs : List (Leaf × ℕ)) (p : Input) (w : State) → T (all_one xs) → Past p (pick_word k t xs p w)
pick_word_past k t [] p w u = tt
pick_word_past k t (x ∷ xs) p w u =
    picked_past k t x.1 (taken x.0 p.left) p w (pick_word k t xs p w) (taken_some x.0 p.left (and_left (leb 1 (least x.0)) (all_one xs) u))
    (pick_word_past k t xs p w (and_right (leb 1 (least x.0)) (all_one xs) u))

-- Rounds -------------------------------------------------------------------

-- a reply is no failure
abbrev pub Succeeds : {A : Type 0} → Reply A → Type 0
Succeeds (ok a q v) = Unit {0}
Succeeds (err v) = ⊥

pub then_succeeds : {A B : Type 0} (r : Reply A) (f : A → Input → State → Reply B)
    → Succeeds r → ((a : A) (q : Input) (v : State) → Succeeds (f a q v)) → Succeeds (then r f)
then_succeeds (ok a q v) f h k = k a q v
then_succeeds (err v) f h k = absurd h

gate_succeeds : {A : Type 0} (b : Bool) (v : State) (k : Unit {0} → Reply A) → T b → Succeeds (k tt) → Succeeds (gate b v k)
gate_succeeds true v k u h = h
gate_succeeds false v k u h = absurd u

-- nothing is left, so no round fits
last_succeeds : {A : Type 0} (p : Input) (r : Reply A) → On p r → Past p r → length p.left ≤ 0 → Succeeds (last_round p r)
last_succeeds p (ok a q v) h i e = omega arith
last_succeeds p (err v) h i e = tt

next_succeeds : {A : Type 0} (n : ℕ) (p : Input) (r : Reply A) (k : Input → State → Reply (List A))
    → On p r → Past p r → length p.left ≤ suc n → ((q : Input) (v : State) → length q.left ≤ n → Succeeds (k q v)) → Succeeds (next_round p r k)
next_succeeds n p (ok a q v) k h i e f =
    gate_succeeds (ltb p.at q.at) v (λ t. then (k q v) λ rest r u. ok (a ∷ rest) r u) (lt→ltb p.at q.at i)
    (then_succeeds (k q v) (λ rest r u. ok (a ∷ rest) r u) (f q v (omega arith)) λ rest r u. tt)
next_succeeds n p (err v) k h i e f = tt

-- many0's loop never fails: each round reads a byte, and there are as many rounds as bytes
pub rounds_succeed : {A : Type 0} (m : Act A) → Onward m → Moving m → (f : List ℕ) (l : ℕ) (p : Input) (w : State)
    → length p.left ≤ length f → Succeeds (rounds m f l p w)
rounds_succeed m h i [] l p w e = last_succeeds p (m l p w) (h l p w) (i l p w) e
rounds_succeed m h i (b ∷ f) l p w e =
    next_succeeds (length f) p (m l p w) (λ q v. rounds m f l q v) (h l p w) (i l p w) e λ q v g. rounds_succeed m h i f l q v g

-- Parsers ------------------------------------------------------------------

module _ (ρ : Rule → Act Rows) (h : (x : Rule) → Onward (ρ x)) (g : (x : Rule) → Moving (ρ x)) where
  pub moving : (m : Parser) → T (moves m) → Moving (parse ρ m)
  moving empty u l p w = absurd u
  moving (m ▸ n) u l p w = pair_past (moves m) (moves n) (parse ρ m) (parse ρ n) u (ahead ρ h m) (ahead ρ h n) (moving m) (moving n) l p w
  moving (m or n) u l p w =
      else_past p (parse ρ m l p w) _ (moving m (and_left (moves m) (moves n) u) l p w) λ v. moving n (and_right (moves m) (moves n) u) l p v
  moving (never m) u l p w = absurd u
  moving (many0 m) u l p w = absurd u
  moving (leaf f) u l p w = take_past (taken f p.left) p w (taken_some f p.left u)
  moving (rule x) u l p w = g x l p w
  moving unterminated u l p w = absurd u
  moving (node k d t m) u l p w =
      second_past p (parse ρ t l p w) _ (ahead ρ h t l p w) λ _ q v. first_past q (parse ρ m l q v) _ (moving m u l q v) λ a s x. here_on s
  moving (pick k t xs) u l p w = second_past p (parse ρ t l p w) _ (ahead ρ h t l p w) λ _ q v. pick_word_past k p.at xs q v u
  moving (over k d m n) u l p w =
      first_past p (parse ρ m l p w) _ (moving m u l p w) λ a q v. then_on q (parse ρ n l q v) _ (ahead ρ h n l q v) λ b r x. here_on r
  moving (scoped k m n) u l p w =
      first_past p (parse ρ m l p w) _ (moving m u l p w) λ a q v. then_on q (parse ρ n l q v) _ (ahead ρ h n l q v) λ b r x. here_on r
  moving (import m n s b) u l p w =
      first_past p (parse ρ m l p w) _ (moving m u l p w) λ a q v. then_on q (parse ρ n l q v) _ (ahead ρ h n l q v)
      λ c r x. then_on r (parse ρ s l r x) _ (ahead ρ h s l r x) λ d y z. then_on y (parse ρ b l y z) _ (ahead ρ h b l y z) λ e i j. here_on i
  moving (argument t m) u l p w =
      second_past p (parse ρ t l p w) _ (ahead ρ h t l p w) λ _ q v. first_past q (parse ρ m l q v) _ (moving m u l q v) λ a s x. here_on s
  moving (chain o m) u l p w =
      first_past p (parse ρ m l p w) _ (moving m u l p w)
      λ a q v. with_on q (folded a) (rounds (parse ρ (o ▸ m)) q.left l q v) (rounds_on (parse ρ (o ▸ m)) (ahead ρ h (o ▸ m)) q.left l q v)
  moving (bracket t c m) u l p w =
      first_past p (char_at c p (parse ρ t l p w)) _ (char_at_past c p (parse ρ t l p w) (ahead ρ h t l p w))
      λ a q v. with_on q (a ++◌) (parse ρ m (suc l) q (raised (suc l) v)) (ahead ρ h m (suc l) q (raised (suc l) v))
  moving (braced t m) u l p w =
      first_past p (char_at 123 p (parse ρ t l p w)) _ (char_at_past 123 p (parse ρ t l p w) (ahead ρ h t l p w))
      λ a q v. then_on q (rounds (parse ρ m) q.left (suc l) q (raised (suc l) v)) _
      (rounds_on (parse ρ m) (ahead ρ h m) q.left (suc l) q (raised (suc l) v))
      λ rs r x. with_on r (λ c. a ++ joined rs ++ c) (closed (root a) r (parse ρ t (suc l) r x))
      (closed_on (root a) r (parse ρ t (suc l) r x) (ahead ρ h t (suc l) r x))
  moving (complain m) u l p w = first_past p (parse ρ m l p w) _ (moving m u l p w) λ a q v. here_on q
  moving (expect c m) u l p w = absurd u

-- The rules ----------------------------------------------------------------

pub reads_moving : (n : ℕ) (x : Rule) → Moving (reads n x)
reads_moving zero x l p w = tt
reads_moving (suc n) x l p w = moving (reads n) (reads_on n) (reads_moving n) (rule_of x) (rules_move x) l p w
