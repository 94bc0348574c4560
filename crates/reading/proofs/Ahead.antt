-- A reading only goes forward, and stays in the text: for every parser, the input that is left is what was in front, less the bytes that
-- were taken. One lemma for each way of combining replies, then one induction over the parsers.
use mathlib.Core.Path.{◌≡◌, refl, ap, ◌∙◌, sym}
use mathlib.Core.Bool.{Bool, true, false, ◌&&◌}
use mathlib.Core.List.{List, [], ◌∷◌, ◌++◌}
use mathlib.Core.Option.{Option, none, some}
use Prim.Native.Nat.{ℕ, zero, suc, ◌+◌, ◌-◌, ◌≤◌, zero-le, suc-le-suc}
use native.Mathlib.Omega.{arith}
use native.Mathlib.Nat.{add-zero}
use lib.Dec.{T, ltb, eqb}
use lib.ListN.{length, drop, length-drop}
use lib.Seq.{drop-drop, drop-length}
use Rattle.reading.specs.Byte.{is, lower, begins, begins_no_case, run, at_least_one, given, plus, comment}
use Rattle.reading.specs.Kind.{charᵏ}
use Rattle.reading.specs.Grammar.{Row, Rows, State, Input, Reply, ok, err, Leaf, one, run0, run1, tag, tag_no_case, comment_rest, Rule, Parser, empty, ◌▸◌, ◌or◌, never, many0, leaf, rule, unterminated, node, pick, over, scoped, import, argument, chain, bracket, braced, complain, expect, reported, raised, error_at, root, joined, folded, mended, Act, behind, to_end, then, else, with, turned, gate, last_round, next_round, rounds, one_of, taken, take, always, located, char_at, picked, pick_word, closed, parse}

-- q is further on than p in the same text
pub record Ahead (p q : Input) : Type 0 where
  pub on : p.at ≤ q.at
  pub sum : p.at + length p.left ≡ q.at + length q.left
  pub rest : q.left ≡ drop (q.at - p.at) p.left

-- Leaves -------------------------------------------------------------------

-- what a leaf takes is there
abbrev pub Fits : Option ℕ → ℕ → Type 0
Fits none k = Unit {0}
Fits (some n) k = n ≤ k

run_fits : (f : ℕ → Bool) (t : List ℕ) → run f t ≤ length t
run_fits f [] = zero-le
run_fits f (b ∷ t) =
    elim (f b) as (λ x. elim x [ true ↦ suc (run f t) | false ↦ 0 ] ≤ suc (length t)) [ true ↦ suc-le-suc (run_fits f t) | false ↦ zero-le ]

at_least_one_fits : (n k : ℕ) → n ≤ k → Fits (at_least_one n) k
at_least_one_fits zero k h = tt
at_least_one_fits (suc n) k h = h

pub given_fits : (b : Bool) (n k : ℕ) → (T b → n ≤ k) → Fits (given b n) k
given_fits true n k h = h tt
given_fits false n k h = tt

pub one_fits : (f : ℕ → Bool) (t : List ℕ) → Fits (one_of f t) (length t)
one_fits f [] = tt
one_fits f (b ∷ t) = given_fits (f b) 1 (suc (length t)) λ h. suc-le-suc zero-le

begins_fits : (w t : List ℕ) → T (begins w t) → length w ≤ length t
begins_fits [] t h = zero-le
begins_fits (a ∷ w) [] h = absurd h
begins_fits (a ∷ w) (b ∷ t) h =
    (elim (eqb a b) as (λ x. T (elim x [ true ↦ begins w t | false ↦ false ]) → suc (length w) ≤ suc (length t)) [
      | true ↦ λ k. suc-le-suc (begins_fits w t k)
      | false ↦ λ k. absurd k
    ]) h

begins_no_case_fits : (w t : List ℕ) → T (begins_no_case w t) → length w ≤ length t
begins_no_case_fits [] t h = zero-le
begins_no_case_fits (a ∷ w) [] h = absurd h
begins_no_case_fits (a ∷ w) (b ∷ t) h =
    (elim (eqb a (lower b)) as (λ x. T (elim x [ true ↦ begins_no_case w t | false ↦ false ]) → suc (length w) ≤ suc (length t)) [
      | true ↦ λ k. suc-le-suc (begins_no_case_fits w t k)
      | false ↦ λ k. absurd k
    ]) h

plus_fits : (o : Option ℕ) (k : ℕ) → Fits o k → Fits (plus 1 o) (suc k)
plus_fits none k h = tt
plus_fits (some n) k h = omega arith

comment_fits : (d p : ℕ) (t : List ℕ) → Fits (comment d p t) (length t)
comment_fits d p [] = tt
comment_fits d p (b ∷ t) =
    elim (is 42 p && is 47 b) as (λ x. Fits (elim x [
      | true ↦ elim d [ zero ↦ some 1 | suc e ↦ plus 1 (comment e 0 t) ]
      | false ↦ elim (is 47 p && is 42 b) [ true ↦ plus 1 (comment (suc d) 0 t) | false ↦ plus 1 (comment d b t) ]
    ]) (suc (length t))) [
      | true ↦ elim d as (λ c. Fits (elim c [ zero ↦ some 1 | suc e ↦ plus 1 (comment e 0 t) ]) (suc (length t))) [
        | zero ↦ suc-le-suc zero-le
        | suc e ↦ plus_fits (comment e 0 t) (length t) (comment_fits e 0 t)
      ]
      | false ↦ elim (is 47 p && is 42 b) as (λ x. Fits (elim x [ true ↦ plus 1 (comment (suc d) 0 t) | false ↦ plus 1 (comment d b t) ]) (suc (length t))) [
        | true ↦ plus_fits (comment (suc d) 0 t) (length t) (comment_fits (suc d) 0 t)
        | false ↦ plus_fits (comment d b t) (length t) (comment_fits d b t)
      ]
    ]

pub taken_fits : (f : Leaf) (t : List ℕ) → Fits (taken f t) (length t)
taken_fits (one f) t = one_fits f t
taken_fits (run0 f) t = run_fits f t
taken_fits (run1 f) t = at_least_one_fits (run f t) (length t) (run_fits f t)
taken_fits (tag w) t = given_fits (begins w t) (length w) (length t) (begins_fits w t)
taken_fits (tag_no_case w) t = given_fits (begins_no_case w t) (length w) (length t) (begins_no_case_fits w t)
taken_fits comment_rest t = comment_fits 0 0 t

-- Inputs -------------------------------------------------------------------

drop_same : (m n : ℕ) (t : List ℕ) → m ≡ n → drop m t ≡ drop n t
drop_same m n t e = ap (λ k. drop k t) e

pub here_on : (p : Input) → Ahead p p
here_on p = record { on = omega arith; sum = refl; rest = drop_same 0 (p.at - p.at) p.left (omega arith) }

pub trans_on : {p q r : Input} → Ahead p q → Ahead q r → Ahead p r
trans_on {p} {q} {r} a b =
    record {
      on = omega arith;
      sum = a.sum ∙ b.sum;
      rest = b.rest ∙ ap (drop (r.at - q.at)) a.rest ∙ drop-drop (r.at - q.at) (q.at - p.at) p.left
          ∙ drop_same (q.at - p.at + (r.at - q.at)) (r.at - p.at) p.left (omega arith);
    }

pub behind_on : (n : ℕ) (p : Input) → n ≤ length p.left → Ahead p (behind n p)
behind_on n p h =
    record { on = omega arith; sum = omega (arith, length-drop n p.left); rest = drop_same n (p.at + n - p.at) p.left (omega arith) }

pub end_on : (p : Input) → Ahead p (to_end p)
end_on p =
    record {
      on = omega arith;
      sum = sym (add-zero (p.at + length p.left));
      rest = sym (drop_same (p.at + length p.left - p.at) (length p.left) p.left (omega arith) ∙ drop-length p.left);
    }

-- Replies ------------------------------------------------------------------

-- a reply is at an input ahead of p, or fails
abbrev pub On : {A : Type 0} → Input → Reply A → Type 0
On p (ok a q v) = Ahead p q
On p (err v) = Unit {0}

-- from everywhere
abbrev pub Onward : {A : Type 0} → Act A → Type 0
Onward m = (l : ℕ) (p : Input) (w : State) → On p (m l p w)

pub further : {B : Type 0} {p q : Input} (r : Reply B) → Ahead p q → On q r → On p r
further (ok a r v) h k = trans_on h k
further (err v) h k = tt

pub then_on : {A B : Type 0} (p : Input) (r : Reply A) (f : A → Input → State → Reply B)
    → On p r → ((a : A) (q : Input) (v : State) → On q (f a q v)) → On p (then r f)
then_on p (ok a q v) f h k = further (f a q v) h (k a q v)
then_on p (err v) f h k = tt

pub else_on : {A : Type 0} (p : Input) (r : Reply A) (f : State → Reply A) → On p r → ((v : State) → On p (f v)) → On p (else r f)
else_on p (ok a q v) f h k = h
else_on p (err v) f h k = k v

pub with_on : {A B : Type 0} (p : Input) (f : A → B) (r : Reply A) → On p r → On p (with f r)
with_on p f (ok a q v) h = h
with_on p f (err v) h = tt

pub turned_on : {A : Type 0} (p : Input) (r : Reply A) → On p (turned p r)
turned_on p (ok a q v) = tt
turned_on p (err v) = here_on p

pub take_on : (o : Option ℕ) (p : Input) (w : State) → Fits o (length p.left) → On p (take o p w)
take_on none p w h = tt
take_on (some n) p w h = behind_on n p h

pub last_on : {A : Type 0} (p : Input) (r : Reply A) → On p (last_round p r)
last_on p (ok a q v) = tt
last_on p (err v) = here_on p

pub gate_on : {A : Type 0} (p : Input) (b : Bool) (v : State) (k : Unit {0} → Reply A) → ((t : Unit {0}) → On p (k t)) → On p (gate b v k)
gate_on p true v k h = h tt
gate_on p false v k h = tt

pub next_on : {A : Type 0} (p : Input) (r : Reply A) (k : Input → State → Reply (List A))
    → On p r → ((q : Input) (v : State) → On q (k q v)) → On p (next_round p r k)
next_on p (ok a q v) k h f =
    gate_on p (ltb p.at q.at) v (λ t. then (k q v) λ rest r u. ok (a ∷ rest) r u)
    λ t. further (then (k q v) λ rest r u. ok (a ∷ rest) r u) h (then_on q (k q v) (λ rest r u. ok (a ∷ rest) r u) (f q v) λ rest r u. here_on r)
next_on p (err v) k h f = here_on p

pub rounds_on : {A : Type 0} (m : Act A) → Onward m → (f : List ℕ) → Onward (rounds m f)
rounds_on m h [] l p w = last_on p (m l p w)
rounds_on m h (b ∷ f) l p w = next_on p (m l p w) (λ q v. rounds m f l q v) (h l p w) λ q v. rounds_on m h f l q v

-- a tuple: `m ▸ n` and a round of a chain
pub pair_on : (m n : Act Rows) → Onward m → Onward n → Onward (λ l p w. then (m l p w) λ a q v. with (a ++◌) (n l q v))
pair_on m n h i l p w = then_on p (m l p w) (λ a q v. with (a ++◌) (n l q v)) (h l p w) λ a q v. with_on q (a ++◌) (n l q v) (i l q v)

pub located_on : (k : ℕ) (d : Rows → ℕ) (p : Input) (r : Reply Rows) (f : Input → State → Reply Rows)
    → On p r → ((q : Input) (v : State) → On q (f q v)) → On p (located k d p r f)
located_on k d p r f h i = then_on p r _ h λ _ q v. then_on q (f q v) _ (i q v) λ a s u. here_on s

pub char_at_on : (c : ℕ) (p : Input) (r : Reply Rows) → On p r → On p (char_at c p r)
char_at_on c p r h =
    located_on charᵏ (always c) p r (λ q v. take (one_of (is c) q.left) q v) h
    λ q v. take_on (one_of (is c) q.left) q v (one_fits (is c) q.left)

pub closed_on : (o : Row) (p : Input) (r : Reply Rows) → On p r → On p (closed o p r)
closed_on o p r h = else_on p (char_at 125 p r) (λ v. ok (mended o) p (reported (error_at 5 p.at) v)) (char_at_on 125 p r h) λ v. here_on p

pub picked_on : (k t d : ℕ) (o : Option ℕ) (p : Input) (w : State) (r : Reply Rows)
    → Fits o (length p.left) → On p r → On p (picked k t d o p w r)
picked_on k t d none p w r h e = e
picked_on k t d (some n) p w r h e = behind_on n p h

pub pick_word_on : (k t : ℕ) (xs : List (Leaf × ℕ)) (p : Input) (w : State) → On p (pick_word k t xs p w)
pick_word_on k t [] p w = tt
pick_word_on k t (x ∷ xs) p w =
    picked_on k t x.1 (taken x.0 p.left) p w (pick_word k t xs p w) (taken_fits x.0 p.left) (pick_word_on k t xs p w)

-- Parsers ------------------------------------------------------------------

module _ (ρ : Rule → Act Rows) (h : (x : Rule) → Onward (ρ x)) where
  pub ahead : (m : Parser) → Onward (parse ρ m)
  ahead empty l p w = here_on p
  ahead (m ▸ n) l p w = pair_on (parse ρ m) (parse ρ n) (ahead m) (ahead n) l p w
  ahead (m or n) l p w = else_on p (parse ρ m l p w) _ (ahead m l p w) λ v. ahead n l p v
  ahead (never m) l p w = turned_on p (parse ρ m l p w)
  ahead (many0 m) l p w = with_on p joined (rounds (parse ρ m) p.left l p w) (rounds_on (parse ρ m) (ahead m) p.left l p w)
  ahead (leaf f) l p w = take_on (taken f p.left) p w (taken_fits f p.left)
  ahead (rule x) l p w = h x l p w
  ahead unterminated l p w = end_on p
  ahead (node k d t m) l p w = located_on k d p (parse ρ t l p w) (λ q v. parse ρ m l q v) (ahead t l p w) λ q v. ahead m l q v
  ahead (pick k t xs) l p w = then_on p (parse ρ t l p w) _ (ahead t l p w) λ _ q v. pick_word_on k p.at xs q v
  ahead (over k d m n) l p w = then_on p (parse ρ m l p w) _ (ahead m l p w) λ a q v. then_on q (parse ρ n l q v) _ (ahead n l q v) λ b r u. here_on r
  ahead (scoped k m n) l p w = then_on p (parse ρ m l p w) _ (ahead m l p w) λ a q v. then_on q (parse ρ n l q v) _ (ahead n l q v) λ b r u. here_on r
  ahead (import m n s b) l p w =
      then_on p (parse ρ m l p w) _ (ahead m l p w) λ a q v. then_on q (parse ρ n l q v) _ (ahead n l q v)
      λ c r u. then_on r (parse ρ s l r u) _ (ahead s l r u) λ d x y. then_on x (parse ρ b l x y) _ (ahead b l x y) λ e z t. here_on z
  ahead (argument t m) l p w = then_on p (parse ρ t l p w) _ (ahead t l p w) λ _ q v. then_on q (parse ρ m l q v) _ (ahead m l q v) λ a r u. here_on r
  ahead (chain o m) l p w =
      then_on p (parse ρ m l p w) _ (ahead m l p w)
      λ a q v. with_on q (folded a) (rounds (parse ρ (o ▸ m)) q.left l q v)
      (rounds_on (parse ρ (o ▸ m)) (pair_on (parse ρ o) (parse ρ m) (ahead o) (ahead m)) q.left l q v)
  ahead (bracket t c m) l p w =
      then_on p (char_at c p (parse ρ t l p w)) _ (char_at_on c p (parse ρ t l p w) (ahead t l p w))
      λ a q v. with_on q (a ++◌) (parse ρ m (suc l) q (raised (suc l) v)) (ahead m (suc l) q (raised (suc l) v))
  ahead (braced t m) l p w =
      then_on p (char_at 123 p (parse ρ t l p w)) _ (char_at_on 123 p (parse ρ t l p w) (ahead t l p w))
      λ a q v. then_on q (rounds (parse ρ m) q.left (suc l) q (raised (suc l) v)) _
      (rounds_on (parse ρ m) (ahead m) q.left (suc l) q (raised (suc l) v))
      λ rs r u. with_on r (λ c. a ++ joined rs ++ c) (closed (root a) r (parse ρ t (suc l) r u))
      (closed_on (root a) r (parse ρ t (suc l) r u) (ahead t (suc l) r u))
  ahead (complain m) l p w = then_on p (parse ρ m l p w) _ (ahead m l p w) λ a q v. here_on q
  ahead (expect c m) l p w = else_on p (parse ρ m l p w) _ (ahead m l p w) λ v. here_on p
