-- Rows are paid for by bytes: a text of n bytes has at most 4 n + 1 rows. Each parser has a cost, which antt computes: the bytes that it
-- takes for sure, at four rows each, and the rows that it writes besides. What is read again and again must pay for itself. One lemma for
-- each way of combining replies, then one induction over the parsers.
use mathlib.Core.Path.{◌≡◌, refl, ap, ◌∙◌}
use mathlib.Core.Bool.{Bool, true, false, ◌&&◌}
use mathlib.Core.List.{List, [], ◌∷◌, ◌++◌}
use mathlib.Core.Option.{Option, none, some}
use Prim.Native.Nat.{ℕ, zero, suc, ◌+◌, ◌*◌, ◌≤◌}
use native.Mathlib.Omega.{arith}
use lib.Dec.{T, leb, leb→le, nleb→lt, not_T, ltb, lit≤}
use lib.ListN.{length, length-append}
use Rattle.reading.specs.Byte.{is}
use Rattle.reading.specs.Kind.{charᵏ, binaryᵏ, importᵏ}
use Rattle.reading.specs.Grammar.{Rows, Row, State, Input, Reply, ok, err, Leaf, Rule, expr, config, stmt, Parser, empty, ◌▸◌, ◌or◌, never, many0, leaf, rule, unterminated, node, pick, over, scoped, import, argument, chain, bracket, braced, complain, expect, raised, root, joined, under, first_low, placed, binary, folded, Act, then, else, with, turned, gate, last_round, next_round, rounds, one_of, taken, take, always, located, char_at, picked, pick_word, closed, parse}
use Rattle.reading.specs.Rules.{all_rules, source_file}
use Rattle.reading.specs.Reading.{rule_of, reads, written, start}
use Rattle.reading.proofs.Leaf.{least, all_one, Least, one_least, taken_least}
use Rattle.reading.proofs.Bool.{and_left, and_right}

-- Costs --------------------------------------------------------------------

-- what is read writes at most 4 rows for each byte, less `gain`, and `debt` more
pub record Cost : Type 0 where
  pub gain : ℕ
  pub debt : ℕ

abbrev pub price : ℕ → ℕ → Cost
price a b = record { gain = a; debt = b }

infixl 60 ◌⊕◌
abbrev pub ◌⊕◌ : Cost → Cost → Cost
a ⊕ b = price (a.gain + b.gain) (a.debt + b.debt)

abbrev pub paid : Cost → Bool
paid c = leb c.debt c.gain

-- the dearer of two costs
abbrev pub chosen : Bool → Cost → Cost → Cost
chosen true a b = a
chosen false a b = b

abbrev pub worse : Cost → Cost → Cost
worse a b = chosen (leb (a.gain + b.debt) (b.gain + a.debt)) a b

abbrev pub cost : Parser → Cost
cost empty = price 0 0
cost (m ▸ n) = cost m ⊕ cost n
cost (m or n) = worse (cost m) (cost n)
cost (never m) = price 0 0
cost (many0 m) = price 0 0
cost (leaf f) = price (4 * least f) 0
cost (rule x) = price 0 0
cost unterminated = price 0 0
cost (node k d t m) = price 0 1 ⊕ cost m
cost (pick k t xs) = price 4 1
cost (over k d m n) = price 0 1 ⊕ (cost m ⊕ cost n)
cost (scoped k m n) = price 0 1 ⊕ (cost m ⊕ cost n)
cost (import m n s b) = price 0 1 ⊕ (cost m ⊕ cost n ⊕ cost s ⊕ cost b)
cost (argument t m) = cost m
cost (chain o m) = cost m
cost (bracket t c m) = price 4 1 ⊕ cost m
cost (braced t m) = price 4 2
cost (complain m) = cost m
cost (expect c m) = worse (cost m) (price 0 0)

-- what is read again and again pays for itself
abbrev pub slim : Parser → Bool
slim empty = true
slim (m ▸ n) = slim m && slim n
slim (m or n) = slim m && slim n
slim (never m) = true
slim (many0 m) = slim m && paid (cost m)
slim (leaf f) = true
slim (rule x) = true
slim unterminated = true
slim (node k d t m) = slim t && slim m
slim (pick k t xs) = slim t && all_one xs
slim (over k d m n) = slim m && slim n
slim (scoped k m n) = slim m && slim n
slim (import m n s b) = (slim m && slim n) && (slim s && slim b)
slim (argument t m) = slim t && slim m
slim (chain o m) = (slim o && slim m) && paid (price 0 1 ⊕ (cost o ⊕ cost m))
slim (bracket t c m) = slim t && slim m
slim (braced t m) = slim t && (slim m && paid (cost m))
slim (complain m) = slim m
slim (expect c m) = slim m

-- the rules pass the test and pay for themselves; the whole text owes one row
pub rule_slim : (x : Rule) → T (slim (rule_of x))
unfolding all_rules
rule_slim expr = tt
rule_slim config = tt
rule_slim stmt = tt

pub rule_paid : (x : Rule) → T (paid (cost (rule_of x)))
unfolding all_rules
rule_paid expr = tt
rule_paid config = tt
rule_paid stmt = tt

source_slim : T (slim source_file)
unfolding all_rules
source_slim = tt

source_paid : T (paid (price 1 0 ⊕ cost source_file))
unfolding all_rules
source_paid = tt

-- What the test means ------------------------------------------------------

-- n rows from p to q, at this cost
pub record Fit (n : ℕ) (c : Cost) (p q : Input) : Type 0 where
  pub on : p.at ≤ q.at
  pub rows : n + c.gain + 4 * p.at ≤ 4 * q.at + c.debt

-- the same of a reply from p, whose rows are counted by f
abbrev pub Few : {A : Type 0} → (A → ℕ) → Cost → Input → Reply A → Type 0
Few f c p (ok a q v) = Fit (f a) c p q
Few f c p (err v) = Unit {0}

pub record Slim {A : Type 0} (f : A → ℕ) (c : Cost) (p : Input) (r : Reply A) : Type 0 where
  pub few : Few f c p r

slim_ok : {A : Type 0} {f : A → ℕ} {c : Cost} {p q : Input} {a : A} {v : State} → Fit (f a) c p q → Slim f c p (ok a q v)
slim_ok h = record { few = h }

slim_err : {A : Type 0} {f : A → ℕ} {c : Cost} {p : Input} {v : State} → Slim f c p (err v)
slim_err = record { few = tt }

then_slim : {A B : Type 0} {f : A → ℕ} {g : B → ℕ} {c d : Cost} {p s : Input} {r : Reply A} {k : A → Input → State → Reply B}
    → Slim f c p r → ((a : A) (q : Input) (v : State) → Fit (f a) c p q → Slim g d s (k a q v)) → Slim g d s (then r k)
then_slim {r = ok a q v} h e = e a q v h.few
then_slim {r = err v} h e = slim_err

with_slim : {A B : Type 0} {f : A → ℕ} {g : B → ℕ} {c d : Cost} {p s : Input} (i : A → B) {r : Reply A}
    → Slim f c p r → ((a : A) (q : Input) → Fit (f a) c p q → Fit (g (i a)) d s q) → Slim g d s (with i r)
with_slim i {r = ok a q v} h e = slim_ok (e a q h.few)
with_slim i {r = err v} h e = slim_err

else_slim : {A : Type 0} {f : A → ℕ} {c : Cost} {p : Input} {r : Reply A} {k : State → Reply A}
    → Slim f c p r → ((v : State) → Slim f c p (k v)) → Slim f c p (else r k)
else_slim {r = ok a q v} h e = h
else_slim {r = err v} h e = e v

-- nothing is read, and no row written
here_slim : {A : Type 0} {f : A → ℕ} {a : A} {p : Input} {v : State} → f a ≡ 0 → Slim f (price 0 0) p (ok a p v)
here_slim e = slim_ok (record { on = omega arith; rows = omega arith })

-- at a higher cost, and from further behind
cheaper : {A : Type 0} {f : A → ℕ} {c d : Cost} {p : Input} {r : Reply A} → d.gain + c.debt ≤ c.gain + d.debt → Slim f c p r → Slim f d p r
cheaper {r = ok a q v} h i = slim_ok (record { on = i.few.on; rows = omega arith })
cheaper {r = err v} h i = slim_err

from_behind : {A : Type 0} {f : A → ℕ} {c : Cost} {p q : Input} {r : Reply A} → p.at ≤ q.at → Slim f c q r → Slim f c p r
from_behind {r = ok a s v} h i = slim_ok (record { on = omega arith; rows = omega arith })
from_behind {r = err v} h i = slim_err

for_nothing : {A : Type 0} {f : A → ℕ} (c : Cost) {p : Input} {r : Reply A} → T (paid c) → Slim f c p r → Slim f (price 0 0) p r
for_nothing c t h = cheaper (omega (arith, leb→le c.debt c.gain t)) h

chosen_law : (x : Bool) (a b : Cost) → (T x → a.gain + b.debt ≤ b.gain + a.debt) → ((T x → ⊥) → b.gain + a.debt ≤ a.gain + b.debt)
    → ((chosen x a b).gain + a.debt ≤ a.gain + (chosen x a b).debt) × ((chosen x a b).gain + b.debt ≤ b.gain + (chosen x a b).debt)
chosen_law true a b h i = (omega arith, h tt)
chosen_law false a b h i = (i (λ t. t), omega arith)

pub worse_both : (a b : Cost)
    → ((worse a b).gain + a.debt ≤ a.gain + (worse a b).debt) × ((worse a b).gain + b.debt ≤ b.gain + (worse a b).debt)
worse_both a b =
    let x = a.gain + b.debt in
    let y = b.gain + a.debt in
    chosen_law (leb x y) a b (leb→le x y) λ h. omega (arith, nleb→lt x y (not_T (leb x y) h))

-- Leaves -------------------------------------------------------------------

take_slim : (k : ℕ) (o : Option ℕ) (p : Input) (w : State) → Least k o → Slim length (price (4 * k) 0) p (take o p w)
take_slim k none p w h = slim_err
take_slim k (some n) p w h = slim_ok (record { on = omega arith; rows = omega arith })

picked_slim : (k t d j : ℕ) (o : Option ℕ) (p : Input) (w : State) {r : Reply Rows} → Least j o → 1 ≤ j → Slim length (price 4 1) p r
    → Slim length (price 4 1) p (picked k t d o p w r)
picked_slim k t d j none p w h i e = e
picked_slim k t d j (some n) p w h i e = slim_ok (record { on = omega arith; rows = omega arith })

pick_slim : (k t : ℕ) (xs : List (Leaf × ℕ)) → T (all_one xs) → (p : Input) (w : State) → Slim length (price 4 1) p (pick_word k t xs p w)
pick_slim k t [] u p w = slim_err
pick_slim k t (x ∷ xs) u p w =
    picked_slim k t x.1 (least x.0) (taken x.0 p.left) p w (taken_least x.0 p.left)
    (leb→le 1 (least x.0) (and_left (leb 1 (least x.0)) (all_one xs) u)) (pick_slim k t xs (and_right (leb 1 (least x.0)) (all_one xs) u) p w)

-- Rows ---------------------------------------------------------------------

under_length : (k d t a z : ℕ) (rs : Rows) → length (under k d t a z rs) ≡ length rs + 1
under_length k d t a z rs = length-append rs _

pub placed_length : (t a z : ℕ) (rs : Rows) → length (placed t a z rs) ≡ length rs
placed_length t a z [] = refl
placed_length t a z (r ∷ []) = refl
placed_length t a z (r ∷ (s ∷ rs)) = ap suc (placed_length t a z (s ∷ rs))

abbrev total : (Rows → ℕ) → List Rows → ℕ
total s [] = 0
total s (x ∷ xs) = s x + total s xs

joined_length : (xs : List Rows) → length (joined xs) ≡ total length xs
joined_length [] = refl
joined_length (x ∷ xs) = length-append x (joined xs) ∙ ap (length x +◌) (joined_length xs)

-- a tree, and the row that folding puts over it
abbrev one_more : Rows → ℕ
one_more rs = suc (length rs)

folded_length : (a : Rows) (xs : List Rows) → length (folded a xs) ≡ length a + total one_more xs
folded_length a [] = omega arith
folded_length a (x ∷ xs) =
    let h = folded_length (binary a x) xs in
    let i = under_length binaryᵏ 0 (root a).low (root a).low (root x).high (a ++ x) in
    let j = length-append a x in
    omega arith

-- Replies ------------------------------------------------------------------

turned_slim : {A : Type 0} (p : Input) (r : Reply A) → Slim length (price 0 0) p (turned p r)
turned_slim p (ok a q v) = slim_err
turned_slim p (err v) = here_slim refl

-- rounds that pay for themselves
last_slim : (s : Rows → ℕ) (p : Input) (r : Reply Rows) → Slim (total s) (price 0 0) p (last_round p r)
last_slim s p (ok a q v) = slim_err
last_slim s p (err v) = here_slim refl

gate_slim : {A : Type 0} {f : A → ℕ} {c : Cost} {p : Input} (b : Bool) (v : State) {k : Unit {0} → Reply A}
    → ((t : Unit {0}) → Slim f c p (k t)) → Slim f c p (gate b v k)
gate_slim true v h = h tt
gate_slim false v h = slim_err

next_slim : {s : Rows → ℕ} {p : Input} (r : Reply Rows) {k : Input → State → Reply (List Rows)} → Slim s (price 0 0) p r
    → ((q : Input) (v : State) → Slim (total s) (price 0 0) q (k q v)) → Slim (total s) (price 0 0) p (next_round p r k)
next_slim {p = p} (ok a q v) h e =
    gate_slim (ltb p.at q.at) v λ t. then_slim (e q v) λ rest r u i. slim_ok (record { on = omega arith; rows = omega arith })
next_slim (err v) h e = here_slim refl

rounds_slim : {s : Rows → ℕ} (m : Act Rows) → ((l : ℕ) (p : Input) (w : State) → Slim s (price 0 0) p (m l p w))
    → (f : List ℕ) (l : ℕ) (p : Input) (w : State) → Slim (total s) (price 0 0) p (rounds m f l p w)
rounds_slim {s} m h [] l p w = last_slim s p (m l p w)
rounds_slim m h (b ∷ f) l p w = next_slim (m l p w) (h l p w) λ q v. rounds_slim m h f l q v

rounds_paid : (c : Cost) → T (paid c) → (m : Act Rows) → ((l : ℕ) (p : Input) (w : State) → Slim length c p (m l p w))
    → (f : List ℕ) (l : ℕ) (p : Input) (w : State) → Slim (total length) (price 0 0) p (rounds m f l p w)
rounds_paid c t m h = rounds_slim m λ l p w. for_nothing c t (h l p w)

-- trivia and what stands behind it, with a row around it
located_slim : (k : ℕ) (e : Rows → ℕ) {c d : Cost} {p : Input} {r : Reply Rows} {f : Input → State → Reply Rows}
    → Slim length c p r → ((q : Input) (v : State) → Slim length d q (f q v)) → Slim length (price 0 1 ⊕ d) p (located k e p r f)
located_slim k e {p = p} h i =
    then_slim h λ _ q v f. then_slim (i q v) λ a s u g.
    let j = under_length k (e a) p.at q.at s.at a in slim_ok (record { on = omega arith; rows = omega arith })

char_slim : (c : ℕ) {d : Cost} {p : Input} {r : Reply Rows} → Slim length d p r → Slim length (price 4 1) p (char_at c p r)
char_slim c h = located_slim charᵏ (always c) h λ q v. take_slim 1 (one_of (is c) q.left) q v (one_least (is c) q.left)

closed_slim : (o : Row) {d : Cost} {p : Input} {r : Reply Rows} → Slim length d p r → Slim length (price 0 1) p (closed o p r)
closed_slim o h = else_slim (cheaper (lit≤ tt) (char_slim 125 h)) λ v. slim_ok (record { on = omega arith; rows = omega arith })

-- Parsers ------------------------------------------------------------------

all_three : (a b c : Bool) → T (a && (b && c)) → T a × T b × T c
all_three a b c t = let u = and_right a (b && c) t in (and_left a (b && c) t, and_left b c u, and_right b c u)

pub all_four : (a b c d : Bool) → T ((a && b) && (c && d)) → T a × T b × T c × T d
all_four a b c d t =
    let u = and_left (a && b) (c && d) t in
    let v = and_right (a && b) (c && d) t in
    (and_left a b u, and_right a b u, and_left c d v, and_right c d v)

module _ (ρ : Rule → Act Rows) (h : (x : Rule) (l : ℕ) (p : Input) (w : State) → Slim length (price 0 0) p (ρ x l p w)) where
  pub slimly : (m : Parser) → T (slim m) → (l : ℕ) (p : Input) (w : State) → Slim length (cost m) p (parse ρ m l p w)
  slimly empty u l p w = here_slim refl
  slimly (m ▸ n) u l p w =
      then_slim (slimly m (and_left (slim m) (slim n) u) l p w) λ a q v f. with_slim (a ++◌) (slimly n (and_right (slim m) (slim n) u) l q v)
      λ b r g. let i = length-append a b in record { on = omega arith; rows = omega arith }
  slimly (m or n) u l p w =
      let i = worse_both (cost m) (cost n) in
      else_slim (cheaper i.0 (slimly m (and_left (slim m) (slim n) u) l p w)) λ v. cheaper i.1 (slimly n (and_right (slim m) (slim n) u) l p v)
  slimly (never m) u l p w = turned_slim p (parse ρ m l p w)
  slimly (many0 m) u l p w =
      with_slim joined (rounds_paid (cost m) (and_right (slim m) (paid (cost m)) u) (parse ρ m) (slimly m (and_left (slim m) (paid (cost m)) u)) p.left l p w)
      λ a q f. let i = joined_length a in record { on = omega arith; rows = omega arith }
  slimly (leaf f) u l p w = take_slim (least f) (taken f p.left) p w (taken_least f p.left)
  slimly (rule x) u l p w = h x l p w
  slimly unterminated u l p w = slim_ok (record { on = omega arith; rows = omega arith })
  slimly (node k d t m) u l p w = located_slim k d (slimly t (and_left (slim t) (slim m) u) l p w) λ q v. slimly m (and_right (slim t) (slim m) u) l q v
  slimly (pick k t xs) u l p w =
      then_slim (slimly t (and_left (slim t) (all_one xs) u) l p w) λ _ q v f. from_behind f.on (pick_slim k p.at xs (and_right (slim t) (all_one xs) u) q v)
  slimly (over k d m n) u l p w =
      then_slim (slimly m (and_left (slim m) (slim n) u) l p w) λ a q v f. then_slim (slimly n (and_right (slim m) (slim n) u) l q v)
      λ b r x g.
      let i = under_length k d p.at (first_low a) r.at (a ++ b) in
      let j = length-append a b in
      slim_ok (record { on = omega arith; rows = omega arith })
  slimly (scoped k m n) u l p w =
      then_slim (slimly m (and_left (slim m) (slim n) u) l p w) λ a q v f. then_slim (slimly n (and_right (slim m) (slim n) u) l q v)
      λ b r x g.
      let i = under_length k (suc x.scope) p.at (first_low a) r.at (a ++ b) in
      let j = length-append a b in
      slim_ok (record { on = omega arith; rows = omega arith })
  slimly (import m n s b) u l p w =
      then_slim (slimly m (all_four (slim m) (slim n) (slim s) (slim b) u).0 l p w) λ a q v f.
      then_slim (slimly n (all_four (slim m) (slim n) (slim s) (slim b) u).1 l q v) λ c r x g.
      then_slim (slimly s (all_four (slim m) (slim n) (slim s) (slim b) u).2 l r x) λ d y z i.
      then_slim (slimly b (all_four (slim m) (slim n) (slim s) (slim b) u).3 l y z) λ e o t j.
      let k₁ = under_length importᵏ (suc t.scope) p.at (first_low a) o.at (a ++ c ++ d ++ e) in
      let k₂ = length-append (a ++ c ++ d) e in
      let k₃ = length-append (a ++ c) d in
      let k₄ = length-append a c in
      slim_ok (record { on = omega arith; rows = omega arith })
  slimly (argument t m) u l p w =
      then_slim (slimly t (and_left (slim t) (slim m) u) l p w) λ _ q v f. then_slim (slimly m (and_right (slim t) (slim m) u) l q v)
      λ a r x g. let i = placed_length p.at q.at r.at a in slim_ok (record { on = omega arith; rows = omega arith })
  slimly (chain o m) u l p w =
      let pays = price 0 1 ⊕ (cost o ⊕ cost m) in
      let om = and_left (slim o && slim m) (paid pays) u in
      let up = leb→le pays.debt pays.gain (and_right (slim o && slim m) (paid pays) u) in
      then_slim (slimly m (and_right (slim o) (slim m) om) l p w) λ a q v f. with_slim (folded a)
      (rounds_slim {s = one_more} (parse ρ (o ▸ m))
      (λ l p w. then_slim (slimly o (and_left (slim o) (slim m) om) l p w) λ b q v f. with_slim (b ++◌) (slimly m (and_right (slim o) (slim m) om) l q v)
      λ c r g. let i = length-append b c in record { on = omega arith; rows = omega arith })
      q.left l q v)
      λ xs r g. let i = folded_length a xs in record { on = omega arith; rows = omega arith }
  slimly (bracket t c m) u l p w =
      then_slim (char_slim c (slimly t (and_left (slim t) (slim m) u) l p w)) λ a q v f. with_slim (a ++◌) (slimly m (and_right (slim t) (slim m) u) (suc l) q (raised (suc l) v))
      λ b r g. let i = length-append a b in record { on = omega arith; rows = omega arith }
  slimly (braced t m) u l p w =
      then_slim (char_slim 123 (slimly t (all_three (slim t) (slim m) (paid (cost m)) u).0 l p w)) λ a q v f.
      then_slim
      (rounds_paid (cost m) (all_three (slim t) (slim m) (paid (cost m)) u).2 (parse ρ m) (slimly m (all_three (slim t) (slim m) (paid (cost m)) u).1)
      q.left (suc l) q (raised (suc l) v))
      λ rs r x g. with_slim (λ c. a ++ joined rs ++ c) (closed_slim (root a) (slimly t (all_three (slim t) (slim m) (paid (cost m)) u).0 (suc l) r x))
      λ c y i.
      let k₁ = length-append (a ++ joined rs) c in
      let k₂ = length-append a (joined rs) in
      let k₃ = joined_length rs in
      record { on = omega arith; rows = omega arith }
  slimly (complain m) u l p w = then_slim (slimly m u l p w) λ a q v f. slim_ok f
  slimly (expect c m) u l p w =
      let i = worse_both (cost m) (price 0 0) in
      else_slim (cheaper i.0 (slimly m u l p w)) λ v. cheaper i.1 (here_slim refl)

pub reads_slim : (n : ℕ) (x : Rule) (l : ℕ) (p : Input) (w : State) → Slim length (price 0 0) p (reads n x l p w)
reads_slim zero x l p w = slim_err
reads_slim (suc n) x l p w = for_nothing (cost (rule_of x)) (rule_paid x) (slimly (reads n) (reads_slim n) (rule_of x) (rule_slim x) l p w)

-- a reading has at most four rows for a byte, and one more
pub written_slim : (t : List ℕ) (n : ℕ) (f : Bool) → Slim length (price 0 1) (record { at = 0; left = t }) (written t n f)
unfolding written
written_slim t n f =
    cheaper (omega (arith, leb→le (0 + (cost source_file).debt) (1 + (cost source_file).gain) source_paid))
    (slimly (reads (length t)) (reads_slim (length t)) source_file source_slim 0 (record { at = 0; left = t }) (start n f))
