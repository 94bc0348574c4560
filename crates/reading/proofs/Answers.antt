-- A text always has a reading, and the reading takes all of it: all_consuming(..).unwrap() never panics. `sure m`, which antt computes, says that
-- m never fails; one induction over the parsers shows it.
use mathlib.Core.Path.{◌≡◌, refl}
use mathlib.Core.Bool.{Bool, true, false, ◌&&◌}
use mathlib.Core.List.{List, [], ◌∷◌, ◌++◌}
use Prim.Native.Nat.{ℕ}
use native.Mathlib.Omega.{arith}
use lib.Dec.{T}
use lib.ListN.{length, drop}
use Rattle.reading.specs.Byte.{run}
use Rattle.reading.specs.Grammar.{Rows, State, Input, Reply, ok, err, Leaf, one, run0, run1, tag, tag_no_case, comment_rest, Rule, Parser, empty, ◌▸◌, ◌or◌, never, many0, leaf, rule, unterminated, node, pick, over, scoped, import, argument, chain, bracket, braced, complain, expect, joined, Act, then, else, with, rounds, parse}
use Rattle.reading.specs.Rules.{statement, error, multiline_trivia, eof, all_rules}
use Rattle.reading.specs.Reading.{start, reads, written}
use Rattle.reading.proofs.Bool.{and_left, and_right}
use Rattle.reading.proofs.Ahead.{Onward, ahead}
use Rattle.reading.proofs.Fuel.{reads_on}
use Rattle.reading.proofs.Moves.{moves, Moving, Succeeds, then_succeeds, rounds_succeed, moving, reads_moving}

-- The test -----------------------------------------------------------------

abbrev pub sure_leaf : Leaf → Bool
sure_leaf (one f) = false
sure_leaf (run0 f) = true
sure_leaf (run1 f) = false
sure_leaf (tag w) = false
sure_leaf (tag_no_case w) = false
sure_leaf comment_rest = false

-- true of what never fails; not of all such, but of enough
abbrev pub sure : Parser → Bool
sure empty = true
sure (m ▸ n) = sure m && sure n
sure (m or n) = sure n
sure (never m) = false
sure (many0 m) = moves m
sure (leaf f) = sure_leaf f
sure (rule x) = false
sure unterminated = true
sure (node k d t m) = sure t && sure m
sure (pick k t xs) = false
sure (over k d m n) = false
sure (scoped k m n) = false
sure (import m n s b) = false
sure (argument t m) = false
sure (chain o m) = false
sure (bracket t c m) = false
sure (braced t m) = false
sure (complain m) = false
sure (expect c m) = true

-- Parsers ------------------------------------------------------------------

pub else_succeeds : {A : Type 0} (r : Reply A) (f : State → Reply A) → ((v : State) → Succeeds (f v)) → Succeeds (else r f)
else_succeeds (ok a q v) f h = tt
else_succeeds (err v) f h = h v

pub with_succeeds : {A B : Type 0} (f : A → B) (r : Reply A) → Succeeds r → Succeeds (with f r)
with_succeeds f (ok a q v) h = tt
with_succeeds f (err v) h = absurd h

module _ (ρ : Rule → Act Rows) (h : (x : Rule) → Onward (ρ x)) (g : (x : Rule) → Moving (ρ x)) where
  leaf_succeeds : (f : Leaf) → T (sure_leaf f) → (l : ℕ) (p : Input) (w : State) → Succeeds (parse ρ (leaf f) l p w)
  leaf_succeeds (one f) u l p w = absurd u
  leaf_succeeds (run0 f) u l p w = tt
  leaf_succeeds (run1 f) u l p w = absurd u
  leaf_succeeds (tag s) u l p w = absurd u
  leaf_succeeds (tag_no_case s) u l p w = absurd u
  leaf_succeeds comment_rest u l p w = absurd u

  pub answers : (m : Parser) → T (sure m) → (l : ℕ) (p : Input) (w : State) → Succeeds (parse ρ m l p w)
  answers empty u l p w = tt
  answers (m ▸ n) u l p w =
      then_succeeds (parse ρ m l p w) _ (answers m (and_left (sure m) (sure n) u) l p w)
      λ a q v. with_succeeds (a ++◌) (parse ρ n l q v) (answers n (and_right (sure m) (sure n) u) l q v)
  answers (m or n) u l p w = else_succeeds (parse ρ m l p w) _ λ v. answers n u l p v
  answers (never m) u l p w = absurd u
  answers (many0 m) u l p w =
      with_succeeds joined (rounds (parse ρ m) p.left l p w) (rounds_succeed (parse ρ m) (ahead ρ h m) (moving ρ h g m u) p.left l p w (omega arith))
  answers (leaf f) u l p w = leaf_succeeds f u l p w
  answers (rule x) u l p w = absurd u
  answers unterminated u l p w = tt
  answers (node k d t m) u l p w =
      then_succeeds (parse ρ t l p w) _ (answers t (and_left (sure t) (sure m) u) l p w)
      λ _ q v. then_succeeds (parse ρ m l q v) _ (answers m (and_right (sure t) (sure m) u) l q v) λ a s x. tt
  answers (pick k t xs) u l p w = absurd u
  answers (over k d m n) u l p w = absurd u
  answers (scoped k m n) u l p w = absurd u
  answers (import m n s b) u l p w = absurd u
  answers (argument t m) u l p w = absurd u
  answers (chain o m) u l p w = absurd u
  answers (bracket t c m) u l p w = absurd u
  answers (braced t m) u l p w = absurd u
  answers (complain m) u l p w = absurd u
  answers (expect c m) u l p w = else_succeeds (parse ρ m l p w) _ λ v. tt

-- A text -------------------------------------------------------------------

-- a reply is no failure, and nothing is left
abbrev Ended : {A : Type 0} → Reply A → Type 0
Ended (ok a q v) = q.left ≡ []
Ended (err v) = ⊥

then_ended : {A B : Type 0} (r : Reply A) (f : A → Input → State → Reply B)
    → Succeeds r → ((a : A) (q : Input) (v : State) → Ended (f a q v)) → Ended (then r f)
then_ended (ok a q v) f h k = k a q v
then_ended (err v) f h k = absurd h

with_ended : {A B : Type 0} (f : A → B) (r : Reply A) → Ended r → Ended (with f r)
with_ended f (ok a q v) h = h
with_ended f (err v) h = h

all_taken : (t : List ℕ) → drop (run (λ b. true) t) t ≡ []
all_taken [] = refl
all_taken (b ∷ t) = all_taken t

-- whatever is left, eof takes it
eof_ended : (n l : ℕ) (p : Input) (w : State) → Ended (parse (reads n) eof l p w)
unfolding all_rules
eof_ended n l p w =
    then_ended (parse (reads n) multiline_trivia l p w) _ (answers (reads n) (reads_on n) (reads_moving n) multiline_trivia tt l p w)
    λ _ q v. all_taken q.left

written_ended : (t : List ℕ) (n : ℕ) (f : Bool) → Ended (written t n f)
unfolding all_rules written
written_ended t n f =
    let k = length t in let p : Input = record { at = 0; left = t } in
    then_ended (parse (reads k) (many0 (statement or error)) 0 p (start n f)) (λ a q v. with (a ++◌) (parse (reads k) eof 0 q v))
    (answers (reads k) (reads_on k) (reads_moving k) (many0 (statement or error)) tt 0 p (start n f))
    λ a q v. with_ended (a ++◌) (parse (reads k) eof 0 q v) (eof_ended k 0 q v)

-- a reply that is no failure and takes all the text
pub record Answered (r : Reply Rows) : Type 0 where
  pub value : Rows
  pub place : Input
  pub state : State
  pub same : r ≡ ok value place state
  pub ended : place.left ≡ []

answered : (r : Reply Rows) → Ended r → Answered r
answered (ok a q v) e = record { value = a; place = q; state = v; same = refl; ended = e }
answered (err v) e = absurd e

pub written_answers : (t : List ℕ) (n : ℕ) (f : Bool) → Answered (written t n f)
written_answers t n f = answered (written t n f) (written_ended t n f)
