-- Trivia as one item after another, on several lines or on one.
use mathlib.Core.Path.{◌≡◌, refl, ap, ap₂, sym, subst, ◌∙◌}
use mathlib.Core.Bool.{Bool, true, false, ◌||◌, ◌&&◌, not, cond, or-false, or_assoc, and-true, and-false}
use mathlib.Core.List.{List, [], ◌∷◌, ◌++◌}
use Prim.Native.Nat.{ℕ, ◌+◌, ◌≤◌, ◌<◌}
use native.Mathlib.Omega.{arith}
use borrow.Author.Tests.{lt-ltb, ltb-true}
use lib.Dec.{eqb, ltb}
use lib.ListN.{length, get_or, drop, length-drop}
use Rattle.reading.specs.Grammar.{Rows, Rule, ◌▸◌, many0, joined}
use Rattle.reading.specs.Rules.{opt, trivia, multiline_trivia}
use Rattle.reading.specs.Summary.{fits, more, thenˢ, elseˢ, withˢ, last_roundˢ, gateˢ, next_roundˢ, Scan, roundsˢ, scan}
use Rattle.cursor.specs.Text.{here, skip, Skips}
use Rattle.trivia.specs.Piece.{summary_of, item_for, trivia_of, kept, Bounded, Starts, Nothing}
use Rattle.trivia.proofs.Pieces.{starts_feed, starts_plain, an}
use Rattle.std.proofs.lemmas.List.{get_or_read}
use Rattle.std.specs.Prelude.{Option as Optional, Some, None}
use Rattle.trivia.specs.Kind.{item_number}
use Rattle.trivia.specs.declared.Item.{Item}
use denote.Enum.Bare.{sameb}
use Rattle.trivia.specs.contracts.kind.ItemKind.{the_type}
use Rattle.trivia.specs.declared.kind.ItemKind.{ItemKind}
use Rattle.trivia.specs.declared.kind.ItemKind.TheVariants.{Whitespace, Newline, BlockComment, LineComment, Unterminated}

-- what the code's tests for two kinds say
newline_is : (k : ItemKind) → sameb the_type k Newline ≡ eqb (item_number k) 2
newline_is Whitespace = refl
newline_is Newline = refl
newline_is BlockComment = refl
newline_is LineComment = refl
newline_is Unterminated = refl

open_is : (k : ItemKind) → sameb the_type k Unterminated ≡ eqb (item_number k) 5
open_is Whitespace = refl
open_is Newline = refl
open_is BlockComment = refl
open_is LineComment = refl
open_is Unterminated = refl

pub item_bounds : {s : List ℕ} {i : ℕ} {r : Optional Item} → Starts s i r → (x : Item) → r ≡ Some x → (i < x.end.0) × (x.end.0 ≤ length s)
unfolding Bounded
item_bounds {s} {i} a x q = subst (Bounded s i) q a.bounded

-- one item, or none
pub record One (lines : Bool) (s : List ℕ) (i : ℕ) (r : Optional Item) : Type 0 where
  pub is : (τ : Rule → Scan Rows) (l : ℕ) → scan τ (item_for lines) l (here s i) ≡ summary_of s r
  pub bounded : Bounded s i r

one : (lines : Bool) {s : List ℕ} {i : ℕ} {r : Optional Item} → Starts s i r → One lines s i (kept lines r)
unfolding kept Bounded
one lines {s} {i} {r} a = record { is = a.scanned lines; bounded = go lines r a.bounded }
  where
    on_line : (b : Bool) (x : Item) → Bounded s i (Some x) → Bounded s i (cond b None (Some x))
    on_line true x m = tt
    on_line false x m = m

    go : (b : Bool) (r : Optional Item) → Bounded s i r → Bounded s i (kept b r)
    go true r m = m
    go false (Some x) m = on_line (eqb (item_number x.kind) 2) x m
    go false None m = tt

-- a newline ends trivia of one line, and nothing else does
pub kept_none : (lines : Bool) → kept lines None ≡ None
unfolding kept
kept_none true = refl
kept_none false = refl

pub kept_no : (lines : Bool) (x : Item) → eqb (item_number x.kind) 2 && not lines ≡ true → kept lines (Some x) ≡ None
unfolding kept
kept_no true x h = absurd (let y : ◌≡◌ {A = ℕ} 0 1 = cc (and-false (eqb (item_number x.kind) 2)) in let z : ⊥ = omega arith in z)
kept_no false x h = ap (λ (b : Bool). cond b None (Some x)) (sym (and-true (eqb (item_number x.kind) 2)) ∙ h)

kept_same : (lines : Bool) (x : Item) → eqb (item_number x.kind) 2 && not lines ≡ false → kept lines (Some x) ≡ Some x
unfolding kept
kept_same true x h = refl
kept_same false x h = ap (λ (b : Bool). cond b None (Some x)) (sym (and-true (eqb (item_number x.kind) 2)) ∙ h)

-- the byte x stands at a place: a line feed on one line, or one above the space that is no slash
module _ (lines : Bool) (s : List ℕ) (i : ℕ) {x : ℕ} (h : true ≡ ltb i (length s)) (e : x ≡ get_or s i x) where
  within : i < length s
  within = ltb-true i (length s) (sym h)

  byte : x ≡ get_or s i 0
  byte = get_or_read s i x within e 0

  pub nothing_feed : x ≡ 10 → not lines ≡ true → Nothing lines s i
  nothing_feed q n =
      record {
        piece = an Newline (record { 0 = i + 1 });
        starts = starts_feed s i within (sym byte ∙ q);
        none = kept_no lines (record { kind = Newline; end = record { 0 = i + 1 } }) n;
      }

  pub nothing_plain : ltb 32 x && not (eqb x 47) ≡ true → Nothing lines s i
  nothing_plain q =
      record {
        piece = None;
        starts = starts_plain s i within (ap (λ b. ltb 32 b && not (eqb b 47)) (sym byte) ∙ q);
        none = kept_none lines;
      }

-- one item after another, and then none
pub data Walk (lines : Bool) (s : List ℕ) : ℕ → Bool → ℕ → Type 0 where
  stop : {i : ℕ} → One lines s i None → Walk lines s i false i
  step : {i j : ℕ} {x : Item} {c : Bool} → One lines s i (Some x) → Walk lines s x.end.0 c j → Walk lines s i (eqb (item_number x.kind) 5 || c) j

walk_on : {lines : Bool} {s : List ℕ} {i j : ℕ} {b : Bool} → i ≤ length s → Walk lines s i b j → (i ≤ j) × (j ≤ length s)
unfolding Bounded
walk_on h (stop a) = (omega arith, h)
walk_on h (step a w) = let z = walk_on a.bounded.1 w in (omega (arith, a.bounded), z.1)

module _ (τ : Rule → Scan Rows) (l : ℕ) {lines : Bool} {s : List ℕ} where
  walk_rounds : {i j : ℕ} {b : Bool} → Walk lines s i b j → (f : List ℕ) → length s ≤ length f + i
      → (vs : List Rows) × (roundsˢ (scan τ (item_for lines)) f l (here s i) ≡ fits vs (here s j) b 0) × (joined vs ≡ [])
  unfolding summary_of Bounded
  walk_rounds {i} (stop a) [] h = ([], ap (last_roundˢ (here s i)) (a.is τ l), refl)
  walk_rounds {i} (stop a) (x ∷ f) h = ([], ap (λ o. next_roundˢ (here s i) o λ q. roundsˢ (scan τ (item_for lines)) f l q) (a.is τ l), refl)
  walk_rounds (step a w) [] h = absurd (let z : ⊥ = omega (arith, a.bounded) in z)
  walk_rounds {i} {j} (step {x = x} {c = c} a w) (b ∷ f) h =
      let z = walk_rounds w f (omega (arith, a.bounded)) in (
        [] ∷ z.0,
        ap (λ o. next_roundˢ (here s i) o λ q. roundsˢ (scan τ (item_for lines)) f l q) (a.is τ l)
            ∙ ap₂ (λ y o. more (eqb (item_number x.kind) 5) 0 (gateˢ y λ t. thenˢ o λ rest r. fits ([] ∷ rest) r false 0)) (lt-ltb i x.end.0 a.bounded.0) z.1
            ∙ ap (λ y. fits ([] ∷ z.0) (here s j) (eqb (item_number x.kind) 5 || y) 0) (or-false c),
        z.2,
      )

  walk_all : {i j : ℕ} {b : Bool} → Walk lines s i b j → scan τ (opt (item_for lines ▸ many0 (item_for lines))) l (here s i) ≡ fits [] (here s j) b 0
  unfolding summary_of Bounded
  walk_all (stop a) = rw (a.is τ l)
  walk_all {i} {j} (step {x = x} {c = c} a w) =
      let z = walk_rounds w (drop x.end.0 s) (omega (arith, length-drop x.end.0 s)) in
      ap (λ o. elseˢ (thenˢ o λ a q. withˢ (a ++◌) (withˢ joined (roundsˢ (scan τ (item_for lines)) q.left l q))) λ t. fits [] (here s i) false 0) (a.is τ l)
      ∙ ap (λ o. elseˢ (more (eqb (item_number x.kind) 5) 0 (withˢ ([] ++◌) (withˢ joined o))) λ t. fits [] (here s i) false 0) z.1
      ∙ ap (λ v. fits v (here s j) (eqb (item_number x.kind) 5 || c) 0) z.2

trivia_is : (lines : Bool) → trivia_of lines ≡ opt (item_for lines ▸ many0 (item_for lines))
unfolding trivia multiline_trivia
trivia_is true = refl
trivia_is false = refl

-- where a loop over items stands
pub record Walked (lines : Bool) (s : List ℕ) (at : ℕ) (met : Bool) (i : ℕ) (m : Bool) : Type 0 where
  pub within : i ≤ length s
  pub seen : Bool
  pub noted : m ≡ met || seen
  pub back : (b : Bool) (j : ℕ) → Walk lines s i b j → Walk lines s at (seen || b) j

pub walked_none : (lines : Bool) (s : List ℕ) (at : ℕ) (met : Bool) → at ≤ length s → Walked lines s at met at met
walked_none lines s at met h = record { within = h; seen = false; noted = sym (or-false met); back = λ b j w. w }

-- the same by the code's test
pub kept_newline : (lines : Bool) (x : Item) {n : Bool} → n ≡ sameb the_type x.kind Newline → n && not lines ≡ true → kept lines (Some x) ≡ None
kept_newline lines x e h = kept_no lines x (ap (◌&& not lines) (sym (e ∙ newline_is x.kind)) ∙ h)

module _ {lines : Bool} {s : List ℕ} {at : ℕ} {met : Bool} {i : ℕ} {m : Bool} (u : Walked lines s at met i m) {r : Optional Item} (a : Starts s i r) where
  item_here : (p : Optional Item) → kept lines r ≡ p → One lines s i p
  item_here p q = subst (One lines s i) q (one lines a)

  pub walked_more : (x : Item) → r ≡ Some x → {n o : Bool} → n ≡ sameb the_type x.kind Newline → o ≡ sameb the_type x.kind Unterminated → n && not lines ≡ false
      → Walked lines s at met x.end.0 (m || o)
  walked_more x q {n} {o} e g f =
      let opened : o ≡ eqb (item_number x.kind) 5 = g ∙ open_is x.kind in
      let same = kept_same lines x (ap (◌&& not lines) (sym (e ∙ newline_is x.kind)) ∙ f) in
      record {
        within = (item_bounds a x q).1;
        seen = u.seen || o;
        noted = ap (◌|| o) u.noted ∙ or_assoc met u.seen o;
        back = λ c n w. subst (λ (b : Bool). Walk lines s at b n) (sym (or_assoc u.seen o c))
            (u.back (o || c) n (subst (λ (b : Bool). Walk lines s i (b || c) n) (sym opened) (step (item_here (Some x) (ap (kept lines) q ∙ same)) w)));
      }

  pub walked_skips : at ≤ length s → kept lines r ≡ None → Skips (trivia_of lines) s at met (skip i m)
  walked_skips h q =
      let w : Walk lines s at u.seen i = subst (λ (x : Bool). Walk lines s at x i) (or-false u.seen) (u.back false i (stop (item_here None q))) in
      let o = walk_on h w in
      record { open? = u.seen; is = λ τ l. rw (trivia_is lines) (walk_all τ l w); noted = u.noted; on = o.0; within = o.1 }
