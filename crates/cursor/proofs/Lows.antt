-- Where the first tree of some rows begins, and where their root does: a row with no span of its own begins where its first child does, and a
-- chain where its first part does.
use mathlib.Core.Path.{◌≡◌, refl, ap, sym, subst, ◌∙◌}
use mathlib.Core.Bool.{Bool, true, false}
use mathlib.Core.List.{List, [], ◌∷◌, ◌++◌}
use mathlib.Core.Option.{Option, none, some}
use Prim.Native.Nat.{ℕ, suc, ◌+◌}
use native.Mathlib.Omega.{arith}
use borrow.Author.Tests.{eq-eqb}
use lib.Dec.{T}
use lib.ListN.{length, drop}
use Rattle.reading.specs.Byte.{is}
use Rattle.reading.specs.Kind.{charᵏ, binaryᵏ}
use Rattle.reading.specs.Grammar.{Row, Rows, Input, Leaf, Parser, ◌▸◌, node, pick, over, chain, bracket, no_row, root, under, first_low_from, first_low}
use Rattle.reading.specs.Grammar.{binary, folded, behind, one_of, taken}
use Rattle.reading.specs.Reading.{start, reads}
use Rattle.reading.specs.Summary.{Summary, fits, fails, applied, thenˢ, roundsˢ, takeˢ, char_atˢ, pickedˢ, pick_wordˢ, scan, scans}
use Rattle.reading.proofs.Tests.{quiet}
use Rattle.reading.proofs.Quiet.{parse_quiet}
use Rattle.reading.proofs.Trees.{Below, Sound, Each, sound, reads_sound, first_one}
use Rattle.reading.proofs.Summaries.{Holds, Yields, root_append, anything, more_yields, then_yields, with_yields}
use Rattle.cursor.specs.Text.{here, Skips}
use Rattle.cursor.specs.Agree.{full}
use Rattle.cursor.specs.declared.Skip.{Skip}

-- Rows -----------------------------------------------------------------------

-- a row that counts all the rows is the root of the first tree
first_from : (n a : ℕ) (v : Rows) (r : Row) → r.size ≡ suc (n + length v) → first_low_from n a (v ++ (r ∷ [])) ≡ r.low
first_from n a [] r e = ap (λ (b : Bool). elim b [ true ↦ r.low | false ↦ a ]) (eq-eqb r.size (suc n) (omega arith))
first_from n a (x ∷ v) r e = first_from (suc n) _ v r (omega arith)

pub first_under : (k d t a z : ℕ) (v : Rows) → first_low (under k d t a z v) ≡ a
first_under k d t a z v = first_from 0 0 v _ (omega arith)

pub root_under : (k d t a z : ℕ) (v : Rows) → (root (under k d t a z v)).low ≡ a
root_under k d t a z v = ap (λ (r : Row). r.low) (root_append no_row v (_ ∷ []) (omega arith))

-- the first tree begins at n
abbrev pub First : ℕ → Rows → Input → Type 0
First n v q = first_low v ≡ n

-- and so does the root
pub record Low (n : ℕ) (v : Rows) (q : Input) : Type 0 where
  pub first : first_low v ≡ n
  pub root_low : (root v).low ≡ n

low_under : (k d t a z : ℕ) (v : Rows) (q : Input) → Low a (under k d t a z v) q
low_under k d t a z v q = record { first = first_under k d t a z v; root_low = root_under k d t a z v }

low_folded : {n : ℕ} {a : Rows} (xs : List Rows) {q r : Input} → Low n a q → Low n (folded a xs) r
low_folded [] h = record { first = h.first; root_low = h.root_low }
low_folded {a = a} (x ∷ xs) {q} h =
    low_folded xs (subst (λ i. Low i (binary a x) q) h.root_low (low_under binaryᵏ 0 (root a).low (root a).low (root x).high (a ++ x) q))

-- Parsers --------------------------------------------------------------------

-- of `Low`, what an outer row asks for
pub low_first : {n : ℕ} {o : Summary Rows} → Yields (Low n) o → Yields (First n) o
low_first {o = fits v q b k} h = record { holds = h.holds.first }
low_first {o = fails b k} h = record { holds = tt }

-- and what a chain asks for
pub low_root : {n : ℕ} {o : Summary Rows} {v : Rows} {q : Input} {b : Bool} {k : ℕ} → Yields (Low n) o → o ≡ fits v q b k → (root v).low ≡ n
low_root {n} h e = (subst (Yields (Low n)) e h).holds.root_low

yields_skip : {w : Parser} {s : List ℕ} {i : ℕ} {met : Bool} {x : Skip} → Skips w s i met x → (l : ℕ) (f : Rows → Input → Summary Rows)
    {P : Rows → Input → Type 0} → Yields P (f [] (here s x.at.0)) → Yields P (thenˢ (scan (full s) w l (here s i)) f)
yields_skip {s = s} k l f {P} h = subst (λ o. Yields P (thenˢ o f)) (sym (k.is (full s) l)) (more_yields k.open? 0 h)

-- a node and a word begin where their trivia ends
module _ (k : ℕ) {w : Parser} {s : List ℕ} {i : ℕ} {met : Bool} {x : Skip} (skip : Skips w s i met x) (l : ℕ) where
  pub low_node : (f : Rows → ℕ) (m : Parser) → Yields (Low x.at.0) (scan (full s) (node k f w m) l (here s i))
  low_node f m =
      yields_skip skip l (λ _ q. thenˢ (scan (full s) m l q) λ v r. fits (under k (f v) i q.at r.at v) r false 0)
      (then_yields (anything (scan (full s) m l (here s x.at.0))) λ v r _. record { holds = low_under k (f v) i x.at.0 r.at v r })

  low_picked : (d : ℕ) (o : Option ℕ) (p : Input) {a : Summary Rows} → Yields (Low p.at) a → Yields (Low p.at) (pickedˢ k i d o p a)
  low_picked d none p h = h
  low_picked d (some n) p h = record { holds = low_under k d i p.at (p.at + n) [] (behind n p) }

  low_words : (xs : List (Leaf × ℕ)) (p : Input) → Yields (Low p.at) (pick_wordˢ k i xs p)
  low_words [] p = record { holds = tt }
  low_words (x ∷ xs) p = low_picked x.1 (taken x.0 p.left) p (low_words xs p)

  pub low_pick : (xs : List (Leaf × ℕ)) → Yields (Low x.at.0) (scan (full s) (pick k w xs) l (here s i))
  low_pick xs = yields_skip skip l (λ _ q. pick_wordˢ k i xs q) (low_words xs (here s x.at.0))

-- a chain begins where its first part does
pub low_chain : (o m : Parser) (s : List ℕ) (l i : ℕ) {n : ℕ}
    → Yields (Low n) (scan (full s) m l (here s i)) → Yields (Low n) (scan (full s) (chain o m) l (here s i))
low_chain o m s l i h =
    then_yields h λ a q e. with_yields (folded a) (anything (roundsˢ (scan (full s) (o ▸ m)) q.left l q)) λ xs r _. low_folded xs e

-- a row with no span of its own begins where its first child does
pub low_over : (k d : ℕ) (m j : Parser) (s : List ℕ) (l i : ℕ) {n : ℕ}
    → Yields (First n) (scan (full s) m l (here s i)) → Yields (Low n) (scan (full s) (over k d m j) l (here s i))
low_over k d m j s l i h =
    then_yields h λ a q e. then_yields (anything (scan (full s) j l q))
    λ v r _. record { holds = subst (λ n. Low n (under k d i (first_low a) r.at (a ++ v)) r) e (low_under k d i (first_low a) r.at (a ++ v) r) }

-- Brackets: the opening character is the first tree ----------------------------

-- the rows of a quiet parser stand below those in front of them
scan_below : (n : ℕ) (m : Parser) → T (quiet m) → (l : ℕ) (p : Input) → Yields (λ v q. Below 0 v) (scan (scans n) m l p)
scan_below n m u l p =
    let e = p.at + length p.left in
    let h = subst (Sound (Below 0) 0) (parse_quiet e n m u l p (start 0 false) refl) (sound (reads n) (reads_sound n) m l p (start 0 false)) in
    record { holds = turn e (scan (scans n) m l p) h.value }
  where
    turn : (e : ℕ) (o : Summary Rows) → Each (Below 0) (applied e o (start 0 false)) → Holds (λ v q. Below 0 v) o
    turn e (fits v q b k) h = h
    turn e (fails b k) h = tt

-- one row, which begins at n
record Opening (n : ℕ) (v : Rows) (q : Input) : Type 0 where
  pub row : Row
  pub is : v ≡ row ∷ []
  pub size : row.size ≡ 1
  pub low : row.low ≡ n

no_rows : (o : Option ℕ) (p : Input) → Yields (λ v q. v ≡ []) (takeˢ o p)
no_rows none p = record { holds = tt }
no_rows (some n) p = record { holds = refl }

opening : (c : ℕ) {w : Parser} {s : List ℕ} {i : ℕ} {met : Bool} {x : Skip} → Skips w s i met x → (l : ℕ)
    → Yields (Opening x.at.0) (char_atˢ c (here s i) (scan (full s) w l (here s i)))
opening c {s = s} {i = i} {x = x} skip l =
    yields_skip skip l (λ _ q. thenˢ (takeˢ (one_of (is c) q.left) q) λ v r. fits (under charᵏ c i q.at r.at v) r false 0)
    (then_yields (no_rows (one_of (is c) (drop x.at.0 s)) (here s x.at.0))
    λ v r e. record { holds = record { row = _; is = ap (under charᵏ c i x.at.0 r.at) e; size = refl; low = refl } })

pub first_bracket : (c : ℕ) {w : Parser} (m : Parser) → T (quiet m) → {s : List ℕ} {i : ℕ} {met : Bool} {x : Skip} → Skips w s i met x → (l : ℕ)
    → Yields (First x.at.0) (scan (full s) (bracket w c m) l (here s i))
unfolding full
first_bracket c m u {s} {x = x} skip l =
    then_yields (opening c skip l) λ a q o. more_yields false (suc l) (with_yields (a ++◌) (scan_below (length s) m u (suc l) q)
    λ v r b. ap (λ a. first_low (a ++ v)) o.is ∙ first_one o.row v o.size b ∙ o.low)
