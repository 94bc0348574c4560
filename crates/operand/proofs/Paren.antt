-- An operand that begins with `(`. The written reading tries am_ind, am_outer_ind and am_abs, and each reads `(` and the same expression. Here it is
-- shown that reading them once is enough: where the expression misses all three miss; where `)` does not follow it, am_abs misses too, since the
-- factor in parentheses is the only one that begins with `(`; and what an attempt noted may be noted behind the expression.
use mathlib.Core.Path.{◌≡◌, refl, ap, ap₂, sym, ◌∙◌}
use mathlib.Core.Bool.{Bool, true, false, ◌||◌, or_assoc, or-false, or_self}
use mathlib.Core.List.{List, [], ◌∷◌, ◌++◌, append_assoc}
use mathlib.Core.Option.{Option, none, some}
use Prim.Native.Nat.{ℕ, suc, ◌+◌, ◌≤◌, ◌<◌, max}
use native.Mathlib.Omega.{arith}
use native.Mathlib.Nat.{max-zero, zero-max}
use borrow.Author.Tests.{eq-eqb}
use lib.ListN.{length, drop, length-drop}
use Rattle.reading.specs.Byte.{is, given}
use Rattle.reading.specs.Kind.{operandᵏ, factorᵏ, parensᵏ, charᵏ}
use Rattle.reading.specs.Grammar.{Rows, Input, Rule, expr, Parser, empty, ◌▸◌, ◌or◌, never, over, chain, bracket, under, first_low, folded, one_of}
use Rattle.reading.specs.Rules.{opt, char, trivia, number, fn_call, identifier_value, current_pc, closed_expression, expression_parens, interpolated_string_factor}
use Rattle.reading.specs.Rules.{expression_factor_inner, flags, factor_body, expression_factor, term_operator, expression_term, expression_operator, expression}
use Rattle.reading.specs.Rules.{optional_suffix, am_ind, am_outer_ind, am_abs}
use Rattle.reading.specs.Summary.{Summary, fits, fails, more, thenˢ, elseˢ, withˢ, turnedˢ, Scan, roundsˢ, takeˢ, char_atˢ, scan}
use Rattle.reading.proofs.Verdict.{Verdict, no, nothing, front, first}
use Rattle.reading.proofs.First.{more_none, scan_no, scan_nothing, scan_second}
use Rattle.cursor.specs.Text.{here, skip, Skips}
use Rattle.cursor.specs.Agree.{full}
use Rattle.cursor.specs.declared.Skip.{Skip}
use Rattle.cursor.proofs.Places.{behind_here}
use Rattle.cursor.proofs.Laws.{rule_is}
use Rattle.operand.specs.Parts.{addressed}
use Rattle.operand.proofs.Facts.{at_paren}

-- Summaries ------------------------------------------------------------------

-- an attempt that fails again as it did before adds nothing
fails_twice : (b : Bool) (k : ℕ) → ◌≡◌ {A = Summary Rows} (more b k (fails b k)) (fails b k)
fails_twice b k = ap₂ fails (or_self b) (let z : max k k ≡ k = omega arith in z)

last_absorbed : (b : Bool) (k : ℕ) (o : Summary Rows) → more b k (elseˢ o λ _. fails b k) ≡ more b k o
last_absorbed b k (fits v q c j) = refl
last_absorbed b k (fails c j) = ap₂ fails (or_again b c) (let z : max k (max j k) ≡ max k j = omega arith in z)
  where
    or_again : (b c : Bool) → b || (c || b) ≡ b || c
    or_again true c = refl
    or_again false c = or-false c

-- where the first part fails, the whole fails
module _ (τ : Rule → Scan Rows) where
  over_fails : (k d : ℕ) (m n : Parser) (l : ℕ) (p : Input) {b : Bool} {j : ℕ} → scan τ m l p ≡ fails b j → scan τ (over k d m n) l p ≡ fails b j
  over_fails k d m n l p h =
      ap (λ o. thenˢ o λ a q. thenˢ (scan τ n l q) λ b r. fits (under k d p.at (first_low a) r.at (a ++ b)) r false 0) h

  chain_fails : (o m : Parser) (l : ℕ) (p : Input) {b : Bool} {j : ℕ} → scan τ m l p ≡ fails b j → scan τ (chain o m) l p ≡ fails b j
  chain_fails o m l p h = ap (λ z. thenˢ z λ a q. withˢ (folded a) (roundsˢ (scan τ (o ▸ m)) q.left l q)) h

-- what was noted before is noted again
or_late : (b c d : Bool) → (b || c) || (b || d) ≡ b || (c || d)
or_late true c d = refl
or_late false c d = refl

max_late : (k j m : ℕ) → max (max k j) (max k m) ≡ max k (max j m)
max_late k j m = omega arith

pub fits_fails : {v : Rows} {q : Input} {b c : Bool} {k j : ℕ} → fits v q b k ≡ fails c j → ⊥
fits_fails e = let z : ◌≡◌ {A = ℕ} 0 1 = cc in omega arith

-- what is behind a sequence in a bracket may be read behind the bracket
bracket_then : (l : ℕ) (o : Summary Rows) (m n : Input → Summary Rows)
    → thenˢ o (λ a q. more false (suc l) (withˢ (a ++◌) (thenˢ (m q) λ v r. withˢ (v ++◌) (n r))))
    ≡ thenˢ (thenˢ o λ a q. more false (suc l) (withˢ (a ++◌) (m q))) λ v r. withˢ (v ++◌) (n r)
bracket_then l (fails b k) m n = refl
bracket_then l (fits a q b k) m n = middle (m q)
  where
    last : (v : Rows) (r : Input) (d : Bool) (j : ℕ) (o : Summary Rows)
        → more b k (more false (suc l) (withˢ (a ++◌) (more d j (withˢ (v ++◌) o)))) ≡ more (b || d) (max k (max (suc l) j)) (withˢ ((a ++ v) ++◌) o)
    last v r d j (fits u x e i) =
        ap (λ w. fits w x (b || (d || e)) (max k (max (suc l) (max j i)))) (sym (append_assoc a v u))
        ∙ ap₂ (fits ((a ++ v) ++ u) x) (sym (or_assoc b d e)) (let z : max k (max (suc l) (max j i)) ≡ max (max k (max (suc l) j)) i = omega arith in z)
    last v r d j (fails e i) =
        ap₂ fails (sym (or_assoc b d e)) (let z : max k (max (suc l) (max j i)) ≡ max (max k (max (suc l) j)) i = omega arith in z)

    middle : (o : Summary Rows)
        → more b k (more false (suc l) (withˢ (a ++◌) (thenˢ o λ v r. withˢ (v ++◌) (n r))))
        ≡ thenˢ (more b k (more false (suc l) (withˢ (a ++◌) o))) λ v r. withˢ (v ++◌) (n r)
    middle (fits v r d j) = last v r d j (n r)
    middle (fails d j) = refl

pub bracket_seq : (τ : Rule → Scan Rows) (w : Parser) (c : ℕ) (m n : Parser) (l : ℕ) (p : Input)
    → scan τ (bracket w c (m ▸ n)) l p ≡ thenˢ (scan τ (bracket w c m) l p) λ v r. withˢ (v ++◌) (scan τ n (suc l) r)
bracket_seq τ w c m n l p = bracket_then l (char_atˢ c p (scan τ w l p)) (λ q. scan τ m (suc l) q) (λ r. scan τ n (suc l) r)

-- At the parenthesis ---------------------------------------------------------

never_none : (b : ℕ) → ◌≡◌ {A = Option ℕ} none (some b) → ⊥
never_none b e = let z : ◌≡◌ {A = ℕ} 0 1 = cc in omega arith

-- a byte that stands somewhere is in the text
first_within : (s : List ℕ) (i b : ℕ) → first (drop i s) ≡ some b → i < length s
first_within s i b e = let z = go (drop i s) e in omega (arith, length-drop i s)
  where
    go : (t : List ℕ) → first t ≡ some b → 1 ≤ length t
    go [] e = absurd (never_none b e)
    go (x ∷ t) e = omega arith

-- Where `(` stands, all alternatives of a factor but one fail at once, and there is no sign.
module _ (τ : Rule → Scan Rows) (l : ℕ) (p : Input) (stands : first p.left ≡ some 40) where
  at : (m : Parser) {v : Verdict} → front m (some 40) ≡ v → front m (first p.left) ≡ v
  at m e = ap (front m) stands ∙ e

  second : (m n : Parser) → front m (some 40) ≡ no → scan τ (m or n) l p ≡ scan τ n l p
  second m n e = scan_second τ m n l p (scan_no τ m l p (at m e))

  skipped : (m n : Parser) → front m (some 40) ≡ nothing → scan τ (m ▸ n) l p ≡ scan τ n l p
  skipped m n e = ap (λ o. thenˢ o λ a q. withˢ (a ++◌) (scan τ n l q)) (scan_nothing τ m l p (at m e)) ∙ plain (scan τ n l p)
    where
      plain : (o : Summary Rows) → more false 0 (withˢ ([] ++◌) o) ≡ o
      plain (fits v q b k) = more_none (fits v q b k)
      plain (fails b k) = more_none (fails b k)

  -- the factor that stands here is the one in parentheses, and where that fails the factor fails, with a sign or without
  module _ (b : Bool) (k : ℕ) (h : scan τ expression_parens l p ≡ fails b k) where
    inner_fails : scan τ expression_factor_inner l p ≡ fails b k
    unfolding expression_factor_inner
    inner_fails =
        second number (fn_call or identifier_value or current_pc or expression_parens or interpolated_string_factor) at_paren.numeral
        ∙ second fn_call (identifier_value or current_pc or expression_parens or interpolated_string_factor) at_paren.call
        ∙ second identifier_value (current_pc or expression_parens or interpolated_string_factor) at_paren.value
        ∙ second current_pc (expression_parens or interpolated_string_factor) at_paren.pc
        ∙ ap (λ o. elseˢ o λ _. scan τ interpolated_string_factor l p) h
        ∙ ap (more b k) (scan_no τ interpolated_string_factor l p (at interpolated_string_factor at_paren.string))
        ∙ ap₂ fails (or-false b) (max-zero k)

    body_fails : scan τ factor_body l p ≡ fails b k
    unfolding factor_body
    body_fails =
        ap (λ o. elseˢ o λ _. scan τ (opt (char "!") ▸ opt (char "-") ▸ expression_factor_inner) l p) inner_fails
        ∙ ap (more b k) (skipped (opt (char "!")) (opt (char "-") ▸ expression_factor_inner) at_paren.bang
        ∙ skipped (opt (char "-")) expression_factor_inner at_paren.minus ∙ inner_fails)
        ∙ fails_twice b k

-- a character behind what was skipped
module _ (τ : Rule → Scan Rows) {w : Parser} {s : List ℕ} {i : ℕ} {met : Bool} {k : Skip} (c : ℕ) (gap : Skips w s i met k)
    (stands : first (drop k.at.0 s) ≡ some c) (l : ℕ) where
  opening : char_atˢ c (here s i) (scan τ w l (here s i)) ≡ fits (under charᵏ c i k.at.0 (k.at.0 + 1) []) (here s (k.at.0 + 1)) gap.open? 0
  opening =
      ap (char_atˢ c (here s i)) (gap.is τ l)
      ∙ ap (λ o. more gap.open? 0 (thenˢ (takeˢ o (here s k.at.0)) λ a r. fits (under charᵏ c i k.at.0 r.at a) r false 0)) taken_one
      ∙ ap₂ (λ q b. fits (under charᵏ c i k.at.0 (k.at.0 + 1) []) q b 0) (behind_here s k.at.0 1) (or-false gap.open?)
    where
      taken_one : one_of (is c) (drop k.at.0 s) ≡ some 1
      taken_one = go (drop k.at.0 s) stands
        where
          go : (t : List ℕ) → first t ≡ some c → one_of (is c) t ≡ some 1
          go [] e = absurd (never_none c e)
          go (b ∷ t) e = ap (λ x. given x 1) (eq-eqb b c (cc))

  -- where the inside of a bracket fails, the bracket fails
  bracket_fails : (m : Parser) (b : Bool) (j : ℕ) → scan τ m (suc l) (here s (k.at.0 + 1)) ≡ fails b j
      → scan τ (bracket w c m) l (here s i) ≡ fails (gap.open? || b) (max (suc l) j)
  bracket_fails m b j h =
      ap (λ o. thenˢ o λ a q. more false (suc l) (withˢ (a ++◌) (scan τ m (suc l) q))) opening
      ∙ ap (λ o. more gap.open? 0 (more false (suc l) (withˢ (under charᵏ c i k.at.0 (k.at.0 + 1) [] ++◌) o))) h
      ∙ ap (fails (gap.open? || b)) (zero-max (max (suc l) j))

  -- and where it fits, the bracket fits
  bracket_fits : (m : Parser) (v : Rows) (q : Input) (b : Bool) (j : ℕ) → scan τ m (suc l) (here s (k.at.0 + 1)) ≡ fits v q b j
      → scan τ (bracket w c m) l (here s i) ≡ fits (under charᵏ c i k.at.0 (k.at.0 + 1) [] ++ v) q (gap.open? || b) (max 0 (max (suc l) j))
  bracket_fits m v q b j h =
      ap (λ o. thenˢ o λ a q. more false (suc l) (withˢ (a ++◌) (scan τ m (suc l) q))) opening
      ∙ ap (λ o. more gap.open? 0 (more false (suc l) (withˢ (under charᵏ c i k.at.0 (k.at.0 + 1) [] ++◌) o))) h

-- no trivia stands before a parenthesis that stands here
none_before : (s : List ℕ) (i : ℕ) → first (drop i s) ≡ some 40 → Skips trivia s i false (skip i false)
none_before s i stands =
    record {
      open? = false;
      is = λ τ l. scan_nothing τ trivia l (here s i) (at τ l (here s i) stands trivia at_paren.blank);
      noted = refl;
      on = omega arith;
      within = let h = first_within s i 40 stands in omega arith;
    }

-- The three forms ------------------------------------------------------------

-- am_outer_ind, where `)` was tried first and did not fit
abbrev pub tried : Parser
tried = over operandᵏ 4 (bracket trivia 40 (expression ▸ (never (char ")") ▸ (optional_suffix ▸ char ")")))) empty

-- from the place i, `(` stands behind trivia
module _ {s : List ℕ} {i : ℕ} {met : Bool} {k : Skip} (gap : Skips trivia s i met k) (stands : first (drop k.at.0 s) ≡ some 40) (l : ℕ) where
  -- behind a byte, `rule expr` is expression
  closed_is : scan (full s) closed_expression (suc l) (here s (k.at.0 + 1)) ≡ scan (full s) (expression ▸ char ")") (suc l) (here s (k.at.0 + 1))
  unfolding closed_expression
  closed_is =
      let h = first_within s k.at.0 40 stands in
      ap (λ o. thenˢ o λ a q. withˢ (a ++◌) (scan (full s) (char ")") (suc l) q)) (rule_is expr tt s (suc l) (k.at.0 + 1) (omega arith) (omega arith))

  parens_fails : (b : Bool) (j : ℕ) → scan (full s) closed_expression (suc l) (here s (k.at.0 + 1)) ≡ fails b j
      → scan (full s) expression_parens l (here s k.at.0) ≡ fails b (max (suc l) j)
  unfolding expression_parens none_before
  parens_fails b j h =
      ap (λ o. more false 0 (thenˢ o λ a r. fits (under parensᵏ 0 k.at.0 k.at.0 r.at a) r false 0))
      (bracket_fails (full s) 40 (none_before s k.at.0 stands) stands l closed_expression b j h)
      ∙ ap (fails b) (zero-max (max (suc l) j))

  -- where the parentheses miss, so does an expression, and am_abs
  abs_fails : (b : Bool) (j : ℕ) → scan (full s) expression_parens l (here s k.at.0) ≡ fails b j
      → scan (full s) am_abs l (here s i) ≡ fails (gap.open? || b) j
  unfolding am_abs expression expression_term expression_factor
  abs_fails b j h =
      over_fails (full s) operandᵏ 1 expression optional_suffix l (here s i)
      (chain_fails (full s) expression_operator expression_term l (here s i)
      (chain_fails (full s) term_operator expression_factor l (here s i)
      (ap (λ o. thenˢ o λ _ q. thenˢ (scan (full s) factor_body l q) λ a r. fits (under factorᵏ (flags a) i q.at r.at a) r false 0) (gap.is (full s) l)
      ∙ ap (λ o. more gap.open? 0 (thenˢ o λ a r. fits (under factorᵏ (flags a) i k.at.0 r.at a) r false 0))
      (body_fails (full s) l (here s k.at.0) stands b j h)
      ∙ ap (fails (gap.open? || b)) (zero-max j))))

  -- `(`, the expression and `)` miss: then am_abs misses in the same way
  abs_follows : (b : Bool) (j : ℕ) → scan (full s) (bracket trivia 40 (expression ▸ char ")")) l (here s i) ≡ fails b j
      → scan (full s) am_abs l (here s i) ≡ fails b j
  abs_follows b j h = go (scan (full s) (expression ▸ char ")") (suc l) (here s (k.at.0 + 1))) refl
    where
      go : (o : Summary Rows) → scan (full s) (expression ▸ char ")") (suc l) (here s (k.at.0 + 1)) ≡ o → scan (full s) am_abs l (here s i) ≡ fails b j
      go (fits v q c n) e = absurd (fits_fails (sym (bracket_fits (full s) 40 gap stands l (expression ▸ char ")") v q c n e) ∙ h))
      go (fails c n) e =
          abs_fails c (max (suc l) n) (parens_fails c n (closed_is ∙ e)) ∙ sym (bracket_fails (full s) 40 gap stands l (expression ▸ char ")") c n e) ∙ h

  outer_left : (b : Bool) (j : ℕ) → scan (full s) (bracket trivia 40 (expression ▸ char ")")) l (here s i) ≡ fails b j
      → scan (full s) addressed l (here s i) ≡ more b j (scan (full s) am_outer_ind l (here s i))
  unfolding addressed am_ind
  outer_left b j h =
      ap (λ o. elseˢ o λ _. scan (full s) (am_outer_ind or am_abs) l (here s i))
      (over_fails (full s) operandᵏ 5 (bracket trivia 40 (expression ▸ char ")")) optional_suffix l (here s i) h)
      ∙ ap (λ o. more b j (elseˢ (scan (full s) am_outer_ind l (here s i)) λ _. o)) (abs_follows b j h)
      ∙ last_absorbed b j (scan (full s) am_outer_ind l (here s i))

  -- The expression misses: so do all three, and nothing more is noted.
  pub expression_fails : (b : Bool) (j : ℕ) → scan (full s) (bracket trivia 40 expression) l (here s i) ≡ fails b j
      → scan (full s) addressed l (here s i) ≡ scan (full s) (bracket trivia 40 expression) l (here s i)
  unfolding am_outer_ind
  expression_fails b j h =
      outer_left b j (behind (char ")"))
      ∙ ap (more b j) (over_fails (full s) operandᵏ 4 (bracket trivia 40 (expression ▸ (optional_suffix ▸ char ")"))) empty l (here s i) (behind (optional_suffix ▸ char ")")))
      ∙ fails_twice b j ∙ sym h
    where
      behind : (n : Parser) → scan (full s) (bracket trivia 40 (expression ▸ n)) l (here s i) ≡ fails b j
      behind n = bracket_seq (full s) trivia 40 expression n l (here s i) ∙ ap (λ o. thenˢ o λ v r. withˢ (v ++◌) (scan (full s) n (suc l) r)) h

  -- The expression fits and `)` does not follow: what is left is am_outer_ind.
  pub closing_fails : (v : Rows) (r : Input) (b c : Bool) (n j : ℕ) → scan (full s) (bracket trivia 40 expression) l (here s i) ≡ fits v r b n
      → scan (full s) (char ")") (suc l) r ≡ fails c j → scan (full s) addressed l (here s i) ≡ scan (full s) tried l (here s i)
  unfolding am_outer_ind
  closing_fails v r b c n j h g =
      outer_left (b || c) (max n j) (behind (char ")") ∙ ap (λ o. more b n (withˢ (v ++◌) o)) g)
      ∙ ap (λ o. more (b || c) (max n j) (thenˢ o row)) (behind (optional_suffix ▸ char ")"))
      ∙ late (scan (full s) (optional_suffix ▸ char ")") (suc l) r)
      ∙ sym (ap (λ o. thenˢ o row) (behind (never (char ")") ▸ (optional_suffix ▸ char ")"))
      ∙ ap (λ o. more b n (withˢ (v ++◌) (thenˢ (turnedˢ r o) λ a q. withˢ (a ++◌) (scan (full s) (optional_suffix ▸ char ")") (suc l) q)))) g))
    where
      behind : (m : Parser) → scan (full s) (bracket trivia 40 (expression ▸ m)) l (here s i) ≡ more b n (withˢ (v ++◌) (scan (full s) m (suc l) r))
      behind m = bracket_seq (full s) trivia 40 expression m l (here s i) ∙ ap (λ o. thenˢ o λ v r. withˢ (v ++◌) (scan (full s) m (suc l) r)) h

      row : Rows → Input → Summary Rows
      row a q = thenˢ (fits [] q false 0) λ u x. fits (under operandᵏ 4 i (first_low a) x.at (a ++ u)) x false 0

      late : (o : Summary Rows)
          → more (b || c) (max n j) (thenˢ (more b n (withˢ (v ++◌) o)) row) ≡ thenˢ (more b n (withˢ (v ++◌) (more c j (withˢ ([] ++◌) o)))) row
      late (fits u x d m) =
          ap₂ (fits (under operandᵏ 4 i (first_low (v ++ u)) x.at ((v ++ u) ++ [])) x) (ap ((b || c) ||◌) (or-false (b || d)) ∙ or_late b c d ∙ sym (or-false (b || (c || d))))
          (ap (max (max n j)) (max-zero (max n m)) ∙ max_late n j m ∙ sym (max-zero (max n (max j m))))
      late (fails d m) = ap₂ fails (or_late b c d) (max_late n j m)
