-- Trivia is read once: where a run of trivia ends no item of it fits, since each item reads a byte and so the loop goes on until one fails. So
-- trivia read again reads nothing, without an open comment; with line ends too; and behind trivia with line ends, trivia without them. And a `/`
-- that trivia leaves begins no comment.
use mathlib.Core.Path.{◌≡◌, refl, ap, ◌∙◌, sym, subst}
use mathlib.Core.Bool.{Bool, true, false, ◌||◌, not}
use mathlib.Core.List.{List, [], ◌∷◌, ◌++◌}
use mathlib.Core.Option.{Option, none, some}
use Prim.Native.Nat.{ℕ, zero, suc, ◌+◌, ◌≤◌, ◌<◌, zero-le, suc-le-suc}
use Prim.Native.String.{String}
use native.Mathlib.Omega.{arith}
use native.Mathlib.Nat.{not-suc-le-zero}
use lib.Dec.{T, ltb, lt→ltb}
use lib.ListN.{length, drop, length-drop}
use Rattle.reading.specs.Byte.{bytes, blank, line_end, is, begins, run, at_least_one, given}
use Rattle.reading.specs.Grammar.{Rows, Input, Rule, Leaf, one, run1, tag, comment_rest, Parser, empty, ◌▸◌, ◌or◌, many0, leaf, unterminated, joined, behind, taken}
use Rattle.reading.specs.Rules.{opt, byte, exactly, cpp_comment, c_comment, trivia_impl, new_line, trivia, multiline_trivia}
use Rattle.reading.specs.Summary.{Summary, fits, fails, more, thenˢ, elseˢ, withˢ, gateˢ, last_roundˢ, next_roundˢ, Scan, roundsˢ, takeˢ, scan}
use Rattle.reading.proofs.Ahead.{Fits, taken_fits}
use Rattle.reading.proofs.Verdict.{first, Ends, Bare}
use Rattle.reading.proofs.First.{more_none}

-- Items --------------------------------------------------------------------

-- it has no rows and goes to no level; it fails at once, or reads at least n bytes; c: it may meet an open comment
abbrev Reads : Bool → ℕ → Input → Summary Rows → Type 0
Reads c n p (fits a q b k) = (a ≡ []) × (k ≡ 0) × (p.at + n ≤ q.at) × (length q.left + n ≤ length p.left) × T (not b || c)
Reads c n p (fails b k) = (b ≡ false) × (k ≡ 0)

more_reads : (c : Bool) (n : ℕ) (p : Input) (b : Bool) (k : ℕ) (s : Summary Rows) → b ≡ false → k ≡ 0 → Reads c n p s → Reads c n p (more b k s)
more_reads c n p b k (fits a q d j) e z h =
    (h.0, (let i = h.1 in omega (arith, i, z)), h.2, h.3, subst (λ x. T (not (x || d) || c)) (sym e) h.4)
more_reads c n p b k (fails d j) e z h = (ap (◌|| d) e ∙ h.0, (let i = h.1 in omega (arith, i, z)))

else_reads : (c : Bool) (n : ℕ) (p : Input) (s : Summary Rows) (f : Unit {0} → Summary Rows) → Reads c n p s → Reads c n p (f tt) → Reads c n p (elseˢ s f)
else_reads c n p (fits a q b k) f h i = h
else_reads c n p (fails b k) f h i = more_reads c n p b k (f tt) h.0 h.1 i

onward_reads : (c : Bool) (i j : ℕ) (p q : Input) (a : Rows) (s : Summary Rows) → a ≡ [] → p.at + i ≤ q.at → length q.left + i ≤ length p.left
    → Reads c j q s → Reads c (i + j) p (withˢ (a ++◌) s)
onward_reads c i j p q a (fits d r b k) e x y h =
    (ap (◌++ d) e ∙ h.0, h.1, (let z = h.2 in omega (arith, x, z)), (let z = h.3 in omega (arith, y, z)), h.4)
onward_reads c i j p q a (fails b k) e x y h = h

silent : (b : Bool) → T (not b || false) → b ≡ false
silent true t = absurd t
silent false t = refl

pair_reads : (c : Bool) (i j : ℕ) (p : Input) (s : Summary Rows) (f : Input → Summary Rows)
    → Reads false i p s → ((q : Input) → Reads c j q (f q)) → Reads c (i + j) p (thenˢ s λ a q. withˢ (a ++◌) (f q))
pair_reads c i j p (fits a q b k) f h g =
    more_reads c (i + j) p b k (withˢ (a ++◌) (f q)) (silent b h.4) h.1 (onward_reads c i j p q a (f q) h.0 h.2 h.3 (g q))
pair_reads c i j p (fails b k) f h g = h

-- a leaf takes at least n bytes, or fails
abbrev Least : ℕ → Option ℕ → Type 0
Least n none = Unit {0}
Least n (some k) = n ≤ k

least_none : (o : Option ℕ) → Least 0 o
least_none none = tt
least_none (some k) = zero-le

least_one : (k : ℕ) → Least 1 (at_least_one k)
least_one zero = tt
least_one (suc k) = suc-le-suc zero-le

least_given : (b : Bool) (n k : ℕ) → n ≤ k → Least n (given b k)
least_given true n k h = h
least_given false n k h = tt

least_byte : (f : ℕ → Bool) (t : List ℕ) → Least 1 (taken (one f) t)
least_byte f [] = tt
least_byte f (b ∷ t) = least_given (f b) 1 1 (suc-le-suc zero-le)

take_reads : (c : Bool) (n : ℕ) (o : Option ℕ) (p : Input) → Fits o (length p.left) → Least n o → Reads c n p (takeˢ o p)
take_reads c n none p h i = (refl, refl)
take_reads c n (some k) p h i = (refl, refl, omega arith, omega (arith, length-drop k p.left), tt)

-- what stands behind `//`
abbrev to_line_end : Leaf
to_line_end = run1 λ b. not (line_end b)

-- parsers that make up trivia
module _ (τ : Rule → Scan Rows) (l : ℕ) where
  abbrev Item : Bool → ℕ → Parser → Type 0
  Item c n m = (p : Input) → Reads c n p (scan τ m l p)

  or_item : (c : Bool) (n : ℕ) (m k : Parser) → Item c n m → Item c n k → Item c n (m or k)
  or_item c n m k h i p = else_reads c n p (scan τ m l p) (λ t. scan τ k l p) (h p) (i p)

  pair_item : (c : Bool) (i j : ℕ) (m k : Parser) → Item false i m → Item c j k → Item c (i + j) (m ▸ k)
  pair_item c i j m k h g p = pair_reads c i j p (scan τ m l p) (λ q. scan τ k l q) (h p) g

  leaf_item : (c : Bool) (n : ℕ) (f : Leaf) → ((t : List ℕ) → Least n (taken f t)) → Item c n (leaf f)
  leaf_item c n f h p = take_reads c n (taken f p.left) p (taken_fits f p.left) (h p.left)

  empty_item : Item false 0 empty
  empty_item p = (refl, refl, omega arith, omega arith, tt)

  end_item : Item true 0 unterminated
  end_item p = (refl, refl, omega arith, omega arith, tt)

  mark_item : (s : String) → 1 ≤ length (bytes s) → Item false 1 (exactly s)
  mark_item s h = leaf_item false 1 (tag (bytes s)) λ t. least_given (begins (bytes s) t) 1 (length (bytes s)) h

  blank_item : Item true 1 (leaf (run1 blank))
  blank_item = leaf_item true 1 (run1 blank) λ t. least_one (run blank t)

  c_item : Item true 1 c_comment
  unfolding c_comment
  c_item =
      pair_item true 1 0 (exactly "/*") (leaf comment_rest or unterminated) (mark_item "/*" (suc-le-suc zero-le))
      (or_item true 0 (leaf comment_rest) unterminated (leaf_item true 0 comment_rest λ t. least_none (taken comment_rest t)) end_item)

  cpp_item : Item true 1 cpp_comment
  unfolding cpp_comment
  cpp_item =
      pair_item true 1 0 (exactly "//") (leaf to_line_end) (mark_item "//" (suc-le-suc zero-le))
      (leaf_item true 0 to_line_end λ t. least_none (taken to_line_end t))

  trivia_item : Item true 1 trivia_impl
  unfolding trivia_impl
  trivia_item = or_item true 1 (leaf (run1 blank)) (c_comment or cpp_comment) blank_item (or_item true 1 c_comment cpp_comment c_item cpp_item)

  line_item : Item true 1 new_line
  unfolding new_line
  line_item =
      pair_item true 0 1 (opt (byte "\r")) (byte "\n")
      (or_item false 0 (byte "\r") empty (leaf_item false 0 (one (is 13)) λ t. least_none (taken (one (is 13)) t)) empty_item)
      (leaf_item true 1 (one (is 10)) (least_byte (is 10)))

  mtrivia_item : Item true 1 (trivia_impl or new_line)
  mtrivia_item = or_item true 1 trivia_impl new_line trivia_item line_item

-- Runs of items ------------------------------------------------------------

-- no item is left, and no rows or levels came of those that were read
abbrev Over : {A : Type 0} → (A → Rows) → (Input → Summary Rows) → Summary A → Type 0
Over g n (fits a q b k) = (g a ≡ []) × (k ≡ 0) × (n q ≡ fails false 0)
Over g n (fails b k) = ⊥

fail_path : (s : Summary Rows) (b : Bool) (k : ℕ) → s ≡ fails b k → b ≡ false → k ≡ 0 → s ≡ fails false 0
fail_path s b k e x y = e ∙ ap (λ c. fails c k) x ∙ ap (fails false) y

module _ (n : Scan Rows) (l : ℕ) (h : (p : Input) → Reads true 1 p (n l p)) where
  last_over : (p : Input) (s : Summary Rows) → n l p ≡ s → Reads true 1 p s → length p.left ≤ 0 → Over joined (n l) (last_roundˢ p s)
  last_over p (fits a q b k) e i z = let y = i.3 in let x : 1 ≤ 0 = omega (arith, y, z) in absurd (not-suc-le-zero x)
  last_over p (fails b k) e i z = (refl, i.1, fail_path (n l p) b k e i.0 i.1)

  gate_over : (b : Bool) (f : Unit {0} → Summary (List Rows)) → T b → Over joined (n l) (f tt) → Over joined (n l) (gateˢ b f)
  gate_over true f t i = i
  gate_over false f t i = absurd t

  more_over : {A : Type 0} (g : A → Rows) (b : Bool) (k : ℕ) (s : Summary A) → k ≡ 0 → Over g (n l) s → Over g (n l) (more b k s)
  more_over g b k (fits a q c j) z i = (i.0, (let y = i.1 in omega (arith, y, z)), i.2)
  more_over g b k (fails c j) z i = i

  cons_over : (a : Rows) (s : Summary (List Rows)) → a ≡ [] → Over joined (n l) s → Over joined (n l) (thenˢ s λ rest r. fits (a ∷ rest) r false 0)
  cons_over a (fits rest r b k) e i = (ap (◌++ joined rest) e ∙ i.0, (let y = i.1 in omega (arith, y)), i.2)
  cons_over a (fails b k) e i = i

  next_over : (p : Input) (s : Summary Rows) (f : Input → Summary (List Rows)) → n l p ≡ s → Reads true 1 p s
      → ((q : Input) → length q.left < length p.left → Over joined (n l) (f q)) → Over joined (n l) (next_roundˢ p s f)
  next_over p (fits a q b k) f e i g =
      more_over joined b k (gateˢ (ltb p.at q.at) λ t. thenˢ (f q) λ rest r. fits (a ∷ rest) r false 0) i.1
      (gate_over (ltb p.at q.at) (λ t. thenˢ (f q) λ rest r. fits (a ∷ rest) r false 0) (lt→ltb p.at q.at (let y = i.2 in omega (arith, y)))
      (cons_over a (f q) i.0 (g q (let y = i.3 in omega (arith, y)))))
  next_over p (fails b k) f e i g = (refl, i.1, fail_path (n l p) b k e i.0 i.1)

  rounds_over : (f : List ℕ) (p : Input) → length p.left ≤ length f → Over joined (n l) (roundsˢ n f l p)
  rounds_over [] p z = last_over p (n l p) refl (h p) z
  rounds_over (b ∷ f) p z = next_over p (n l p) (λ q. roundsˢ n f l q) refl (h p) λ q y. rounds_over f q (omega arith)

keep_over : (n : Input → Summary Rows) (s : Summary Rows) (f : Unit {0} → Summary Rows) → Over (λ a. a) n s → Over (λ a. a) n (elseˢ s f)
keep_over n (fits a q b k) f i = i
keep_over n (fails b k) f i = absurd i

joined_over : (n : Input → Summary Rows) (a : Rows) (s : Summary (List Rows))
    → a ≡ [] → Over joined n s → Over (λ a. a) n (withˢ (a ++◌) (withˢ joined s))
joined_over n a (fits rs q b k) e i = (ap (◌++ joined rs) e ∙ i.0, i.1, i.2)
joined_over n a (fails b k) e i = i

fits_path : (n : Input → Summary Rows) (s : Summary Rows) → Over (λ a. a) n s → (q : Input) × (b : Bool) × (s ≡ fits [] q b 0)
fits_path n (fits a q b k) i = (q, b, ap (λ x. fits x q b k) i.0 ∙ ap (fits [] q b) i.1)
fits_path n (fails b k) i = absurd i

-- opt(many1(m))
module _ (τ : Rule → Scan Rows) (l : ℕ) (m : Parser) (h : Item τ l true 1 m) where
  abbrev run_from : Input → Summary Rows → Summary Rows
  run_from p s = elseˢ (thenˢ s λ a q. withˢ (a ++◌) (withˢ joined (roundsˢ (scan τ m) q.left l q))) λ t. fits [] p false 0

  from_over : (p : Input) (s : Summary Rows) → scan τ m l p ≡ s → Reads true 1 p s → Over (λ a. a) (scan τ m l) (run_from p s)
  from_over p (fits a q b k) e i =
      let rest = roundsˢ (scan τ m) q.left l q in
      keep_over (scan τ m l) (more b k (withˢ (a ++◌) (withˢ joined rest))) (λ t. fits [] p false 0)
      (more_over (scan τ m) l h (λ a. a) b k (withˢ (a ++◌) (withˢ joined rest)) i.1
      (joined_over (scan τ m l) a rest i.0 (rounds_over (scan τ m) l h q.left q (omega arith))))
  from_over p (fails b k) e i = (refl, (let y = i.1 in omega (arith, y)), fail_path (scan τ m l p) b k e i.0 i.1)

  run_over : (p : Input) → Over (λ a. a) (scan τ m l) (scan τ (opt (m ▸ many0 m)) l p)
  run_over p = from_over p (scan τ m l p) refl (h p)

  -- where it ends no item fits
  run_stops : (p : Input) (a : Rows) (q : Input) (b : Bool) (k : ℕ) → scan τ (opt (m ▸ many0 m)) l p ≡ fits a q b k → scan τ m l q ≡ fails false 0
  run_stops p a q b k e = let i : Over (λ a. a) (scan τ m l) (fits a q b k) = subst (Over (λ a. a) (scan τ m l)) e (run_over p) in i.2

  run_nothing : (q : Input) → scan τ m l q ≡ fails false 0 → scan τ (opt (m ▸ many0 m)) l q ≡ fits [] q false 0
  run_nothing q e = ap (run_from q) e

-- A `/` that begins no comment ---------------------------------------------

-- of two alternatives that fail each fails
first_fails : (q : Input) (s : Summary Rows) (f : Unit {0} → Summary Rows) → Reads true 1 q s → elseˢ s f ≡ fails false 0 → s ≡ fails false 0
first_fails q (fits a r b k) f i e = e
first_fails q (fails b k) f i e = fail_path (fails b k) b k refl i.0 i.1

second_fails : (s : Summary Rows) (f : Unit {0} → Summary Rows) → s ≡ fails false 0 → elseˢ s f ≡ fails false 0 → f tt ≡ fails false 0
second_fails s f e h = sym (more_none (f tt)) ∙ sym (ap (λ z. elseˢ z f) e) ∙ h

abbrev Fitting : Summary Rows → Type 0
Fitting (fits a q b k) = Unit {0}
Fitting (fails b k) = ⊥

more_fitting : (b : Bool) (k : ℕ) (s : Summary Rows) → Fitting s → Fitting (more b k s)
more_fitting b k (fits a q c j) h = tt
more_fitting b k (fails c j) h = h

else_fitting : (s : Summary Rows) (f : Unit {0} → Summary Rows) → Fitting (f tt) → Fitting (elseˢ s f)
else_fitting (fits a q b k) f h = tt
else_fitting (fails b k) f h = more_fitting b k (f tt) h

-- a mark of two bytes, and what stands behind it
abbrev marking : Bool → Input → (Input → Summary Rows) → Summary Rows
marking b q n = thenˢ (takeˢ (given b 2) q) λ a r. withˢ (a ++◌) (n r)

marking_fits : (q : Input) (n : Input → Summary Rows) → Fitting (n (behind 2 q)) → Fitting (marking true q n)
marking_fits q n h = more_fitting false 0 (withˢ ([] ++◌) (n (behind 2 q))) (go (n (behind 2 q)) h)
  where
    go : (s : Summary Rows) → Fitting s → Fitting (withˢ ([] ++◌) s)
    go (fits a r b k) i = tt
    go (fails b k) i = i

star_fails : (b : Bool) (q : Input) (n : Input → Summary Rows) → ((r : Input) → Fitting (n r)) → marking b q n ≡ fails false 0 → b ≡ false
star_fails true q n h e = absurd (subst Fitting e (marking_fits q n (h (behind 2 q))))
star_fails false q n h e = refl

line_ends : (t : List ℕ) (r : Input) → (Fitting (takeˢ (taken to_line_end t) r) → ⊥) → Ends (first t)
line_ends [] r h = tt
line_ends (b ∷ t) r h = go (line_end b) h
  where
    go : (x : Bool) → (Fitting (takeˢ (at_least_one (elim (not x) [ true ↦ suc (run (λ b. not (line_end b)) t) | false ↦ 0 ])) r) → ⊥) → T x
    go true i = tt
    go false i = i tt

slashes_end : (b : Bool) (q : Input) → marking b q (λ r. takeˢ (taken to_line_end r.left) r) ≡ fails false 0 → T b → Ends (first (drop 2 q.left))
slashes_end true q e t =
    line_ends (drop 2 q.left) (behind 2 q) λ h. subst Fitting e (marking_fits q (λ r. takeˢ (taken to_line_end r.left) r) h)
slashes_end false q e t = absurd t

-- Trivia -------------------------------------------------------------------

module _ (τ : Rule → Scan Rows) (l : ℕ) where
  comments_fail : (q : Input) → scan τ trivia_impl l q ≡ fails false 0 → scan τ (c_comment or cpp_comment) l q ≡ fails false 0
  unfolding trivia_impl
  comments_fail q e =
      let blanks = scan τ (leaf (run1 blank)) l q in
      let others : Unit {0} → Summary Rows = λ t. scan τ (c_comment or cpp_comment) l q in
      second_fails blanks others (first_fails q blanks others (blank_item τ l q) e) e

  c_fails : (q : Input) → scan τ (c_comment or cpp_comment) l q ≡ fails false 0 → scan τ c_comment l q ≡ fails false 0
  c_fails q e = first_fails q (scan τ c_comment l q) (λ t. scan τ cpp_comment l q) (c_item τ l q) e

  comments_bare : (q : Input) → scan τ (c_comment or cpp_comment) l q ≡ fails false 0 → first q.left ≡ some 47 → Bare q.left
  unfolding c_comment cpp_comment
  comments_bare q e z =
      record {
        slash = z;
        star = star_fails (begins (bytes "/*") q.left) q (scan τ (leaf comment_rest or unterminated) l)
            (λ r. else_fitting (scan τ (leaf comment_rest) l r) (λ t. scan τ unterminated l r) tt) (c_fails q e);
        ends = slashes_end (begins (bytes "//") q.left) q (second_fails (scan τ c_comment l q) (λ t. scan τ cpp_comment l q) (c_fails q e) e);
      }

module _ (τ : Rule → Scan Rows) (l : ℕ) (p : Input) where
  -- trivia always fits, with no rows and no level
  pub trivia_fits : (q : Input) × (b : Bool) × (scan τ trivia l p ≡ fits [] q b 0)
  unfolding trivia
  trivia_fits = fits_path (scan τ trivia_impl l) (scan τ trivia l p) (run_over τ l trivia_impl (trivia_item τ l) p)

  pub mtrivia_fits : (q : Input) × (b : Bool) × (scan τ multiline_trivia l p ≡ fits [] q b 0)
  unfolding multiline_trivia
  mtrivia_fits = fits_path (scan τ (trivia_impl or new_line) l) (scan τ multiline_trivia l p) (run_over τ l (trivia_impl or new_line) (mtrivia_item τ l) p)

  module _ (a : Rows) (q : Input) (b : Bool) (k : ℕ) where
    -- read again, it reads nothing
    pub trivia_twice : scan τ trivia l p ≡ fits a q b k → scan τ trivia l q ≡ fits [] q false 0
    unfolding trivia
    trivia_twice e = run_nothing τ l trivia_impl (trivia_item τ l) q (run_stops τ l trivia_impl (trivia_item τ l) p a q b k e)

    pub mtrivia_twice : scan τ multiline_trivia l p ≡ fits a q b k → scan τ multiline_trivia l q ≡ fits [] q false 0
    unfolding multiline_trivia
    mtrivia_twice e =
        run_nothing τ l (trivia_impl or new_line) (mtrivia_item τ l) q (run_stops τ l (trivia_impl or new_line) (mtrivia_item τ l) p a q b k e)

    -- behind trivia with line ends no other is left
    pub mtrivia_trivia : scan τ multiline_trivia l p ≡ fits a q b k → scan τ trivia l q ≡ fits [] q false 0
    unfolding trivia multiline_trivia
    mtrivia_trivia e =
        run_nothing τ l trivia_impl (trivia_item τ l) q
        (first_fails q (scan τ trivia_impl l q) (λ t. scan τ new_line l q) (trivia_item τ l q)
        (run_stops τ l (trivia_impl or new_line) (mtrivia_item τ l) p a q b k e))

    -- a `/` behind trivia begins no comment
    pub trivia_slash : scan τ trivia l p ≡ fits a q b k → first q.left ≡ some 47 → Bare q.left
    unfolding trivia
    trivia_slash e z = comments_bare τ l q (comments_fail τ l q (run_stops τ l trivia_impl (trivia_item τ l) p a q b k e)) z

    pub mtrivia_slash : scan τ multiline_trivia l p ≡ fits a q b k → first q.left ≡ some 47 → Bare q.left
    unfolding multiline_trivia
    mtrivia_slash e z =
        comments_bare τ l q
        (comments_fail τ l q
        (first_fails q (scan τ trivia_impl l q) (λ t. scan τ new_line l q) (trivia_item τ l q)
        (run_stops τ l (trivia_impl or new_line) (mtrivia_item τ l) p a q b k e))) z
