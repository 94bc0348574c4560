-- What is known of every summary of a quiet parser: its place goes on in the text; its rows are few; a rule that has fuel enough is its
-- parser; and where `rooted` says so, which antt computes, it has a row, and its last row ends where the reading ended.
use mathlib.Core.Path.{◌≡◌, refl, ap, ◌∙◌, sym, subst}
use mathlib.Core.Bool.{Bool, true, false, ◌&&◌}
use mathlib.Core.List.{List, [], ◌∷◌, ◌++◌}
use mathlib.Core.Option.{Option, none, some}
use Prim.Native.Nat.{ℕ, zero, suc, ◌+◌, ◌≤◌, ◌<◌}
use native.Mathlib.Omega.{arith}
use lib.Dec.{T, ltb}
use lib.ListN.{length, length-append}
use Rattle.reading.specs.Kind.{binaryᵏ}
use Rattle.reading.specs.Grammar.{Row, Rows, State, Input, Leaf, Rule, expr, config, stmt, Parser, empty, ◌▸◌, ◌or◌, never, many0, leaf, rule, unterminated, node, pick, over, scoped, import, argument, chain, bracket, braced, complain, expect, no_row, root_or, root, under, first_low, placed, binary, folded, taken}
use Rattle.reading.specs.Rules.{all_rules}
use Rattle.reading.specs.Reading.{start, rule_of, reads}
use Rattle.reading.specs.Summary.{Summary, fits, fails, touched, applied, more, thenˢ, elseˢ, withˢ, gateˢ, last_roundˢ, next_roundˢ, Scan, roundsˢ, char_atˢ, pickedˢ, pick_wordˢ, scan, scans}
use Rattle.reading.proofs.Bool.{and_left, and_right}
use Rattle.reading.proofs.Ahead.{Ahead, On, ahead}
use Rattle.reading.proofs.Tests.{quiet, quiet_rule, rule_quiet}
use Rattle.reading.proofs.Fuel.{reads_on, solves}
use Rattle.reading.proofs.Quiet.{reads_quiet, parse_quiet}
use Rattle.reading.proofs.Cost.{cost, slim, Fit, Few, Slim, slimly, reads_slim, placed_length}

-- where a summary fits, P holds of its value and its place
abbrev pub Holds : {A : Type 0} → (A → Input → Type 0) → Summary A → Type 0
Holds P (fits a q b k) = P a q
Holds P (fails b k) = Unit {0}

pub record Yields {A : Type 0} (P : A → Input → Type 0) (s : Summary A) : Type 0 where
  pub holds : Holds P s

-- From replies to summaries --------------------------------------------------

abbrev w₀ : State
w₀ = start 0 false

-- the place goes on
pub scan_on : (n : ℕ) (m : Parser) → T (quiet m) → (l : ℕ) (p : Input) → Yields (λ v q. Ahead p q) (scan (scans n) m l p)
scan_on n m u l p =
    let e = p.at + length p.left in
    record { holds = turn e (scan (scans n) m l p) (subst (On p) (parse_quiet e n m u l p w₀ refl) (ahead (reads n) (reads_on n) m l p w₀)) }
  where
    turn : (e : ℕ) (s : Summary Rows) → On p (applied e s w₀) → Holds (λ v q. Ahead p q) s
    turn e (fits a q b k) h = h
    turn e (fails b k) h = tt

-- the rows are few
pub scan_slim : (n : ℕ) (m : Parser) → T (quiet m) → T (slim m) → (l : ℕ) (p : Input)
    → Yields (λ v q. Fit (length v) (cost m) p q) (scan (scans n) m l p)
scan_slim n m u v l p =
    let e = p.at + length p.left in
    let h = subst (Slim length (cost m) p) (parse_quiet e n m u l p w₀ refl) (slimly (reads n) (reads_slim n) m v l p w₀) in
    record { holds = turn e (scan (scans n) m l p) h.few }
  where
    turn : (e : ℕ) (s : Summary Rows) → Few length (cost m) p (applied e s w₀) → Holds (λ v q. Fit (length v) (cost m) p q) s
    turn e (fits a q b k) h = h
    turn e (fails b k) h = tt

-- a summary is known by what it does to the first state
touched_swallow : (e : ℕ) (b : Bool) (k : ℕ) → (touched e b k w₀).swallow ≡ b
touched_swallow e true k = refl
touched_swallow e false k = refl

touched_peak : (e : ℕ) (b : Bool) (k : ℕ) → (touched e b k w₀).peak ≡ k
touched_peak e true k = omega arith
touched_peak e false k = omega arith

same_touch : (e : ℕ) (b c : Bool) (k j : ℕ) → touched e b k w₀ ≡ touched e c j w₀ → (b ≡ c) × (k ≡ j)
same_touch e b c k j h =
    (sym (touched_swallow e b k) ∙ ap (λ (w : State). w.swallow) h ∙ touched_swallow e c j, sym (touched_peak e b k) ∙ ap (λ (w : State). w.peak) h ∙ touched_peak e c j)

applied_is : {A : Type 0} (e : ℕ) (s t : Summary A) → applied e s w₀ ≡ applied e t w₀ → s ≡ t
applied_is e (fits a p b k) (fits c q d j) h = let y = same_touch e b d k j (cc) in cc (y.0, y.1)
applied_is e (fits a p b k) (fails d j) h = cc
applied_is e (fails b k) (fits c q d j) h = cc
applied_is e (fails b k) (fails d j) h = let y = same_touch e b d k j (cc) in cc (y.0, y.1)

-- with fuel enough a rule is its parser
pub scan_solves : (n : ℕ) (x : Rule) → T (quiet_rule x) → (l : ℕ) (p : Input)
    → length p.left < n → scans n x l p ≡ scan (scans n) (rule_of x) l p
scan_solves n x t l p h =
    let e = p.at + length p.left in
    applied_is e (scans n x l p) (scan (scans n) (rule_of x) l p)
    (sym (reads_quiet e n x t l p w₀ refl) ∙ solves n x l p w₀ h ∙ parse_quiet e n (rule_of x) (rule_quiet x t) l p w₀ refl)

-- The last row ---------------------------------------------------------------

-- there is a row, and the last one is of what was read last
abbrev pub rooted : Parser → Bool
rooted empty = false
rooted (m ▸ n) = rooted n
rooted (m or n) = rooted m && rooted n
rooted (never m) = false
rooted (many0 m) = false
rooted (leaf f) = false
rooted (rule x) = quiet_rule x
rooted unterminated = false
rooted (node k d t m) = true
rooted (pick k t xs) = true
rooted (over k d m n) = true
rooted (scoped k m n) = false
rooted (import m n s b) = false
rooted (argument t m) = rooted m
rooted (chain o m) = rooted m
rooted (bracket t c m) = rooted m
rooted (braced t m) = false
rooted (complain m) = false
rooted (expect c m) = false

pub rule_rooted : (x : Rule) → T (quiet_rule x) → T (rooted (rule_of x))
unfolding all_rules
rule_rooted expr t = tt
rule_rooted config t = tt
rule_rooted stmt t = absurd t

pub record Rooted (v : Rows) (q : Input) : Type 0 where
  pub some : 1 ≤ length v
  pub high : (root v).high ≡ q.at

root_or_same : (r s : Row) (v : Rows) → 1 ≤ length v → root_or r v ≡ root_or s v
root_or_same r s [] h = absurd (let z : ⊥ = omega arith in z)
root_or_same r s (x ∷ v) h = refl

pub root_append : (r : Row) (a b : Rows) → 1 ≤ length b → root_or r (a ++ b) ≡ root b
root_append r [] b h = root_or_same r no_row b h
root_append r (x ∷ a) b h = root_append x a b h

pub root_placed : (t a z : ℕ) (s : Row) (v : Rows) → 1 ≤ length v
    → ((root_or s (placed t a z v)).high ≡ z) × ((root_or s (placed t a z v)).low ≡ a)
root_placed t a z s [] h = absurd (let z : ⊥ = omega arith in z)
root_placed t a z s (r ∷ []) h = (refl, refl)
root_placed t a z s (r ∷ (x ∷ v)) h = root_placed t a z r (x ∷ v) (omega arith)

append_rooted : (a : Rows) {v : Rows} {q : Input} → Rooted v q → Rooted (a ++ v) q
append_rooted a {v} h =
    record { some = omega (arith, length-append a v, h.some); high = ap (λ (r : Row). r.high) (root_append no_row a v h.some) ∙ h.high }

under_rooted : (k d t a : ℕ) (v : Rows) (q : Input) → Rooted (under k d t a q.at v) q
under_rooted k d t a v q = append_rooted v (record { some = omega arith; high = refl })

binary_rooted : (a x : Rows) (q : Input) → Rooted x q → Rooted (binary a x) q
binary_rooted a x q h =
    subst (λ z. Rooted (under binaryᵏ 0 (root a).low (root a).low z (a ++ x)) q) (sym h.high) (under_rooted binaryᵏ 0 (root a).low (root a).low (a ++ x) q)

-- each combinator, on summaries
pub anything : {A : Type 0} (s : Summary A) → Yields (λ a q. Unit {0}) s
anything (fits a q b k) = record { holds = tt }
anything (fails b k) = record { holds = tt }

pub more_yields : {A : Type 0} {P : A → Input → Type 0} (b : Bool) (k : ℕ) {s : Summary A} → Yields P s → Yields P (more b k s)
more_yields b k {s = fits a q c j} h = record { holds = h.holds }
more_yields b k {s = fails c j} h = record { holds = tt }

pub then_yields : {A B : Type 0} {P : A → Input → Type 0} {Q : B → Input → Type 0} {s : Summary A} {f : A → Input → Summary B}
    → Yields P s → ((a : A) (q : Input) → P a q → Yields Q (f a q)) → Yields Q (thenˢ s f)
then_yields {s = fits a q b k} h e = more_yields b k (e a q h.holds)
then_yields {s = fails b k} h e = record { holds = tt }

else_yields : {A : Type 0} {P : A → Input → Type 0} {s : Summary A} {f : Unit {0} → Summary A}
    → Yields P s → ((t : Unit {0}) → Yields P (f t)) → Yields P (elseˢ s f)
else_yields {s = fits a q b k} h e = h
else_yields {s = fails b k} h e = more_yields b k (e tt)

pub with_yields : {A B : Type 0} {P : A → Input → Type 0} {Q : B → Input → Type 0} (f : A → B) {s : Summary A}
    → Yields P s → ((a : A) (q : Input) → P a q → Q (f a) q) → Yields Q (withˢ f s)
with_yields f {s = fits a q b k} h e = record { holds = e a q h.holds }
with_yields f {s = fails b k} h e = record { holds = tt }

gate_yields : {A : Type 0} {P : A → Input → Type 0} (b : Bool) {f : Unit {0} → Summary A} → ((t : Unit {0}) → Yields P (f t)) → Yields P (gateˢ b f)
gate_yields true h = h tt
gate_yields false h = record { holds = tt }

-- what rounds give, folded onto a
abbrev Folded : Rows → List Rows → Input → Type 0
Folded a xs q = Rooted (folded a xs) q

last_rooted : {a : Rows} {p : Input} (s : Summary Rows) → Rooted a p → Yields (Folded a) (last_roundˢ p s)
last_rooted (fits v q b k) g = record { holds = tt }
last_rooted (fails b k) g = record { holds = g }

next_rooted : {a : Rows} {p : Input} {s : Summary Rows} {f : Input → Summary (List Rows)} → Rooted a p → Yields Rooted s
    → ((q : Input) (v : Rows) → Rooted v q → Yields (Folded v) (f q)) → Yields (Folded a) (next_roundˢ p s f)
next_rooted {a = a} {p = p} {s = fits v q b k} g h e =
    more_yields b k (gate_yields (ltb p.at q.at) λ t. then_yields (e q (binary a v) (binary_rooted a v q h.holds)) λ xs r z. record { holds = z })
next_rooted {s = fails b k} g h e = record { holds = g }

rounds_rooted : (n : Scan Rows) → ((l : ℕ) (p : Input) → Yields Rooted (n l p))
    → (f : List ℕ) (l : ℕ) (p : Input) (a : Rows) → Rooted a p → Yields (Folded a) (roundsˢ n f l p)
rounds_rooted n h [] l p a g = last_rooted (n l p) g
rounds_rooted n h (c ∷ f) l p a g = next_rooted g (h l p) λ q v z. rounds_rooted n h f l q v z

picked_rooted : (k t d : ℕ) (o : Option ℕ) (p : Input) {s : Summary Rows} → Yields Rooted s → Yields Rooted (pickedˢ k t d o p s)
picked_rooted k t d none p h = h
picked_rooted k t d (some n) p h = record { holds = record { some = omega arith; high = refl } }

pick_rooted : (k t : ℕ) (xs : List (Leaf × ℕ)) (p : Input) → Yields Rooted (pick_wordˢ k t xs p)
pick_rooted k t [] p = record { holds = tt }
pick_rooted k t (x ∷ xs) p = picked_rooted k t x.1 (taken x.0 p.left) p (pick_rooted k t xs p)

module _ (τ : Rule → Scan Rows) (i : (x : Rule) → T (quiet_rule x) → (l : ℕ) (p : Input) → Yields Rooted (τ x l p)) where
  rooting : (m : Parser) → T (rooted m) → (l : ℕ) (p : Input) → Yields Rooted (scan τ m l p)
  rooting empty u l p = absurd u
  rooting (m ▸ n) u l p = then_yields (anything (scan τ m l p)) λ a q _. with_yields (a ++◌) (rooting n u l q) λ v r h. append_rooted a h
  rooting (m or n) u l p =
      else_yields (rooting m (and_left (rooted m) (rooted n) u) l p) λ t. rooting n (and_right (rooted m) (rooted n) u) l p
  rooting (never m) u l p = absurd u
  rooting (many0 m) u l p = absurd u
  rooting (leaf f) u l p = absurd u
  rooting (rule x) u l p = i x u l p
  rooting unterminated u l p = absurd u
  rooting (node k d t m) u l p =
      then_yields (anything (scan τ t l p)) λ _ q _. then_yields (anything (scan τ m l q))
      λ a r _. record { holds = under_rooted k (d a) p.at q.at a r }
  rooting (pick k t xs) u l p = then_yields (anything (scan τ t l p)) λ _ q _. pick_rooted k p.at xs q
  rooting (over k d m n) u l p =
      then_yields (anything (scan τ m l p)) λ a q _. then_yields (anything (scan τ n l q))
      λ b r _. record { holds = under_rooted k d p.at (first_low a) (a ++ b) r }
  rooting (scoped k m n) u l p = absurd u
  rooting (import m n s b) u l p = absurd u
  rooting (argument t m) u l p =
      then_yields (anything (scan τ t l p)) λ _ q _. then_yields (rooting m u l q) λ a r h.
      record {
        holds = record {
          some = omega (arith, placed_length p.at q.at r.at a, h.some);
          high = (root_placed p.at q.at r.at no_row a h.some).0;
        };
      }
  rooting (chain o m) u l p =
      then_yields (rooting m u l p) λ a q h. with_yields (folded a)
      (rounds_rooted (scan τ (o ▸ m))
      (λ l p. then_yields (anything (scan τ o l p)) λ b q _. with_yields (b ++◌) (rooting m u l q) λ v r h. append_rooted b h) q.left l q a h)
      λ xs r g. g
  rooting (bracket t c m) u l p =
      then_yields (anything (char_atˢ c p (scan τ t l p)))
      λ a q _. more_yields false (suc l) (with_yields (a ++◌) (rooting m u (suc l) q) λ v r h. append_rooted a h)
  rooting (braced t m) u l p = absurd u
  rooting (complain m) u l p = absurd u
  rooting (expect c m) u l p = absurd u

scans_rooted : (n : ℕ) (x : Rule) → T (quiet_rule x) → (l : ℕ) (p : Input) → Yields Rooted (scans n x l p)
scans_rooted zero x t l p = record { holds = tt }
scans_rooted (suc n) x t l p = rooting (scans n) (scans_rooted n) (rule_of x) (rule_rooted x t) l p

-- it has a row, and the last one ends where the reading ended
pub scan_rooted : (n : ℕ) (m : Parser) → T (rooted m) → (l : ℕ) (p : Input) → Yields Rooted (scan (scans n) m l p)
scan_rooted n m u l p = rooting (scans n) (scans_rooted n) m u l p
