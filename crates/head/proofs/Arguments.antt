-- The list of arguments in a statement, where an expression is not inside a bracket, is that in a call: behind a byte a rule is its parser.
use mathlib.Core.Path.{◌≡◌, refl, ap, sym, subst, ◌∙◌}
use mathlib.Core.Bool.{false}
use mathlib.Core.List.{List, [], ◌∷◌, ◌++◌}
use Prim.Native.Nat.{ℕ, ◌≤◌}
use native.Mathlib.Omega.{arith}
use lib.Dec.{T, ltb}
use lib.ListN.{length, length-drop}
use Rattle.reading.specs.Grammar.{Rows, Input, expr, Parser, ◌▸◌, many0, rule, argument, joined, placed}
use Rattle.reading.specs.Rules.{char, trivia, arg_list, expression, expression_arg, expression_arg_list, all_rules}
use Rattle.reading.specs.Summary.{Summary, fits, fails, more, thenˢ, withˢ, gateˢ, last_roundˢ, next_roundˢ, roundsˢ, scan}
use Rattle.reading.proofs.Ahead.{Ahead}
use Rattle.reading.proofs.Summaries.{Yields, scan_on}
use Rattle.reading.proofs.Tests.{quiet}
use Rattle.cursor.specs.Agree.{full, Reads}
use Rattle.cursor.specs.Text.{here}
use Rattle.cursor.specs.declared.Cursor.{Cursor}
use Rattle.cursor.specs.Read.{Read}
use Rattle.cursor.proofs.Agree.{Lies}
use Rattle.cursor.proofs.Laws.{lies, rule_is, reading_is}

-- Places behind the first byte -----------------------------------------------

-- a place of the text with a byte behind it
record Inner (s : List ℕ) (q : Input) : Type 0 where
  pub is : q ≡ here s q.at
  pub some : 1 ≤ q.at
  pub within : q.at ≤ length s

inner_here : (s : List ℕ) (i : ℕ) → 1 ≤ i → i ≤ length s → Inner s (here s i)
inner_here s i h j = record { is = refl; some = h; within = j }

scan_inner : (s : List ℕ) (g : Parser) → T (quiet g) → (l : ℕ) (p : Input) → Inner s p → Yields (λ v q. Inner s q) (scan (full s) g l p)
unfolding full
scan_inner s g u l p x =
    subst (λ p. Yields (λ v q. Inner s q) (scan (full s) g l p)) (sym x.is)
    (go (scan (full s) g l (here s p.at)) (lies s g u l p.at) (scan_on (length s) g u l (here s p.at)))
  where
    go : (o : Summary Rows) → Lies s o → Yields (λ v q. Ahead (here s p.at) q) o → Yields (λ v q. Inner s q) o
    go (fits v q b k) h y =
        record {
          holds = record {
            is = h;
            some = omega (arith, y.holds.on, x.some);
            within = omega (arith, y.holds.sum, length-drop p.at s, x.within);
          };
        }
    go (fails b k) h y = record { holds = tt }

-- what follows need be the same only at the places that are reached
then_same : {A B : Type 0} {o : Summary A} {f g : A → Input → Summary B} → Yields (λ a q. f a q ≡ g a q) o → thenˢ o f ≡ thenˢ o g
then_same {o = fits a q b k} h = ap (more b k) h.holds
then_same {o = fails b k} h = refl

yields_to : {A : Type 0} {P Q : A → Input → Type 0} {o : Summary A} → Yields P o → ((a : A) (q : Input) → P a q → Q a q) → Yields Q o
yields_to {o = fits a q b k} h f = record { holds = f a q h.holds }
yields_to {o = fails b k} h f = record { holds = tt }

next_same : {A : Type 0} (p : Input) {o : Summary A} {f g : Input → Summary (List A)} → Yields (λ a q. f q ≡ g q) o → next_roundˢ p o f ≡ next_roundˢ p o g
next_same p {o = fits a q b k} h =
    ap (λ o. more b k (gateˢ (ltb p.at q.at) λ t. thenˢ o λ rest r. fits (a ∷ rest) r false 0)) h.holds
next_same p {o = fails b k} h = refl

-- Parsers that read the same there -------------------------------------------

abbrev Same : List ℕ → Parser → Parser → Type 0
Same s m n = (l : ℕ) (p : Input) → Inner s p → scan (full s) m l p ≡ scan (full s) n l p

module _ (s : List ℕ) (m n : Parser) (u : T (quiet n)) (same : Same s m n) where
  rounds_same : (f : List ℕ) (l : ℕ) (p : Input) → Inner s p → roundsˢ (scan (full s) m) f l p ≡ roundsˢ (scan (full s) n) f l p
  rounds_same [] l p x = ap (last_roundˢ p) (same l p x)
  rounds_same (b ∷ f) l p x =
      ap (λ o. next_roundˢ p o λ q. roundsˢ (scan (full s) m) f l q) (same l p x)
      ∙ next_same p (yields_to (scan_inner s n u l p x) λ v q y. rounds_same f l q y)

module _ (s : List ℕ) (m n c : Parser) (pair : T (quiet (n ▸ c))) (same : Same s m n) where
  pair_same : Same s (m ▸ c) (n ▸ c)
  pair_same l p x = ap (λ o. thenˢ o λ a q. withˢ (a ++◌) (scan (full s) c l q)) (same l p x)

  list_same : Same s (many0 (m ▸ c) ▸ m) (many0 (n ▸ c) ▸ n)
  list_same l p x =
      ap (λ o. thenˢ (withˢ joined o) λ a q. withˢ (a ++◌) (scan (full s) m l q)) (rounds_same s (m ▸ c) (n ▸ c) pair pair_same p.left l p x)
      ∙ then_same (yields_to (scan_inner s (many0 (n ▸ c)) pair l p x) λ v q y. ap (withˢ (v ++◌)) (same l q y))

expr_same : (s : List ℕ) → Same s expression (rule expr)
expr_same s l p x =
    ap (scan (full s) expression l) x.is ∙ sym (rule_is expr tt s l p.at x.some x.within) ∙ ap (scan (full s) (rule expr) l) (sym x.is)

trivia_quiet : T (quiet trivia)
unfolding all_rules
trivia_quiet = tt

argument_same : (s : List ℕ) → Same s (argument trivia expression) (argument trivia (rule expr))
argument_same s l p x =
    then_same (yields_to (scan_inner s trivia trivia_quiet l p x)
    λ v q y. ap (λ o. thenˢ o λ a r. fits (placed p.at q.at r.at a) r false 0) (expr_same s l q y))

argument_quiet : T (quiet (argument trivia (rule expr) ▸ char ","))
unfolding all_rules
argument_quiet = tt

arguments_same : (s : List ℕ) → Same s expression_arg_list (arg_list expression_arg)
unfolding expression_arg expression_arg_list
arguments_same s = list_same s (argument trivia expression) (argument trivia (rule expr)) (char ",") argument_quiet (argument_same s)

-- so its reader reads the list in a statement
pub reads_arguments : {s : List ℕ} {c : Cursor} {left : ℕ} {t t' : List ℕ} {r : Read} → 1 ≤ c.at.0 → c.at.0 ≤ length s
    → Reads (arg_list expression_arg) s c left t t' r → Reads expression_arg_list s c left t t' r
reads_arguments {s} {c} h i a = record { reading = λ l. reading_is (arguments_same s l (here s c.at.0) (inner_here s c.at.0 h i)) (a.reading l) }
