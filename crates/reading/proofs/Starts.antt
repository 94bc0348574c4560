-- What the rules may start with, computed over all bytes: of the alternatives of a factor, of a number and of a statement, which fail at once at a
-- byte of which class; and where trivia reads nothing.
use mathlib.Core.Path.{◌≡◌, refl, ap, ◌∙◌, subst}
use mathlib.Core.Bool.{Bool, true, false, ◌&&◌, ◌||◌, not}
use mathlib.Core.List.{List, [], ◌∷◌}
use mathlib.Core.Option.{none, some}
use Prim.Native.Nat.{ℕ, zero, suc, ◌≤◌, ◌<◌}
use Prim.Native.Char.{Char, code}
use native.Mathlib.Nat.{not-suc-le-zero, le_of_suc-le-suc}
use lib.Dec.{T}
use lib.ListN.{length, get_or, drop, drop_of_length-le}
use lib.Seq.{drop-cons}
use Rattle.reading.specs.Byte.{is, blank, letter, digit, hex_digit, binary_digit, line_end, name_start}
use Rattle.reading.specs.Kind.{number_typeᵏ, number_textᵏ}
use Rattle.reading.specs.Grammar.{Input, run1, Parser, empty, ◌▸◌, leaf}
use Rattle.reading.specs.Rules.{byte, trivia, multiline_trivia, ws, decimal, fn_call, identifier_value, current_pc, expression_parens, interpolated_string_factor, expression_factor_inner, braces, label, instruction, variable_definition, const_definition, pc_definition, config_definition, macro_definition, macro_invocation, data', segment, loop', if', align, import', text, file, test, assert, trace, all_rules}
use Rattle.reading.proofs.Bool.{and_left, and_right}
use Rattle.reading.proofs.Verdict.{Verdict, no, nothing, still, marked, maybe, is_no, is_no→, front, bare, first, front_at}

-- Places and classes of bytes ----------------------------------------------

-- a place in a text
abbrev pub here : List ℕ → ℕ → Input
here s i = record { at = i; left = drop i s }

pub first_in : (s : List ℕ) (i : ℕ) → i < length s → first (drop i s) ≡ some (get_or s i 0)
first_in s i h = ap first (drop-cons s i 0 h)

pub first_end : (s : List ℕ) (i : ℕ) → length s ≤ i → first (drop i s) ≡ none
first_end s i h = ap first (drop_of_length-le s h)

pub front_in : (m : Parser) (s : List ℕ) (i : ℕ) → i < length s → front_at m (here s i) ≡ front m (some (get_or s i 0))
front_in m s i h = ap (front m) (first_in s i h)

pub front_end : (m : Parser) (s : List ℕ) (i : ℕ) → length s ≤ i → front_at m (here s i) ≡ front m none
front_end m s i h = ap (front m) (first_end s i h)

abbrev pub is_nothing : Verdict → Bool
is_nothing no = false
is_nothing nothing = true
is_nothing still = false
is_nothing marked = false
is_nothing maybe = false

is_nothing→ : (x : Verdict) → T (is_nothing x) → x ≡ nothing
is_nothing→ no t = absurd t
is_nothing→ nothing t = refl
is_nothing→ still t = absurd t
is_nothing→ marked t = absurd t
is_nothing→ maybe t = absurd t

-- a test of every number below n
abbrev all_below : ℕ → (ℕ → Bool) → Bool
all_below zero f = true
all_below (suc n) f = f 0 && all_below n (λ b. f (suc b))

below : (n : ℕ) (f : ℕ → Bool) → T (all_below n f) → (b : ℕ) → b < n → T (f b)
below zero f t b h = absurd (not-suc-le-zero h)
below (suc n) f t zero h = and_left (f 0) (all_below n λ b. f (suc b)) t
below (suc n) f t (suc b) h = below n (λ b. f (suc b)) (and_right (f 0) (all_below n λ b. f (suc b)) t) b (le_of_suc-le-suc h)

-- at every byte of the class f, what m says passes g
abbrev pub says : (Verdict → Bool) → (ℕ → Bool) → Parser → Bool
says g f m = all_below 256 λ b. not (f b) || g (front m (some b))

implied : (a c : Bool) → T (not a || c) → a ≡ true → T c
implied true c t e = t
implied false c t e = absurd (subst (λ b. T (not b)) e tt)

said : (g : Verdict → Bool) (f : ℕ → Bool) (m : Parser) → T (says g f m) → (b : ℕ) → b < 256 → f b ≡ true → T (g (front m (some b)))
said g f m t b h e = implied (f b) (g (front m (some b))) (below 256 (λ b. not (f b) || g (front m (some b))) t b h) e

pub says_no : (f : ℕ → Bool) (m : Parser) → T (says is_no f m) → (b : ℕ) → b < 256 → f b ≡ true → front m (some b) ≡ no
says_no f m t b h e = is_no→ (front m (some b)) (said is_no f m t b h e)

pub says_nothing : (f : ℕ → Bool) (m : Parser) → T (says is_nothing f m) → (b : ℕ) → b < 256 → f b ≡ true → front m (some b) ≡ nothing
says_nothing f m t b h e = is_nothing→ (front m (some b)) (said is_nothing f m t b h e)

-- Trivia -------------------------------------------------------------------

-- trivia may begin with it; with line ends
abbrev pub trivia_start : ℕ → Bool
trivia_start b = blank b || is 47 b

abbrev pub mtrivia_start : ℕ → Bool
mtrivia_start b = trivia_start b || line_end b

trivia_test : T (says is_nothing (λ b. not (trivia_start b)) trivia)
unfolding all_rules
trivia_test = tt

mtrivia_test : T (says is_nothing (λ b. not (mtrivia_start b)) multiline_trivia)
unfolding all_rules
mtrivia_test = tt

pub trivia_none : (b : ℕ) → b < 256 → trivia_start b ≡ false → front trivia (some b) ≡ nothing
trivia_none b h e = says_nothing (λ b. not (trivia_start b)) trivia trivia_test b h (ap not e)

pub mtrivia_none : (b : ℕ) → b < 256 → mtrivia_start b ≡ false → front multiline_trivia (some b) ≡ nothing
mtrivia_none b h e = says_nothing (λ b. not (mtrivia_start b)) multiline_trivia mtrivia_test b h (ap not e)

pub trivia_end : front trivia none ≡ nothing
unfolding all_rules
trivia_end = refl

pub mtrivia_end : front multiline_trivia none ≡ nothing
unfolding all_rules
mtrivia_end = refl

-- Factors ------------------------------------------------------------------

-- the alternatives of number
abbrev pub hex_number : Parser
hex_number = ws number_typeᵏ 1 (byte "$") ▸ ws number_textᵏ 0 (leaf (run1 hex_digit))

abbrev pub binary_number : Parser
binary_number = ws number_typeᵏ 3 (byte "%") ▸ ws number_textᵏ 0 (leaf (run1 binary_digit))

abbrev pub decimal_number : Parser
decimal_number = decimal ▸ ws number_textᵏ 0 (leaf (run1 digit))

-- a digit begins a decimal number and nothing else
pub record AtDigit (b : ℕ) : Type 0 where
  pub hex : front hex_number (some b) ≡ no
  pub binary : front binary_number (some b) ≡ no
  pub call : front fn_call (some b) ≡ no
  pub value : front identifier_value (some b) ≡ no
  pub pc : front current_pc (some b) ≡ no
  pub parens : front expression_parens (some b) ≡ no
  pub string : front interpolated_string_factor (some b) ≡ no

pub at_digit : (b : ℕ) → b < 256 → digit b ≡ true → AtDigit b
unfolding all_rules
at_digit b h e =
    record {
      hex = says_no digit hex_number tt b h e;
      binary = says_no digit binary_number tt b h e;
      call = says_no digit fn_call tt b h e;
      value = says_no digit identifier_value tt b h e;
      pc = says_no digit current_pc tt b h e;
      parens = says_no digit expression_parens tt b h e;
      string = says_no digit interpolated_string_factor tt b h e;
    }

-- a letter or `_` begins `true`, `false`, a call or a name
pub record AtName (b : ℕ) : Type 0 where
  pub hex : front hex_number (some b) ≡ no
  pub binary : front binary_number (some b) ≡ no
  pub digits : front decimal_number (some b) ≡ no
  pub pc : front current_pc (some b) ≡ no
  pub parens : front expression_parens (some b) ≡ no
  pub string : front interpolated_string_factor (some b) ≡ no

pub at_name : (b : ℕ) → b < 256 → name_start b ≡ true → AtName b
unfolding all_rules
at_name b h e =
    record {
      hex = says_no name_start hex_number tt b h e;
      binary = says_no name_start binary_number tt b h e;
      digits = says_no name_start decimal_number tt b h e;
      pc = says_no name_start current_pc tt b h e;
      parens = says_no name_start expression_parens tt b h e;
      string = says_no name_start interpolated_string_factor tt b h e;
    }

-- what a factor may begin with behind its trivia; a call's name may stand behind line ends
abbrev pub among : List Char → ℕ → Bool
among [] b = false
among (c ∷ cs) b = is (code c) b || among cs b

abbrev pub factor_start : ℕ → Bool
factor_start b = (name_start b || digit b) || (among ("$" ∷ "%" ∷ "<" ∷ ">" ∷ "*" ∷ "(" ∷ "\"" ∷ "+" ∷ "-" ∷ []) b || mtrivia_start b)

factor_test : T (says is_no (λ b. not (factor_start b)) expression_factor_inner)
unfolding all_rules
factor_test = tt

pub factor_none : (b : ℕ) → b < 256 → factor_start b ≡ false → front expression_factor_inner (some b) ≡ no
factor_none b h e = says_no (λ b. not (factor_start b)) expression_factor_inner factor_test b h (ap not e)

pub factor_end : front expression_factor_inner none ≡ no
unfolding all_rules
factor_end = refl

pub factor_bare : bare expression_factor_inner ≡ no
unfolding all_rules
factor_bare = refl

-- Statements ---------------------------------------------------------------

-- each alternative of statement, in its order, with the class of the bytes that it may begin with behind its trivia
abbrev pub statements : List (Parser × (ℕ → Bool))
statements =
    (braces, is 123) ∷ (label, name_start) ∷ (instruction, letter) ∷ (variable_definition, is 46) ∷ (const_definition, is 46) ∷
    (pc_definition, is 42) ∷ (config_definition, is 46) ∷ (macro_definition, is 46) ∷ (macro_invocation, name_start) ∷ (data', is 46) ∷
    (segment, is 46) ∷ (loop', is 46) ∷ (if', is 46) ∷ (align, is 46) ∷ (import', is 46) ∷ (text, is 46) ∷ (file, is 46) ∷ (test, is 46) ∷
    (assert, is 46) ∷ (trace, is 46) ∷ []

-- one of them by its number
abbrev pub entry : List (Parser × (ℕ → Bool)) → ℕ → Parser × (ℕ → Bool)
entry xs i = get_or xs i (empty, λ b. false)

abbrev outside : (ℕ → Bool) → ℕ → Bool
outside f b = not (f b || mtrivia_start b)

-- at every other byte, at the end, and at a `/` that begins no comment, it fails at once
abbrev starts : Parser × (ℕ → Bool) → Bool
starts x = says is_no (outside x.1) x.0 && (is_no (front x.0 none) && is_no (bare x.0))

abbrev all_start : List (Parser × (ℕ → Bool)) → Bool
all_start [] = true
all_start (x ∷ xs) = starts x && all_start xs

statements_test : T (all_start statements)
unfolding all_rules
statements_test = tt

entry_starts : (xs : List (Parser × (ℕ → Bool))) (i : ℕ) → i < length xs → T (all_start xs) → T (starts (entry xs i))
entry_starts [] i h t = absurd (not-suc-le-zero h)
entry_starts (x ∷ xs) zero h t = and_left (starts x) (all_start xs) t
entry_starts (x ∷ xs) (suc i) h t = entry_starts xs i (le_of_suc-le-suc h) (and_right (starts x) (all_start xs) t)

neither : (a c : Bool) → a ≡ false → c ≡ false → not (a || c) ≡ true
neither a c e k = ap (λ x. not (x || c)) e ∙ ap not k

starts_no : (x : Parser × (ℕ → Bool)) → T (starts x) → (b : ℕ) → b < 256 → x.1 b ≡ false → mtrivia_start b ≡ false → front x.0 (some b) ≡ no
starts_no x t b h e z =
    says_no (outside x.1) x.0 (and_left (says is_no (outside x.1) x.0) (is_no (front x.0 none) && is_no (bare x.0)) t) b h
    (neither (x.1 b) (mtrivia_start b) e z)

starts_else : (x : Parser × (ℕ → Bool)) → T (starts x) → T (is_no (front x.0 none) && is_no (bare x.0))
starts_else x t = and_right (says is_no (outside x.1) x.0) (is_no (front x.0 none) && is_no (bare x.0)) t

-- statement i, from 0: at a byte that it may not begin with and that begins no trivia
pub statement_no : (i : ℕ) → i < 20 → (b : ℕ) → b < 256 → (entry statements i).1 b ≡ false → mtrivia_start b ≡ false
    → front (entry statements i).0 (some b) ≡ no
statement_no i h b k e z = starts_no (entry statements i) (entry_starts statements i h statements_test) b k e z

pub statement_end : (i : ℕ) → i < 20 → front (entry statements i).0 none ≡ no
statement_end i h =
    let x = entry statements i in
    is_no→ (front x.0 none) (and_left (is_no (front x.0 none)) (is_no (bare x.0)) (starts_else x (entry_starts statements i h statements_test)))

pub statement_bare : (i : ℕ) → i < 20 → bare (entry statements i).0 ≡ no
statement_bare i h =
    let x = entry statements i in
    is_no→ (bare x.0) (and_right (is_no (front x.0 none)) (is_no (bare x.0)) (starts_else x (entry_starts statements i h statements_test)))
