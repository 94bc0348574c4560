-- What nom's combinators mean. A parser is written down as data, with no function over what it reads, and `parse` gives it its meaning.
use Rattle.std.specs.Prelude.{Bool, true, false, List, [], ◌∷◌, ◌++◌, ℕ, suc, ◌+◌, max, ltb, eqb, length, drop}
use Rattle.std.proofs.Math.Option.{Option, none, some}
use Rattle.reading.specs.Byte.{is, begins, begins_no_case, given, run, at_least_one, comment}
use Rattle.reading.specs.Kind.{charᵏ, binaryᵏ, importᵏ}

infixr 25 ◌or◌
infixr 30 ◌▸◌
-- What a reading yields ----------------------------------------------------

-- trivia is tlow to low, the body low to high; size counts the rows of the subtree
pub record Row : Type 0 where
  pub kind : ℕ
  pub size : ℕ
  pub tlow : ℕ
  pub low : ℕ
  pub high : ℕ
  pub detail : ℕ

-- children first, then the parent
abbrev pub Rows : Type 0
Rows = List Row

pub record Error : Type 0 where
  pub code : ℕ
  pub low : ℕ
  pub high : ℕ

pub record Request : Type 0 where
  pub low : ℕ
  pub high : ℕ

-- The Rust's State, which an attempt that fails leaves changed: the last scope number, ignore_next_error, the errors; to_import as a list;
-- and the highest level that any attempt went to.
pub record State : Type 0 where
  pub scope : ℕ
  pub swallow : Bool
  pub errors : List Error
  pub requests : List Request
  pub peak : ℕ

-- nom's input: how many bytes are behind it, and those that are left
pub record Input : Type 0 where
  pub at : ℕ
  pub left : List ℕ

-- nom's IResult; the state is kept either way
pub data Reply (A : Type 0) : Type 0 where
  ok : A → Input → State → Reply A
  err : State → Reply A

-- Parsers ------------------------------------------------------------------

-- nom's leaves: one byte of a class; a run of them, also empty, or not; a word byte for byte (tag), or in any letter case (tag_no_case);
-- the rest of a block comment
pub data Leaf : Type 0 where
  one run0 run1 : (ℕ → Bool) → Leaf
  tag tag_no_case : List ℕ → Leaf
  comment_rest : Leaf

-- the rules that name one another: expression, config_map, statement
pub data Rule : Type 0 where
  expr config stmt : Rule

pub data Parser : Type 0 where
  -- nothing; a tuple; alt; not; many0; a leaf; a function that is called by its name
  empty : Parser
  ◌▸◌ ◌or◌ : Parser → Parser → Parser
  never many0 : Parser → Parser
  leaf : Leaf → Parser
  rule : Rule → Parser
  -- a block comment whose end is missing: to the end of the text, reported
  unterminated : Parser
  -- a Located value: its kind, its detail from the rows inside, its trivia, the value
  node : ℕ → (Rows → ℕ) → Parser → Parser → Parser
  -- alt over words, as a Located value: its kind, its trivia, each word with its detail
  pick : ℕ → Parser → List (Leaf × ℕ) → Parser
  -- a row with no span of its own: its kind, its detail, its first child, the others
  over : ℕ → ℕ → Parser → Parser → Parser
  -- the same, numbered as a scope once it is read
  scoped : ℕ → Parser → Parser → Parser
  -- an import: its directive, what stands up to the file name, the file name, the block
  import : Parser → Parser → Parser → Parser → Parser
  -- an item of expression_arg_list: its trivia, the expression, which takes the item's places
  argument : Parser → Parser → Parser
  -- fold_expressions: operator and part, over and over
  chain : Parser → Parser → Parser
  -- one level deeper: its trivia, the opening character, what stands behind it
  bracket : Parser → ℕ → Parser → Parser
  -- a block: its trivia, its items; the closing brace may be missing
  braced : Parser → Parser → Parser
  -- error_impl: what was read is reported
  complain : Parser → Parser
  -- expect: nothing and a report of this code, where it does not fit
  expect : ℕ → Parser → Parser

-- The state ----------------------------------------------------------------

-- report_error: an error that meets the flag clears it and is lost
abbrev pub reported : Error → State → State
reported e w = elim w.swallow [
  | true ↦ record { scope = w.scope; swallow = false; errors = w.errors; requests = w.requests; peak = w.peak }
  | false ↦ record { scope = w.scope; swallow = false; errors = w.errors ++ (e ∷ []); requests = w.requests; peak = w.peak }
]

-- ignore_next_error
abbrev pub swallowing : State → State
swallowing w = record { scope = w.scope; swallow = true; errors = w.errors; requests = w.requests; peak = w.peak }

-- new_anonymous_scope
abbrev pub numbered : State → State
numbered w = record { scope = suc w.scope; swallow = w.swallow; errors = w.errors; requests = w.requests; peak = w.peak }

abbrev pub requested : Request → State → State
requested q w = record { scope = w.scope; swallow = w.swallow; errors = w.errors; requests = w.requests ++ (q ∷ []); peak = w.peak }

abbrev pub raised : ℕ → State → State
raised l w = record { scope = w.scope; swallow = w.swallow; errors = w.errors; requests = w.requests; peak = max w.peak l }

abbrev pub error_at : ℕ → ℕ → Error
error_at c i = record { code = c; low = i; high = i }

-- Rows ---------------------------------------------------------------------

abbrev pub no_row : Row
no_row = record { kind = 0; size = 0; tlow = 0; low = 0; high = 0; detail = 0 }

-- the last row of a tree is its root
abbrev pub root_or : Row → Rows → Row
root_or r [] = r
root_or r (x ∷ xs) = root_or x xs

abbrev pub root : Rows → Row
root = root_or no_row

abbrev pub joined : List Rows → Rows
joined [] = []
joined (x ∷ xs) = x ++ joined xs

-- the rows with a parent behind them: kind, detail, tlow, low, high
abbrev pub under : ℕ → ℕ → ℕ → ℕ → ℕ → Rows → Rows
under k d t a z rs = rs ++ (record { kind = k; size = suc (length rs); tlow = t; low = a; high = z; detail = d } ∷ [])

-- the low of the first child, whose tree begins with the first row: the last row whose size counts all the rows up to it
abbrev pub first_low_from : ℕ → ℕ → Rows → ℕ
first_low_from n a [] = a
first_low_from n a (r ∷ rs) = first_low_from (suc n) (elim (eqb r.size (suc n)) [ true ↦ r.low | false ↦ a ]) rs

abbrev pub first_low : Rows → ℕ
first_low = first_low_from 0 0

-- a tree whose root stands at other places
abbrev pub placed : ℕ → ℕ → ℕ → Rows → Rows
placed t a z [] = []
placed t a z (r ∷ []) = record { kind = r.kind; size = r.size; tlow = t; low = a; high = z; detail = r.detail } ∷ []
placed t a z (r ∷ (s ∷ rs)) = r ∷ placed t a z (s ∷ rs)

-- two expressions and the operator between them; the new row has no trivia of its own
abbrev pub binary : Rows → Rows → Rows
binary a ob = under binaryᵏ 0 (root a).low (root a).low (root ob).high (a ++ ob)

-- fold_expressions
abbrev pub folded : Rows → List Rows → Rows
folded a [] = a
folded a (x ∷ xs) = folded (binary a x) xs

-- the closing brace that block() supplies: the opening one's places, with byte 125
abbrev pub mended : Row → Rows
mended r = record { kind = charᵏ; size = 1; tlow = r.tlow; low = r.low; high = r.high; detail = 125 } ∷ []

abbrev pub all_but_last : Rows → Rows
all_but_last [] = []
all_but_last (x ∷ []) = []
all_but_last (x ∷ (y ∷ ys)) = x ∷ all_but_last (y ∷ ys)

-- from the file name's opening quote to its last piece: the last row is the string's own, and the one before it the last piece or the quote
abbrev pub request_of : Rows → Request
request_of d = record { low = (root d).low; high = (root (all_but_last d)).high }

-- Replies ------------------------------------------------------------------

-- what a parser does, from a level, an input and a state
abbrev pub Act : Type 0 → Type 0
Act A = ℕ → Input → State → Reply A

abbrev pub behind : ℕ → Input → Input
behind n p = record { at = p.at + n; left = drop n p.left }

abbrev pub to_end : Input → Input
to_end p = record { at = p.at + length p.left; left = [] }

-- the first, and then the second on what it left
abbrev pub then : {A B : Type 0} → Reply A → (A → Input → State → Reply B) → Reply B
then (ok a q v) f = f a q v
then (err v) f = err v

-- the second, if the first fails: from where the first began, with the state that it left
abbrev pub else : {A : Type 0} → Reply A → (State → Reply A) → Reply A
else (ok a q v) f = ok a q v
else (err v) f = f v

abbrev pub with : {A B : Type 0} → (A → B) → Reply A → Reply B
with f (ok a q v) = ok (f a) q v
with f (err v) = err v

abbrev pub turned : {A : Type 0} → Input → Reply A → Reply Rows
turned p (ok a q v) = err v
turned p (err v) = ok [] p v

-- many0's loop, with a round for each byte that is left and one more. A round that fits and reads nothing is a failure
abbrev pub gate : {A : Type 0} → Bool → State → (Unit {0} → Reply A) → Reply A
gate true v k = k tt
gate false v k = err v

abbrev pub last_round : {A : Type 0} → Input → Reply A → Reply (List A)
last_round p (ok a q v) = err v
last_round p (err v) = ok [] p v

abbrev pub next_round : {A : Type 0} → Input → Reply A → (Input → State → Reply (List A)) → Reply (List A)
next_round p (ok a q v) k = gate (ltb p.at q.at) v λ t. then (k q v) λ rest r u. ok (a ∷ rest) r u
next_round p (err v) k = ok [] p v

abbrev pub rounds : {A : Type 0} → Act A → List ℕ → Act (List A)
rounds m [] = λ l p w. last_round p (m l p w)
rounds m (b ∷ f) = λ l p w. next_round p (m l p w) λ q v. rounds m f l q v

-- how many bytes a leaf takes
abbrev pub one_of : (ℕ → Bool) → List ℕ → Option ℕ
one_of f [] = none
one_of f (b ∷ t) = given (f b) 1

abbrev pub taken : Leaf → List ℕ → Option ℕ
taken (one f) t = one_of f t
taken (run0 f) t = some (run f t)
taken (run1 f) t = at_least_one (run f t)
taken (tag w) t = given (begins w t) (length w)
taken (tag_no_case w) t = given (begins_no_case w t) (length w)
taken comment_rest t = comment 0 0 t

abbrev pub take : Option ℕ → Input → State → Reply Rows
take none p w = err w
take (some n) p w = ok [] (behind n p) w

-- a detail that is the same whatever was read
abbrev pub always : ℕ → Rows → ℕ
always d rs = d

-- located_with_trivia: a row around what is read behind the trivia
abbrev pub located : ℕ → (Rows → ℕ) → Input → Reply Rows → (Input → State → Reply Rows) → Reply Rows
located k d p r f = then r λ _ q v. then (f q v) λ a s u. ok (under k (d a) p.at q.at s.at a) s u

-- a character behind its trivia
abbrev pub char_at : ℕ → Input → Reply Rows → Reply Rows
char_at c p r = located charᵏ (always c) p r λ q v. take (one_of (is c) q.left) q v

abbrev pub picked : ℕ → ℕ → ℕ → Option ℕ → Input → State → Reply Rows → Reply Rows
picked k t d none p w r = r
picked k t d (some n) p w r = ok (record { kind = k; size = 1; tlow = t; low = p.at; high = p.at + n; detail = d } ∷ []) (behind n p) w

abbrev pub pick_word : ℕ → ℕ → List (Leaf × ℕ) → Input → State → Reply Rows
pick_word k t [] p w = err w
pick_word k t (x ∷ xs) p w = picked k t x.1 (taken x.0 p.left) p w (pick_word k t xs p w)

-- block(), behind its items: the closing brace, or report 5 and the brace that block() supplies
abbrev pub closed : Row → Input → Reply Rows → Reply Rows
closed o p r = else (char_at 125 p r) λ v. ok (mended o) p (reported (error_at 5 p.at) v)

-- The meaning of a parser: its rows, where it stands afterwards, and the state, which it may change even if it fails ------------

abbrev pub parse : (Rule → Act Rows) → Parser → Act Rows
parse ρ empty = λ l p w. ok [] p w
parse ρ (m ▸ n) = λ l p w. then (parse ρ m l p w) λ a q v. with (a ++◌) (parse ρ n l q v)
parse ρ (m or n) = λ l p w. else (parse ρ m l p w) λ v. parse ρ n l p v
parse ρ (never m) = λ l p w. turned p (parse ρ m l p w)
parse ρ (many0 m) = λ l p w. with joined (rounds (parse ρ m) p.left l p w)
parse ρ (leaf f) = λ l p w. take (taken f p.left) p w
parse ρ (rule x) = ρ x
parse ρ unterminated = λ l p w. ok [] (to_end p) (swallowing (reported (error_at 1 (to_end p).at) w))
parse ρ (node k d t m) = λ l p w. located k d p (parse ρ t l p w) λ q v. parse ρ m l q v
parse ρ (pick k t xs) = λ l p w. then (parse ρ t l p w) λ _ q v. pick_word k p.at xs q v
parse ρ (over k d m n) = λ l p w.
    then (parse ρ m l p w) λ a q v. then (parse ρ n l q v) λ b r u. ok (under k d p.at (first_low a) r.at (a ++ b)) r u
parse ρ (scoped k m n) = λ l p w.
    then (parse ρ m l p w) λ a q v. then (parse ρ n l q v) λ b r u. ok (under k (suc u.scope) p.at (first_low a) r.at (a ++ b)) r (numbered u)
parse ρ (import m n s b) = λ l p w.
    then (parse ρ m l p w) λ a q v. then (parse ρ n l q v) λ c r u. then (parse ρ s l r u) λ d x y. then (parse ρ b l x y) λ e z t.
    ok (under importᵏ (suc t.scope) p.at (first_low a) z.at (a ++ c ++ d ++ e)) z (requested (request_of d) (numbered t))
parse ρ (argument t m) = λ l p w. then (parse ρ t l p w) λ _ q v. then (parse ρ m l q v) λ a r u. ok (placed p.at q.at r.at a) r u
parse ρ (chain o m) = λ l p w.
    then (parse ρ m l p w) λ a q v. with (folded a) (rounds (λ l p w. then (parse ρ o l p w) λ b q v. with (b ++◌) (parse ρ m l q v)) q.left l q v)
parse ρ (bracket t c m) = λ l p w. then (char_at c p (parse ρ t l p w)) λ a q v. with (a ++◌) (parse ρ m (suc l) q (raised (suc l) v))
parse ρ (braced t m) = λ l p w.
    then (char_at 123 p (parse ρ t l p w)) λ a q v. then (rounds (parse ρ m) q.left (suc l) q (raised (suc l) v)) λ rs r u.
    with (λ c. a ++ joined rs ++ c) (closed (root a) r (parse ρ t (suc l) r u))
parse ρ (complain m) = λ l p w. then (parse ρ m l p w) λ a q v. ok a q (reported (record { code = 2; low = (root a).low; high = (root a).high }) v)
parse ρ (expect c m) = λ l p w. else (parse ρ m l p w) λ v. ok [] p (reported (error_at c p.at) v)
