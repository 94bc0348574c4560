-- What a parser gives that reports nothing but open comments and numbers no scope, without a state: expressions, operands, config maps.
-- Besides its rows and its place only two things matter: whether it met an open comment, and the highest level that it went to.
-- `proofs/Quiet` shows that `parse` does to a state just what the summary says.
use Rattle.std.specs.Prelude.{Bool, true, false, ◌||◌, List, [], ◌∷◌, ◌++◌, ℕ, zero, suc, ◌+◌, max, ltb}
use Rattle.std.proofs.Math.Option.{Option, none, some}
use Rattle.reading.specs.Byte.{is}
use Rattle.reading.specs.Kind.{charᵏ}
use Rattle.reading.specs.Grammar.{Rows, State, Input, Reply, ok, err, Rule, Leaf, Parser, empty, ◌▸◌, ◌or◌, never, many0, leaf, rule, unterminated, node, pick, over, scoped, import, argument, chain, bracket, braced, complain, expect, reported, swallowing, raised, error_at, joined, under, first_low, placed, folded, behind, to_end, one_of, taken, always}
use Rattle.reading.specs.Reading.{rule_of}

pub data Summary (A : Type 0) : Type 0 where
  -- the value, the input behind it, an open comment was met, the highest level
  fits : A → Input → Bool → ℕ → Summary A
  fails : Bool → ℕ → Summary A

-- what is done to a state: the text ends at e
abbrev pub noted : ℕ → Bool → State → State
noted e false w = w
noted e true w = swallowing (reported (error_at 1 e) w)

abbrev pub touched : ℕ → Bool → ℕ → State → State
touched e b k w = raised k (noted e b w)

abbrev pub applied : {A : Type 0} → ℕ → Summary A → State → Reply A
applied e (fits a q b k) w = ok a q (touched e b k w)
applied e (fails b k) w = err (touched e b k w)

-- a summary, after an open comment (or not) and a level
abbrev pub more : {A : Type 0} → Bool → ℕ → Summary A → Summary A
more b k (fits a q c j) = fits a q (b || c) (max k j)
more b k (fails c j) = fails (b || c) (max k j)

-- the combinators of Grammar, over summaries
abbrev pub thenˢ : {A B : Type 0} → Summary A → (A → Input → Summary B) → Summary B
thenˢ (fits a q b k) f = more b k (f a q)
thenˢ (fails b k) f = fails b k

abbrev pub elseˢ : {A : Type 0} → Summary A → (Unit {0} → Summary A) → Summary A
elseˢ (fits a q b k) f = fits a q b k
elseˢ (fails b k) f = more b k (f tt)

abbrev pub withˢ : {A B : Type 0} → (A → B) → Summary A → Summary B
withˢ f (fits a q b k) = fits (f a) q b k
withˢ f (fails b k) = fails b k

abbrev pub turnedˢ : {A : Type 0} → Input → Summary A → Summary Rows
turnedˢ p (fits a q b k) = fails b k
turnedˢ p (fails b k) = fits [] p b k

abbrev pub gateˢ : {A : Type 0} → Bool → (Unit {0} → Summary A) → Summary A
gateˢ true f = f tt
gateˢ false f = fails false 0

abbrev pub last_roundˢ : {A : Type 0} → Input → Summary A → Summary (List A)
last_roundˢ p (fits a q b k) = fails b k
last_roundˢ p (fails b k) = fits [] p b k

abbrev pub next_roundˢ : {A : Type 0} → Input → Summary A → (Input → Summary (List A)) → Summary (List A)
next_roundˢ p (fits a q b k) f = more b k (gateˢ (ltb p.at q.at) λ t. thenˢ (f q) λ rest r. fits (a ∷ rest) r false 0)
next_roundˢ p (fails b k) f = fits [] p b k

abbrev pub Scan : Type 0 → Type 0
Scan A = ℕ → Input → Summary A

abbrev pub roundsˢ : {A : Type 0} → Scan A → List ℕ → Scan (List A)
roundsˢ m [] = λ l p. last_roundˢ p (m l p)
roundsˢ m (b ∷ f) = λ l p. next_roundˢ p (m l p) λ q. roundsˢ m f l q

abbrev pub takeˢ : Option ℕ → Input → Summary Rows
takeˢ none p = fails false 0
takeˢ (some n) p = fits [] (behind n p) false 0

abbrev pub locatedˢ : ℕ → (Rows → ℕ) → Input → Summary Rows → (Input → Summary Rows) → Summary Rows
locatedˢ k d p s f = thenˢ s λ _ q. thenˢ (f q) λ a r. fits (under k (d a) p.at q.at r.at a) r false 0

abbrev pub char_atˢ : ℕ → Input → Summary Rows → Summary Rows
char_atˢ c p s = locatedˢ charᵏ (always c) p s λ q. takeˢ (one_of (is c) q.left) q

abbrev pub pickedˢ : ℕ → ℕ → ℕ → Option ℕ → Input → Summary Rows → Summary Rows
pickedˢ k t d none p s = s
pickedˢ k t d (some n) p s = fits (record { kind = k; size = 1; tlow = t; low = p.at; high = p.at + n; detail = d } ∷ []) (behind n p) false 0

abbrev pub pick_wordˢ : ℕ → ℕ → List (Leaf × ℕ) → Input → Summary Rows
pick_wordˢ k t [] p = fails false 0
pick_wordˢ k t (x ∷ xs) p = pickedˢ k t x.1 (taken x.0 p.left) p (pick_wordˢ k t xs p)

-- parse, over summaries; what reports or numbers anything has none
abbrev pub scan : (Rule → Scan Rows) → Parser → Scan Rows
scan τ empty = λ l p. fits [] p false 0
scan τ (m ▸ n) = λ l p. thenˢ (scan τ m l p) λ a q. withˢ (a ++◌) (scan τ n l q)
scan τ (m or n) = λ l p. elseˢ (scan τ m l p) λ t. scan τ n l p
scan τ (never m) = λ l p. turnedˢ p (scan τ m l p)
scan τ (many0 m) = λ l p. withˢ joined (roundsˢ (scan τ m) p.left l p)
scan τ (leaf f) = λ l p. takeˢ (taken f p.left) p
scan τ (rule x) = τ x
scan τ unterminated = λ l p. fits [] (to_end p) true 0
scan τ (node k d t m) = λ l p. locatedˢ k d p (scan τ t l p) λ q. scan τ m l q
scan τ (pick k t xs) = λ l p. thenˢ (scan τ t l p) λ _ q. pick_wordˢ k p.at xs q
scan τ (over k d m n) = λ l p. thenˢ (scan τ m l p) λ a q. thenˢ (scan τ n l q) λ b r. fits (under k d p.at (first_low a) r.at (a ++ b)) r false 0
scan τ (scoped k m n) = λ l p. fails false 0
scan τ (import m n s b) = λ l p. fails false 0
scan τ (argument t m) = λ l p. thenˢ (scan τ t l p) λ _ q. thenˢ (scan τ m l q) λ a r. fits (placed p.at q.at r.at a) r false 0
scan τ (chain o m) = λ l p. thenˢ (scan τ m l p) λ a q.
    withˢ (folded a) (roundsˢ (λ l p. thenˢ (scan τ o l p) λ b q. withˢ (b ++◌) (scan τ m l q)) q.left l q)
scan τ (bracket t c m) = λ l p. thenˢ (char_atˢ c p (scan τ t l p)) λ a q. more false (suc l) (withˢ (a ++◌) (scan τ m (suc l) q))
scan τ (braced t m) = λ l p. fails false 0
scan τ (complain m) = λ l p. fails false 0
scan τ (expect c m) = λ l p. fails false 0

-- the rules, with fuel as in Reading
abbrev pub scans : ℕ → Rule → Scan Rows
scans zero k = λ l p. fails false 0
scans (suc n) k = scan (scans n) (rule_of k)
