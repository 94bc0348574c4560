-- The flags of a factor: 1 for the row of a `!`, 2 for that of a `-`. What stands behind the signs begins with no such row: a test that antt computes.
use mathlib.Core.Path.{◌≡◌, refl, ap, ap₂, sym, ◌∙◌}
use mathlib.Core.Bool.{Bool, true, false, ◌&&◌, ◌||◌, not}
use mathlib.Core.List.{List, [], ◌∷◌, ◌++◌}
use mathlib.Core.Option.{Option, none, some}
use Prim.Native.Nat.{ℕ, suc, ◌+◌, ◌*◌}
use lib.Dec.{T, ltb}
use lib.ListN.{length}
use Rattle.reading.specs.Byte.{is}
use Rattle.reading.specs.Kind.{charᵏ}
use Rattle.reading.specs.Grammar.{Row, Rows, Input, Rule, Leaf, Parser, empty, ◌▸◌, ◌or◌, never, many0, leaf, rule, unterminated, node, pick, over, scoped, import, argument, chain, bracket, braced, complain, expect}
use Rattle.reading.specs.Grammar.{joined, under, first_low, one_of, taken, always}
use Rattle.reading.specs.Rules.{all_rules, opt, flags, minus, trivia, expression_factor_inner}
use Rattle.reading.specs.Summary.{Summary, fits, fails, elseˢ, turnedˢ, last_roundˢ, gateˢ, next_roundˢ, thenˢ, Scan, roundsˢ, takeˢ, char_atˢ, pickedˢ, pick_wordˢ, scan}
use Rattle.reading.proofs.Bool.{and_left, and_right}
use Rattle.reading.proofs.Summaries.{Yields, anything, more_yields, then_yields, with_yields}
use Rattle.lexis.specs.Spaced.{spaced}

-- Rows -----------------------------------------------------------------------

-- a row of this kind and detail is no sign
abbrev plain : ℕ → ℕ → Bool
plain k d = not (is charᵏ k && (is 33 d || is 45 d))

-- the first row, if there is one, is no sign
abbrev pub Head : Rows → Type 0
Head [] = Unit {0}
Head (r ∷ v) = T (plain r.kind r.detail)

-- nothing, or the row of this character
abbrev pub Sign : ℕ → Rows → Type 0
Sign c [] = Unit {0}
Sign c (r ∷ []) = (r.kind ≡ charᵏ) × (r.detail ≡ c)
Sign c (r ∷ (s ∷ v)) = ⊥

-- `flags` and `minus` of a first row whose kind is a character's or not, `!` or not, `-` or not
abbrev both : Bool → Bool → Bool
both x y = elim x [ true ↦ y | false ↦ false ]

abbrev minus_if : Bool → ℕ
minus_if x = elim x [ true ↦ 2 | false ↦ 0 ]

plain_minus : (x y z : Bool) → T (not (x && (y || z))) → minus_if (both x z) ≡ 0
plain_minus false y z t = refl
plain_minus true true z t = absurd t
plain_minus true false true t = absurd t
plain_minus true false false t = refl

plain_not : (x y z : Bool) → T (not (x && (y || z))) → both x y ≡ false
plain_not false y z t = refl
plain_not true true z t = absurd t
plain_not true false z t = refl

minus_none : (v : Rows) → Head v → minus v ≡ 0
minus_none [] h = refl
minus_none (r ∷ v) h = plain_minus (is charᵏ r.kind) (is 33 r.detail) (is 45 r.detail) h

pub flags_none : (v : Rows) → Head v → flags v ≡ 0
flags_none [] h = refl
flags_none (r ∷ v) h =
    ap (λ (b : Bool). elim b [ true ↦ 1 + minus v | false ↦ minus (r ∷ v) ]) (plain_not (is charᵏ r.kind) (is 33 r.detail) (is 45 r.detail) h)
    ∙ minus_none (r ∷ v) h

flags_of : (r : Row) (v : Rows) (k d : ℕ) → r.kind ≡ k → r.detail ≡ d
    → flags (r ∷ v) ≡ elim (both (is charᵏ k) (is 33 d)) [ true ↦ 1 + minus v | false ↦ minus_if (both (is charᵏ k) (is 45 d)) ]
flags_of r v k d e f =
    ap₂ (λ (k d : ℕ). elim (both (is charᵏ k) (is 33 d)) [ true ↦ 1 + minus v | false ↦ minus_if (both (is charᵏ k) (is 45 d)) ]) e f

minus_of : (r : Row) (v : Rows) (k d : ℕ) → r.kind ≡ k → r.detail ≡ d → minus (r ∷ v) ≡ minus_if (both (is charᵏ k) (is 45 d))
minus_of r v k d e f = ap₂ (λ (k d : ℕ). minus_if (both (is charᵏ k) (is 45 d))) e f

-- the signs in front of what is plain
pub flags_signed : (a b v : Rows) → Sign 33 a → Sign 45 b → Head v → length a + 2 * length b ≡ flags (a ++ (b ++ v))
flags_signed [] [] v x y h = sym (flags_none v h)
flags_signed [] (r ∷ []) v x y h = sym (flags_of r v charᵏ 45 y.0 y.1)
flags_signed [] (r ∷ (s ∷ b)) v x y h = absurd y
flags_signed (r ∷ []) [] v x y h = sym (flags_of r v charᵏ 33 x.0 x.1 ∙ ap (1 +◌) (minus_none v h))
flags_signed (r ∷ []) (s ∷ []) v x y h = sym (flags_of r (s ∷ v) charᵏ 33 x.0 x.1 ∙ ap (1 +◌) (minus_of s v charᵏ 45 y.0 y.1))
flags_signed (r ∷ []) (s ∷ (u ∷ b)) v x y h = absurd y
flags_signed (r ∷ (s ∷ a)) b v x y h = absurd x

-- Parsers --------------------------------------------------------------------

-- the first row, if there is one, is no sign: what an expression's factor is made of
abbrev headed : Parser → Bool
headed empty = true
headed (m ▸ n) = headed m && headed n
headed (m or n) = headed m && headed n
headed (never m) = true
headed (many0 m) = headed m
headed (leaf f) = true
headed (rule x) = false
headed unterminated = true
headed (node k d t m) = headed m && plain k (d [])
headed (pick k t xs) = not (is charᵏ k)
headed (over k d m n) = headed m && (headed n && plain k d)
headed (scoped k m n) = false
headed (import m n s b) = false
headed (argument t m) = false
headed (chain o m) = false
headed (bracket t c m) = plain charᵏ c
headed (braced t m) = false
headed (complain m) = false
headed (expect c m) = false

head_append : (a b : Rows) → Head a → Head b → Head (a ++ b)
head_append [] b h k = k
head_append (x ∷ a) b h k = h

head_under : (k t a z : ℕ) (d : Rows → ℕ) (v : Rows) → T (plain k (d [])) → Head v → Head (under k (d v) t a z v)
head_under k t a z d [] h g = h
head_under k t a z d (r ∷ v) h g = g

-- the same of a summary
abbrev Headed : Summary Rows → Type 0
Headed = Yields (λ v q. Head v)

else_yields : {P : Rows → Input → Type 0} (o : Summary Rows) (f : Unit {0} → Summary Rows) → Yields P o → Yields P (f tt) → Yields P (elseˢ o f)
else_yields (fits v q b k) f g h = g
else_yields (fails b k) f g h = more_yields b k h

take_head : (o : Option ℕ) (p : Input) → Headed (takeˢ o p)
take_head none p = record { holds = tt }
take_head (some n) p = record { holds = tt }

not_char : (x y : Bool) → T (not x) → T (not (x && y))
not_char true y t = absurd t
not_char false y t = tt

pick_head : (k t : ℕ) (xs : List (Leaf × ℕ)) (p : Input) → T (not (is charᵏ k)) → Headed (pick_wordˢ k t xs p)
pick_head k t [] p h = record { holds = tt }
pick_head k t (x ∷ xs) p h = go (taken x.0 p.left) (pick_head k t xs p h)
  where
    go : (o : Option ℕ) → Headed (pick_wordˢ k t xs p) → Headed (pickedˢ k t x.1 o p (pick_wordˢ k t xs p))
    go none g = g
    go (some n) g = record { holds = not_char (is charᵏ k) (is 33 x.1 || is 45 x.1) h }

abbrev Heads : Summary (List Rows) → Type 0
Heads = Yields (λ vs q. Head (joined vs))

last_head : (p : Input) (o : Summary Rows) → Heads (last_roundˢ p o)
last_head p (fits v q b k) = record { holds = tt }
last_head p (fails b k) = record { holds = tt }

gate_head : (b : Bool) (o : Summary (List Rows)) → Heads o → Heads (gateˢ b λ t. o)
gate_head true o g = g
gate_head false o g = record { holds = tt }

next_head : (p : Input) (o : Summary Rows) (f : Input → Summary (List Rows)) → Headed o → ((q : Input) → Heads (f q)) → Heads (next_roundˢ p o f)
next_head p (fits v q b k) f g h =
    more_yields b k (gate_head (ltb p.at q.at) (thenˢ (f q) λ vs r. fits (v ∷ vs) r false 0)
    (then_yields (h q) λ vs r i. record { holds = head_append v (joined vs) g.holds i }))
next_head p (fails b k) f g h = record { holds = tt }

module _ (n : Scan Rows) (l : ℕ) (h : (p : Input) → Headed (n l p)) where
  rounds_head : (f : List ℕ) (p : Input) → Heads (roundsˢ n f l p)
  rounds_head [] p = last_head p (n l p)
  rounds_head (x ∷ f) p = next_head p (n l p) (λ q. roundsˢ n f l q) (h p) λ q. rounds_head f q

-- the row of an opening character
abbrev Opening : Rows → Type 0
Opening [] = ⊥
Opening (r ∷ v) = T (plain r.kind r.detail)

opened : (a b : Rows) → Opening a → Head (a ++ b)
opened [] b h = absurd h
opened (r ∷ a) b h = h

opening : (c : ℕ) (o : Summary Rows) (p : Input) → T (plain charᵏ c) → Yields (λ v q. Opening v) (char_atˢ c p o)
opening c o p u =
    then_yields (anything o) λ _ q _. then_yields (take_head (one_of (is c) q.left) q) λ v r g. record { holds = row v p.at q.at r.at g }
  where
    row : (v : Rows) (i j k : ℕ) → Head v → Opening (under charᵏ c i j k v)
    row [] i j k g = u
    row (r ∷ v) i j k g = g

inner_headed : T (headed expression_factor_inner)
unfolding all_rules
inner_headed = tt

module _ (τ : Rule → Scan Rows) where
  head : (m : Parser) → T (headed m) → (l : ℕ) (p : Input) → Headed (scan τ m l p)
  head empty u l p = record { holds = tt }
  head (m ▸ n) u l p =
      then_yields (head m (and_left (headed m) (headed n) u) l p) λ a q h.
      with_yields (a ++◌) (head n (and_right (headed m) (headed n) u) l q) λ b r g. head_append a b h g
  head (m or n) u l p =
      else_yields (scan τ m l p) (λ t. scan τ n l p) (head m (and_left (headed m) (headed n) u) l p) (head n (and_right (headed m) (headed n) u) l p)
  head (never m) u l p = go (scan τ m l p)
    where
      go : (o : Summary Rows) → Headed (turnedˢ p o)
      go (fits v q b k) = record { holds = tt }
      go (fails b k) = record { holds = tt }
  head (many0 m) u l p = with_yields joined (rounds_head (scan τ m) l (head m u l) p.left p) λ vs q h. h
  head (leaf f) u l p = take_head (taken f p.left) p
  head (rule x) u l p = absurd u
  head unterminated u l p = record { holds = tt }
  head (node k d t m) u l p =
      then_yields (anything (scan τ t l p)) λ _ q _. then_yields (head m (and_left (headed m) (plain k (d [])) u) l q)
      λ v r h. record { holds = head_under k p.at q.at r.at d v (and_right (headed m) (plain k (d [])) u) h }
  head (pick k t xs) u l p = then_yields (anything (scan τ t l p)) λ _ q _. pick_head k p.at xs q u
  head (over k d m n) u l p =
      then_yields (head m (and_left (headed m) (headed n && plain k d) u) l p) λ a q h.
      then_yields (head n (and_left (headed n) (plain k d) (and_right (headed m) (headed n && plain k d) u)) l q) λ b r g.
      record {
        holds = head_under k p.at (first_low a) r.at (always d) (a ++ b) (and_right (headed n) (plain k d) (and_right (headed m) (headed n && plain k d) u))
            (head_append a b h g);
      }
  head (scoped k m n) u l p = absurd u
  head (import m n s b) u l p = absurd u
  head (argument t m) u l p = absurd u
  head (chain o m) u l p = absurd u
  head (bracket t c m) u l p =
      then_yields (opening c (scan τ t l p) p u) λ a q h. more_yields false (suc l) (with_yields (a ++◌) (anything (scan τ m (suc l) q)) λ b r _. opened a b h)
  head (braced t m) u l p = absurd u
  head (complain m) u l p = absurd u
  head (expect c m) u l p = absurd u

  pub inner_head : (l : ℕ) (p : Input) → Yields (λ v q. Head v) (scan τ expression_factor_inner l p)
  inner_head l p = head expression_factor_inner inner_headed l p

  -- a sign, or nothing
  pub sign_row : (c l : ℕ) (p : Input) → Yields (λ v q. Sign c v) (scan τ (opt (spaced c)) l p)
  sign_row c l p =
      else_yields (scan τ (spaced c) l p) (λ t. fits [] p false 0) (then_yields (anything (scan τ trivia l p)) λ _ q _. go q (one_of (is c) q.left))
      (record { holds = tt })
    where
      go : (q : Input) (o : Option ℕ) → Yields (λ v q. Sign c v) (thenˢ (takeˢ o q) λ v r. fits (under charᵏ c p.at q.at r.at v) r false 0)
      go q none = record { holds = tt }
      go q (some n) = record { holds = (refl, refl) }
