-- How much of a list of texts is trivia, and which texts have most of it: document 02, F-14.
use Rattle.std.specs.Prelude.{Bool, not, ◌&&◌, ◌||◌, cond, List, [], ◌∷◌, ℕ, zero, suc, ◌+◌, ◌*◌, ◌/◌, ◌%◌, max, ltb, eqb, length, take, get_or}
use Rattle.std.proofs.Math.Option.{Option, none, some}
use Rattle.reading.specs.Table.{Answer, answered, refused, Test, when, found, first, max_text, room}

-- The texts -------------------------------------------------------------------

abbrev pub max_texts : ℕ
max_texts = 1000

-- two words a text, its trivia bytes and its length
abbrev pub text_width : ℕ
text_width = 2

-- an unpaired last word is ignored
abbrev pub texts : List ℕ → ℕ
texts w = room text_width w

-- the texts are numbered from 0
abbrev pub word_of : List ℕ → ℕ → ℕ → ℕ
word_of w c i = get_or w (i * text_width + c) 0

abbrev pub trivia_of : List ℕ → ℕ → ℕ
trivia_of w = word_of w 0

abbrev pub length_of : List ℕ → ℕ → ℕ
length_of w = word_of w 1

-- refusal 28: trivia above length, or length above 65,536
abbrev pub wrong : ℕ → ℕ → Bool
wrong t l = ltb l t || ltb max_text l

-- the first of the first n texts that is wrong
abbrev pub or_else : Option ℕ → Option ℕ → Option ℕ
or_else none x = x
or_else (some i) x = some i

unfoldable pub first_wrong : List ℕ → ℕ → Option ℕ
first_wrong w zero = none
first_wrong w (suc n) = or_else (first_wrong w n) (cond (wrong (trivia_of w n) (length_of w n)) (some n) none)

-- The pooled share ------------------------------------------------------------

-- f 0 + f 1 + .. , n of them
unfoldable pub sum : (ℕ → ℕ) → ℕ → ℕ
sum f zero = 0
sum f (suc n) = sum f n + f n

abbrev pub divides : ℕ → ℕ → Bool
divides d n = eqb (n % d) 0

-- the greatest number up to k that divides both
unfoldable pub greatest : ℕ → ℕ → ℕ → ℕ
greatest zero a b = zero
greatest (suc k) a b = cond (divides (suc k) a && divides (suc k) b) (suc k) (greatest k a b)

-- the greatest common divisor, if a is not 0: none is above a
abbrev pub gcd : ℕ → ℕ → ℕ
gcd a b = greatest a a b

pub record Fraction : Type 0 where
  pub numerator : ℕ
  pub denominator : ℕ

-- so much trivia of so many bytes
unfoldable pub share : ℕ → ℕ → Fraction
share a b =
    cond (eqb a 0 || eqb b 0) (record { numerator = 0; denominator = 1 })
    (record { numerator = a / gcd a b; denominator = b / gcd a b })

-- The largest shares ----------------------------------------------------------

-- a share is trivia over length; a text of no bytes has 0 over 1
abbrev pub over : List ℕ → ℕ → ℕ
over w i = max 1 (length_of w i)

-- text i has a larger share than text j
unfoldable pub larger : List ℕ → ℕ → ℕ → Bool
larger w i j = ltb (trivia_of w j * over w i) (trivia_of w i * over w j)

-- text i comes before text j: a larger share, or the same and an earlier index
unfoldable pub ahead : List ℕ → ℕ → ℕ → Bool
ahead w i j = larger w i j || (not (larger w j i) && ltb i j)

-- i among texts that stand in order
unfoldable pub placed : List ℕ → ℕ → List ℕ → List ℕ
placed w i [] = i ∷ []
placed w i (j ∷ js) = cond (ahead w i j) (i ∷ j ∷ js) (j ∷ placed w i js)

-- the first n texts in order
unfoldable pub ranked : List ℕ → ℕ → List ℕ
ranked w zero = []
ranked w (suc n) = placed w n (ranked w n)

-- The call --------------------------------------------------------------------

-- the pooled share, how many of the largest there are, and their indexes; absent ones are 0
pub record Shares : Type 0 where
  pub numerator : ℕ
  pub denominator : ℕ
  pub count : ℕ
  pub first : ℕ
  pub second : ℕ
  pub third : ℕ

abbrev pub result : Fraction → List ℕ → Shares
result x is =
    record {
      numerator = x.numerator;
      denominator = x.denominator;
      count = length is;
      first = get_or is 0 0;
      second = get_or is 1 0;
      third = get_or is 2 0;
    }

-- the pooled share of all texts
abbrev pub pooled : List ℕ → Fraction
pooled w = share (sum (trivia_of w) (texts w)) (sum (length_of w) (texts w))

-- the texts with the largest shares: three, or all if there are fewer
abbrev pub largest : List ℕ → List ℕ
largest w = take 3 (ranked w (texts w))

-- 27, then 28
abbrev pub refusal : List ℕ → Test
refusal w = first (when (ltb max_texts (texts w)) 27 (texts w) ∷ found (first_wrong w (texts w)) 28 ∷ [])

abbrev pub unless : {A : Type 0} → Test → A → Answer A
unless none x = answered x
unless (some r) x = refused r.0 r.1

unfoldable pub shares : List ℕ → Answer Shares
shares w = unless (refusal w) (result (pooled w) (largest w))
