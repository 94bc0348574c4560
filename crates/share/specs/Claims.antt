-- Document 02, F-14, on a page: what an answer says about the texts, and when there is none. `Claimed` is proved of every outcome of `share::shares`
-- (proofs/Claims) and of `vireopatch_shares` (proofs/Claims of crate vireopatch); `Taken`, at the end, of `share::text_words` (proofs/Words) and
-- `vireopatch_text_words`.
use Rattle.std.specs.Prelude.{◌≡◌, true, false, List, [], ◌∷◌, ℕ, ◌*◌, ◌≤◌, ◌<◌, min, length, take}
use Rattle.std.specs.Int.{◌∣◌}
use Rattle.reading.specs.Table.{Answer, answered, refused}
use Rattle.share.specs.Shares.{Shares, max_texts, texts, trivia_of, length_of, wrong, sum, larger, ahead}
use Rattle.share.specs.Words.{Text}

-- The pooled share ------------------------------------------------------------

abbrev pub all_trivia : List ℕ → ℕ
all_trivia w = sum (trivia_of w) (texts w)

abbrev pub all_bytes : List ℕ → ℕ
all_bytes w = sum (length_of w) (texts w)

-- "in lowest terms": nothing but 1 divides both
abbrev pub Lowest : ℕ → ℕ → Type 0
Lowest p q = (d : ℕ) → d ∣ p → d ∣ q → d ≡ 1

-- p over q is so much trivia of so many bytes
abbrev pub Equal : List ℕ → ℕ → ℕ → Type 0
Equal w p q = p * all_bytes w ≡ all_trivia w * q

-- Texts in order --------------------------------------------------------------

-- each of them
pub data All (P : ℕ → Type 0) : List ℕ → Type 0 where
  nothing : All P []
  another : {j : ℕ} {js : List ℕ} → P j → All P js → All P (j ∷ js)

-- each comes before all that stand behind it
pub data Ordered (w : List ℕ) : List ℕ → Type 0 where
  none : Ordered w []
  more : {j : ℕ} {js : List ℕ} → All (λ k. ahead w j k ≡ true) js → Ordered w js → Ordered w (j ∷ js)

-- i is none of them
abbrev pub Out : ℕ → List ℕ → Type 0
Out i js = All (λ j. j ≡ i → ⊥) js

-- the indexes that an answer lists
abbrev pub listed : Shares → List ℕ
listed s = take s.count (s.first ∷ s.second ∷ s.third ∷ [])

-- An answer -------------------------------------------------------------------

pub record Answered (w : List ℕ) (s : Shares) : Type 0 where
  -- neither 27 nor 28 applies
  pub few : texts w ≤ max_texts
  pub right : (i : ℕ) → i < texts w → wrong (trivia_of w i) (length_of w i) ≡ false
  -- "the pooled share as a fraction in lowest terms"
  pub equal : Equal w s.numerator s.denominator
  pub lowest : Lowest s.numerator s.denominator
  -- there is no other
  pub only : 0 < all_bytes w → (p q : ℕ) → Equal w p q → Lowest p q → (p ≡ s.numerator) × (q ≡ s.denominator)
  -- "a pool of no bytes is 0 over 1"
  pub no_bytes : all_bytes w ≡ 0 → (s.numerator ≡ 0) × (s.denominator ≡ 1)
  -- "the three texts (all, if fewer)"; absent ones are 0
  pub count : s.count ≡ min 3 (texts w)
  pub indexes : All (λ i. i < texts w) (listed s)
  pub no_first : s.count ≤ 0 → s.first ≡ 0
  pub no_second : s.count ≤ 1 → s.second ≡ 0
  pub no_third : s.count ≤ 2 → s.third ≡ 0
  -- "with the largest shares, largest first, equal shares by earlier index"
  pub ordered : Ordered w (listed s)
  -- a text that is left out comes behind each of them, and so has no larger share
  pub behind : (i : ℕ) → i < texts w → Out i (listed s) → All (λ j. ahead w j i ≡ true) (listed s)
  pub no_larger : (i : ℕ) → i < texts w → Out i (listed s) → All (λ j. larger w i j ≡ false) (listed s)

-- A refusal -------------------------------------------------------------------

-- "27 for more than 1,000 texts, giving their number, then 28 for trivia above length or length above 65,536, giving the first index"
pub data Refused (w : List ℕ) : ℕ → ℕ → Type 0 where
  too_many : max_texts < texts w → Refused w 27 (texts w)
  wrong_text : {i : ℕ} → texts w ≤ max_texts → i < texts w → wrong (trivia_of w i) (length_of w i) ≡ true
      → ((j : ℕ) → j < i → wrong (trivia_of w j) (length_of w j) ≡ false) → Refused w 28 i

-- An outcome ------------------------------------------------------------------

abbrev pub Claimed : List ℕ → Answer Shares → Type 0
Claimed w (answered s) = Answered w s
Claimed w (refused k g) = Refused w k g

-- The two words of a text -----------------------------------------------------

-- 13; 6, giving more than the table of roots has words and no more than there are rows, so a word for each row is enough; 28, giving 0
pub data NoWords (count : ℕ) (roots : List ℕ) : ℕ → ℕ → Type 0 where
  no_subtree : {g : ℕ} → NoWords count roots 13 g
  no_room : {g : ℕ} → length roots < g → g ≤ count → NoWords count roots 6 g
  wrong_words : NoWords count roots 28 0

-- what is answered is not refused with 28 in a list
abbrev pub Taken : ℕ → List ℕ → Answer Text → Type 0
Taken count roots (answered x) = wrong x.trivia x.length ≡ false
Taken count roots (refused k g) = NoWords count roots k g
