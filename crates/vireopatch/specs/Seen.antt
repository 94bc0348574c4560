-- What a caller in C or Rust sees of a call: the number returned, the numbers behind the pointers, and the tables. Each is a function of what
-- crate reading, or for shares crate share, defines for that call. Crate parser has that of reading a text, since its call means the same.
use Rattle.std.specs.Prelude.{cond, List, ℕ, eqb}
use Rattle.std.proofs.Math.Option.{Option, none, some}
use Rattle.reading.specs.Table.{Answer, answered, refused}
use Rattle.reading.specs.Number.{Base, number_value}
use Rattle.reading.specs.Items.{Listed}
use Rattle.reading.specs.Walk.{Subtree}
use Rattle.share.specs.Shares.{Shares}
use Rattle.share.specs.Words.{Text, Told}
pub use Rattle.parser.specs.Seen.{code_of, given_of, counts_of, Seen, seen}
unfoldable pub use Rattle.parser.specs.Seen.{exported}
unfoldable pub use Rattle.number.specs.Answers.{base_numbered}

-- Number text to value ------------------------------------------------------

-- of an unknown base there are no digits, and no words either: every text is refused with 10, giving 0
unfoldable pub value_in : Option Base → List ℕ → Answer ℕ
value_in none t = refused 10 0
value_in (some x) t = number_value x t

pub record SeenValue : Type 0 where
  pub code : ℕ
  pub value : ℕ

abbrev pub seen_value : ℕ → ℕ → SeenValue
seen_value r v = record { code = r; value = v }

-- a refusal has the value 0, which is what it gives
abbrev pub value_of : Answer ℕ → ℕ
value_of (answered v) = v
value_of (refused n g) = g

unfoldable pub exported_value : Answer ℕ → SeenValue
exported_value a = record { code = code_of a; value = value_of a }

-- The items of a trivia run -------------------------------------------------

pub record SeenItems : Type 0 where
  pub code : ℕ
  pub table : List ℕ
  pub count : ℕ
  pub given : ℕ

abbrev pub seen_items : ℕ → List ℕ → ℕ → ℕ → SeenItems
seen_items r t n g = record { code = r; table = t; count = n; given = g }

-- a refusal has no items
abbrev pub count_of : Answer ℕ → ℕ
count_of (answered n) = n
count_of (refused n g) = 0

unfoldable pub exported_items : Listed → SeenItems
exported_items x = record { code = code_of x.answer; table = x.table; count = count_of x.answer; given = given_of x.answer }

-- Walking a row table -------------------------------------------------------

pub record SeenWalk : Type 0 where
  pub code : ℕ
  pub root : ℕ
  pub before : ℕ
  pub given : ℕ

abbrev pub seen_walk : ℕ → ℕ → ℕ → ℕ → SeenWalk
seen_walk r x b g = record { code = r; root = x; before = b; given = g }

-- a refusal has no subtree
abbrev pub subtree_of : Answer Subtree → Subtree
subtree_of (answered x) = x
subtree_of (refused n g) = record { root = 0; before = 0 }

unfoldable pub exported_walk : Answer Subtree → SeenWalk
exported_walk a = record { code = code_of a; root = (subtree_of a).root; before = (subtree_of a).before; given = given_of a }

-- Shares of trivia ----------------------------------------------------------

-- what a caller takes the numbers for
abbrev pub taken_for : {A : Type 0} → ℕ → ℕ → A → Answer A
taken_for code given x = cond (eqb code 0) (answered x) (refused code given)

pub record SeenShares : Type 0 where
  pub code : ℕ
  pub numerator : ℕ
  pub denominator : ℕ
  pub count : ℕ
  pub first : ℕ
  pub second : ℕ
  pub third : ℕ
  pub given : ℕ

abbrev pub seen_shares : ℕ → ℕ → ℕ → ℕ → ℕ → ℕ → ℕ → ℕ → SeenShares
seen_shares r p q n a b c g = record { code = r; numerator = p; denominator = q; count = n; first = a; second = b; third = c; given = g }

-- a refusal has zeros for all of them
abbrev pub shares_of : Answer Shares → Shares
shares_of (answered x) = x
shares_of (refused n g) = record { numerator = 0; denominator = 0; count = 0; first = 0; second = 0; third = 0 }

unfoldable pub exported_shares : Answer Shares → SeenShares
exported_shares a =
    record {
      code = code_of a;
      numerator = (shares_of a).numerator;
      denominator = (shares_of a).denominator;
      count = (shares_of a).count;
      first = (shares_of a).first;
      second = (shares_of a).second;
      third = (shares_of a).third;
      given = given_of a;
    }

abbrev pub answer_seen : SeenShares → Answer Shares
answer_seen x =
    taken_for x.code x.given
    (record {
      numerator = x.numerator;
      denominator = x.denominator;
      count = x.count;
      first = x.first;
      second = x.second;
      third = x.third;
    })

-- The two words of a text ---------------------------------------------------

pub record SeenWords : Type 0 where
  pub code : ℕ
  pub roots : List ℕ
  pub trivia : ℕ
  pub length : ℕ
  pub given : ℕ

abbrev pub seen_words : ℕ → List ℕ → ℕ → ℕ → ℕ → SeenWords
seen_words r t a l g = record { code = r; roots = t; trivia = a; length = l; given = g }

-- a refusal has no words
abbrev pub text_of : Answer Text → Text
text_of (answered x) = x
text_of (refused n g) = record { trivia = 0; length = 0 }

unfoldable pub exported_words : Told → SeenWords
exported_words x =
    record {
      code = code_of x.answer;
      roots = x.table;
      trivia = (text_of x.answer).trivia;
      length = (text_of x.answer).length;
      given = given_of x.answer;
    }

abbrev pub text_seen : SeenWords → Answer Text
text_seen x = taken_for x.code x.given (record { trivia = x.trivia; length = x.length })
