-- Demand 3, on a page. "Room: an answer given in smaller limits is given in larger ones, word for word; a refusal for rows, errors or requests
-- names the need, which is how many that reading has, whatever the limits, and comes exactly when the room is less." `Demand3`, at the end, says
-- it of any two calls that read a text, whatever their tables hold: `a` and `b` are what is lent to them, `x` and `y` what their callers see
-- afterwards. proofs/Demand proves it of `parser::read`, and proofs/Demand of crate vireopatch of `vireopatch_read`.
use Rattle.std.specs.Prelude.{◌≡◌, ◌↔◌, ◌⊎◌, List, ℕ, ◌*◌, ◌-◌, ◌≤◌, ◌<◌, length, take, drop}
use Rattle.std.proofs.Math.Option.{none}
use Rattle.reading.specs.Reading.{rows_of, state_of}
use Rattle.reading.specs.Table.{max_text, max_scope, max_level, first_high, row_width, error_width, request_width, room, zeros}
use Rattle.reading.specs.Outcome.{Call, reading}
use Rattle.parser.specs.Seen.{Seen}

-- The three kinds of records -------------------------------------------------

pub data Kind : Type 0 where
  rows errors requests : Kind

-- the refusal for want of room
abbrev pub number : Kind → ℕ
number rows = 6
number errors = 7
number requests = 8

-- the words of a record
abbrev pub width : Kind → ℕ
width rows = row_width
width errors = error_width
width requests = request_width

-- the table that is lent, and its room, which is a limit of the call; its level limit is the fourth
abbrev pub lent : Kind → Call → List ℕ
lent rows c = c.rows
lent errors c = c.errors
lent requests c = c.requests

abbrev pub room_of : Kind → Call → ℕ
room_of k c = room (width k) (lent k c)

-- the need: how many the written reading of this text from this starting state has. It is `needs` of crate reading, kind by kind, written out
-- so that this page shows what is counted and that no limit occurs in it.
abbrev pub need : Kind → Call → ℕ
need rows c = length (rows_of (reading c))
need errors c = length (state_of (reading c)).errors
need requests c = length (state_of (reading c)).requests

-- what the caller sees of a kind: the count, and the table
abbrev pub count : Kind → Seen → ℕ
count rows x = x.row_count
count errors x = x.error_count
count requests x = x.request_count

abbrev pub table : Kind → Seen → List ℕ
table rows x = x.rows
table errors x = x.errors
table requests x = x.requests

abbrev pub Answered : Seen → Type 0
Answered x = x.code ≡ 0

abbrev pub Refused : Kind → Seen → Type 0
Refused k x = x.code ≡ number k

-- One call ---------------------------------------------------------------------

-- none of 1 to 5 applies
pub record Readable (c : Call) : Type 0 where
  pub short : length c.text ≤ max_text
  pub plain : first_high 0 c.text ≡ none
  pub scope : c.scope ≤ max_scope
  pub level : c.level ≤ max_level
  pub deep : (state_of (reading c)).peak ≤ c.level

abbrev pub Enough : Kind → Call → Type 0
Enough k c = need k c ≤ room_of k c

abbrev pub Short : Kind → Call → Type 0
Short k c = room_of k c < need k c

-- there is room for the kinds that are tested before this one
abbrev pub Before : Kind → Call → Type 0
Before rows c = Unit {0}
Before errors c = Enough rows c
Before requests c = Enough rows c × Enough errors c

pub record Lacks (k : Kind) (c : Call) : Type 0 where
  pub readable : Readable c
  pub before : Before k c
  pub short : Short k c

pub record OneCall (c : Call) (x : Seen) : Type 0 where
  -- "A refusal for rows, errors or requests names the need, which is how many that reading has ..
  pub named : (k : Kind) → Refused k x → x.given ≡ need k c
  -- .. and comes exactly when the room is less", where nothing before it is refused
  pub exact : (k : Kind) → Refused k x ↔ Lacks k c
  -- "A call that meets none is answered", and has as many records as are needed
  pub answers : Answered x ↔ (Readable c × ((k : Kind) → Enough k c))
  pub counts : Answered x → (k : Kind) → count k x ≡ need k c

-- Two calls on one text and starting state ------------------------------------

pub record SameText (a b : Call) : Type 0 where
  pub text : a.text ≡ b.text
  pub scope : a.scope ≡ b.scope
  pub swallow : a.swallow ≡ b.swallow

-- b's limits are no smaller, and its level limit is one that may be given
pub record Larger (a b : Call) : Type 0 where
  pub level : a.level ≤ b.level
  pub allowed : b.level ≤ max_level
  pub rooms : (k : Kind) → room_of k a ≤ room_of k b

-- the limits but the room of this kind are equal
pub record Unchanged (k : Kind) (a b : Call) : Type 0 where
  pub level : a.level ≡ b.level
  pub rooms : (j : Kind) → (j ≡ k → ⊥) → room_of j a ≡ room_of j b

-- the records of a kind, word for word: that many words, zeros behind them up to the table's end
abbrev pub size : Kind → Seen → ℕ
size k x = count k x * width k

abbrev pub records : Kind → Seen → List ℕ
records k x = take (size k x) (table k x)

pub record Whole (k : Kind) (x : Seen) : Type 0 where
  pub long : length (records k x) ≡ size k x
  pub behind : drop (size k x) (table k x) ≡ zeros (length (table k x) - size k x)

-- y is an answer, and that of x
pub record Repeats (x y : Seen) : Type 0 where
  pub answered : Answered y
  pub counts : (k : Kind) → count k y ≡ count k x
  pub scope : y.end_scope ≡ x.end_scope
  pub swallow : y.end_swallow ≡ x.end_swallow
  pub same : (k : Kind) → records k y ≡ records k x
  pub first : (k : Kind) → Whole k x
  pub second : (k : Kind) → Whole k y

pub record TwoCalls (a : Call) (x : Seen) (b : Call) (y : Seen) : Type 0 where
  -- "An answer given in smaller limits is given in larger ones, word for word"
  pub grows : Larger a b → Answered x → Repeats x y
  -- The need is the same "whatever the limits": two refusals give the same number, and an answer has that many records
  pub needs : (k : Kind) → need k a ≡ need k b
  pub gives : (k : Kind) → Refused k x → Refused k y → y.given ≡ x.given
  pub has : (k : Kind) → Refused k x → Answered y → count k y ≡ x.given
  -- A refusal "comes exactly when the room is less", the other limits unchanged, and then with the same number
  pub exact : (k : Kind) → Unchanged k a b → Refused k x → (Refused k y ↔ (room_of k b < x.given)) × (Refused k y → y.given ≡ x.given)
  -- In the room that was named the call is answered, or refused for a kind that is tested later
  pub again : (k : Kind) → Unchanged k a b → Refused k x → x.given ≤ room_of k b → Answered y ⊎ (x.code < y.code)

-- Any two calls, which may be one
pub record Demand3 (a : Call) (x : Seen) (b : Call) (y : Seen) : Type 0 where
  pub first : OneCall a x
  pub second : OneCall b y
  pub both : SameText a b → TwoCalls a x b y
