-- What starts at a place: the end of a block comment, and one item of trivia.
use Rattle.std.specs.Prelude.{Option, Some, None, Bool, true, false, cond, ◌&&◌, ◌||◌, List, [], ◌≡◌, ℕ, ◌+◌, ◌≤◌, ◌<◌, eqb, length, drop, get_or}
use Rattle.std.proofs.Math.Option.{Option as Maybe, none, some}
use Rattle.reading.specs.Byte.{comment}
use Rattle.reading.specs.Grammar.{Rows, Input, Rule, Parser, ◌or◌}
use Rattle.reading.specs.Rules.{trivia_impl, new_line, trivia, multiline_trivia}
use Rattle.reading.specs.Summary.{Summary, fits, fails, Scan, scan}
use Rattle.reading.specs.Items.{item}
use Rattle.cursor.specs.Text.{here}
use Rattle.table.specs.declared.Pos.{Pos}
use Rattle.trivia.specs.Kind.{item_number}
use Rattle.trivia.specs.declared.Item.{Item}

abbrev pub close_of : ℕ → Maybe ℕ → Option Pos
close_of at none = None
close_of at (some n) = Some (record { 0 = at + n })

-- c_comment behind its mark
unfoldable pub closed : List ℕ → ℕ → Option Pos
closed s at = close_of at (comment 0 0 (drop at s))

-- a closing mark starts at a place; one of two bytes stands there
abbrev pub closes_at : List ℕ → ℕ → Bool
closes_at s i = eqb (get_or s i 0) 42 && eqb (get_or s (i + 1) 0) 47

abbrev pub either_at : ℕ → ℕ → List ℕ → ℕ → Bool
either_at a b s i = eqb (get_or s i 0) a || eqb (get_or s i 0) b

-- no place from a on, before z, passes the test
pub record Clear (f : ℕ → Bool) (a z : ℕ) : Type 0 where
  pub plain : (i : ℕ) → a ≤ i → i < z → f i ≡ false

-- what is left of a comment from a place: d more are open around it, and p is the byte before
unfoldable pub left : List ℕ → ℕ → ℕ → ℕ → Option Pos
left s d p i = close_of i (comment d p (drop i s))

-- no mark starts from a on, before z: a comment goes on there
pub record Unmarked (s : List ℕ) (a z : ℕ) : Type 0 where
  pub on : a ≤ z
  pub same : (d : ℕ) → left s d 0 a ≡ left s d 0 z

-- a piece, as `item` gives it
unfoldable pub item_of : List ℕ → Option Item → Maybe (ℕ × Input)
item_of s (Some x) = some (item_number x.kind, here s x.end.0)
item_of s None = none

-- a piece, as `scan` gives it: an open comment is met in the kind 5
unfoldable pub summary_of : List ℕ → Option Item → Summary Rows
summary_of s (Some x) = fits [] (here s x.end.0) (eqb (item_number x.kind) 5) 0
summary_of s None = fails false 0

-- one item, and trivia: of several lines, or of one
abbrev pub item_for : Bool → Parser
item_for true = trivia_impl or new_line
item_for false = trivia_impl

abbrev pub trivia_of : Bool → Parser
trivia_of true = multiline_trivia
trivia_of false = trivia

-- on one line a newline is no trivia
unfoldable pub kept : Bool → Option Item → Option Item
kept true r = r
kept false (Some x) = cond (eqb (item_number x.kind) 2) None (Some x)
kept false None = None

-- an item takes a byte at least, and ends in the text
unfoldable pub Bounded : List ℕ → ℕ → Option Item → Type 0
Bounded s at (Some x) = (at < x.end.0) × (x.end.0 ≤ length s)
Bounded s at None = Unit {0}

-- what starts at a place, as the call that lists items has it, and as trivia has it
pub record Starts (s : List ℕ) (at : ℕ) (r : Option Item) : Type 0 where
  pub listed : item (here s at) ≡ item_of s r
  pub scanned : (lines : Bool) (τ : Rule → Scan Rows) (l : ℕ) → scan τ (item_for lines) l (here s at) ≡ summary_of s (kept lines r)
  pub bounded : Bounded s at r

-- no item of trivia, of several lines or of one, starts at a place
pub record Nothing (lines : Bool) (s : List ℕ) (at : ℕ) : Type 0 where
  pub piece : Option Item
  pub starts : Starts s at piece
  pub none : kept lines piece ≡ None
