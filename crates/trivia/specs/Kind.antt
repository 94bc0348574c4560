-- The numbers of the kinds of items.
use Rattle.std.specs.Prelude.{ℕ}
use Rattle.trivia.specs.declared.kind.ItemKind.{ItemKind}
use Rattle.trivia.specs.declared.kind.ItemKind.TheVariants.{Whitespace, Newline, BlockComment, LineComment, Unterminated}

abbrev pub item_number : ItemKind → ℕ
item_number Whitespace = 1
item_number Newline = 2
item_number BlockComment = 3
item_number LineComment = 4
item_number Unterminated = 5
