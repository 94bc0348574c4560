-- A case for each answer: the tests that led to it are those of the definition.
use mathlib.Core.Path.{ap, sym, ◌∙◌}
use native.Mathlib.Omega.{arith}
use Rattle.reading.specs.Table.{refused}
use Rattle.trivia.specs.Answers.{high_of, listed}
use Rattle.trivia.proofs.Outcome.{too_long, high_byte, no_item, no_room, counted, zeros_only, zeros_behind}
use Rattle.trivia.proofs.items.Goals as goal

pub returns-then-text-gt-MAX_TEXT : goal.returns-then-text-gt-MAX_TEXT
returns-then-text-gt-MAX_TEXT c = too_long _ _ c.if-text-gt-MAX_TEXT.true

pub returns-in-Some : goal.returns-in-Some
returns-in-Some c =
    high_byte _ _ c.if-text-gt-MAX_TEXT.false _ (sym (ap high_of c.in-Some.is) ∙ c.first_high.ensures)

pub returns-then-end-text : goal.returns-then-end-text
returns-then-end-text c =
    no_item _ _ c.if-text-gt-MAX_TEXT.false
    (sym (ap high_of c.in_default.is) ∙ c.first_high.ensures)
    c.list_items-listing.ensures c.if-end-text.true

pub returns-then-table-n : goal.returns-then-table-n
returns-then-table-n c =
    ap (listed (refused 12 c.list_items-listing.result.count)) (c.fill.ensures.after (λ y e. e) ∙ zeros_only c.args.table.now)
    ∙ no_room _ _ c.if-text-gt-MAX_TEXT.false
    (sym (ap high_of c.in_default.is) ∙ c.first_high.ensures) c.list_items-listing.ensures c.if-end-text.false c.if-table-n.true

pub returns : goal.returns
returns c =
    counted _ _ c.if-text-gt-MAX_TEXT.false (sym (ap high_of c.in_default.is) ∙ c.first_high.ensures) c.list_items-listing.ensures
    c.if-end-text.false c.if-table-n.false c.list_items.auto.table c.list_items.ensures.holds
    (zeros_behind _ _ _ (omega (arith, c.list_items.auto.table)) (c.fill-2.ensures.after (λ y e. e)))
