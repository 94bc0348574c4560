-- A case for each way out: the first byte decides.
use mathlib.Core.Path.{ap, sym}
use mathlib.Core.Logic.{inl, inr}
use native.Mathlib.Omega.{arith}
use borrow.Author.Rules.{rules}
use Rattle.reading.specs.Byte.{blank}
use Rattle.trivia.proofs.Pieces.{above_blank, starts_end, starts_blank, starts_feed, starts_return, starts_lone_return, starts_other}
use Rattle.trivia.proofs.trivia_item.Goals as goal
use Rattle.trivia.proofs.trivia_item.Goals.{in-32, in-10, in-13}

pub returns-then-s-low : goal.returns-then-s-low
returns-then-s-low c = starts_end _ _ c.if-s-low.true

pub returns-else-b-eq47 : goal.returns-else-b-eq47
returns-else-b-eq47 c = starts_other _ _ c.if-s-low.false (above_blank _ c.if-b-gt32.true) (λ e. omega (arith, e)) (λ e. omega (arith, e)) c.if-b-eq47.false

pub returns-in_default : goal.returns-in_default
returns-in_default c = starts_lone_return _ _ c.if-s-low.false c.in-13.is (sym c.byte_is.ensures) c.if-byte_is.false

pub returns-in_default-2 : goal.returns-in_default-2
returns-in_default-2 c =
    starts_other _ _ c.if-s-low.false (search rules) (search rules) (search rules)
    (λ e. omega (arith, e))

pub returns : goal.returns
returns c =
    elim c.match-b.branch [
      | in-32 w ↦ rw w.kind-is (starts_blank _ _ c.if-s-low.false (elim w.in-32.is [ inl e ↦ ap blank e | inr e ↦ ap blank e ]) _ w.blanks_end.ensures)
      | in-10 w ↦ rw w.kind-is (starts_feed _ _ c.if-s-low.false w.in-10.is)
      | in-13 w ↦ rw w.kind-is (starts_return _ _ c.if-s-low.false w.in-13.is (sym w.byte_is.ensures) w.if-byte_is.true)
    ]
