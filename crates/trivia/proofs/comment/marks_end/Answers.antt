use Rattle.std.proofs.Common.{rules}
use mathlib.Core.Path.{sym, ◌∙◌}
use native.Mathlib.Omega.{arith}
use Rattle.trivia.proofs.Marks.{left_all, mark_closes, mark_less, mark_deeper, mark_none, mark_last}
use Rattle.trivia.proofs.comment.marks_end.Goals as goal

pub marks-init : goal.marks-init
marks-init c = (omega arith, left_all _ _)

pub marks-preserved-in-42-eq47-2 : goal.marks-preserved-in-42-eq47-2
marks-preserved-in-42-eq47-2 c = (
  omega arith,
  c.marks.invariant.1 ∙ c.starless_end-i.ensures.same _ ∙ c.loop-i.invariant.2
      ∙ mark_less _ _ _ (omega arith) c.in-42-eq47.is-0 c.in-42-eq47.is-1 c.if-open-eq0.false,
)

pub marks-preserved-in-47-eq42 : goal.marks-preserved-in-47-eq42
marks-preserved-in-47-eq42 c = (
  omega arith,
  c.marks.invariant.1 ∙ c.starless_end-i.ensures.same _ ∙ c.loop-i.invariant.2 ∙ mark_deeper _ _ _ (omega arith) c.in-47-eq42.is-0 c.in-47-eq42.is-1,
)

pub loop-i-preserved : goal.loop-i-preserved
loop-i-preserved c = (
  omega arith,
  omega arith,
  c.loop-i.invariant.2 ∙ mark_none _ _ _ (omega arith) (λ p q. c.in_default.is-0.0.1 p) (λ p q. c.in_default.is-0.1 p),
)

pub marks-preserved : goal.marks-preserved
marks-preserved c = (
  omega arith,
  c.marks.invariant.1 ∙ c.starless_end-i.ensures.same _ ∙ c.loop-i.invariant.2 ∙ mark_none _ _ _ (omega arith) (λ p q. search rules) (λ p q. search rules),
)

pub returns-then-last-i : goal.returns-then-last-i
returns-then-last-i c = sym (c.marks.invariant.1 ∙ c.starless_end-i.ensures.same _ ∙ c.loop-i.invariant.2 ∙ mark_last _ _ _ (omega arith))

pub returns-in-42-eq47 : goal.returns-in-42-eq47
returns-in-42-eq47 c =
    sym
    (c.marks.invariant.1 ∙ c.starless_end-i.ensures.same _ ∙ c.loop-i.invariant.2
    ∙ mark_closes _ _ _ (omega arith) c.in-42-eq47.is-0 c.in-42-eq47.is-1 c.if-open-eq0.true)
