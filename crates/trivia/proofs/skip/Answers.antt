use mathlib.Core.Path.{ap, ◌∙◌}
use native.Mathlib.Omega.{arith}
use Rattle.trivia.specs.Piece.{kept}
use Rattle.trivia.proofs.Walk.{item_bounds, walked_more, walked_skips, kept_none, kept_newline}
use Rattle.trivia.proofs.skip.Goals as goal

pub returns-in_default : goal.returns-in_default
returns-in_default c =
    walked_skips c.loop-item.invariant c.trivia_item.ensures c.requires (ap (kept _) c.in_default.is ∙ kept_none _)

pub returns-then-eq-lines : goal.returns-then-eq-lines
returns-then-eq-lines c =
    walked_skips c.loop-item.invariant c.trivia_item.ensures c.requires (ap (kept _) c.in-Some.is ∙ kept_newline _ _ c.eq.ensures c.if-eq-lines.true)

pub returns-then-bare : goal.returns-then-bare
returns-then-bare c =
    let nothing = c.bare.ensures c.if-bare.true in
    let more = walked_more c.loop-item.invariant c.trivia_item.ensures _ c.in-Some.is c.eq.ensures c.eq-m.ensures c.if-eq-lines.false in
    walked_skips more nothing.starts c.requires nothing.none

pub loop-item-smaller : goal.loop-item-smaller
loop-item-smaller c = let m = item_bounds c.trivia_item.ensures _ c.in-Some.is in omega (arith, m.0, m.1)

pub loop-item-preserved : goal.loop-item-preserved
loop-item-preserved c =
    walked_more c.loop-item.invariant c.trivia_item.ensures _ c.in-Some.is c.eq.ensures c.eq-m.ensures c.if-eq-lines.false
