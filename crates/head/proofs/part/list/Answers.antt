use mathlib.Core.Path.{ap, sym, ◌∙◌}
use Rattle.std.specs.Prelude.{Err, is_err}
use Rattle.cursor.proofs.Exits.{passed}
use native.Mathlib.Omega.{arith}
use Rattle.cursor.proofs.Laws.{stepped}
use Rattle.cursor.proofs.Loops.{listed_none, list_out, list_step, list_last, list_more}
use Rattle.cursor.proofs.Rounds.{progress_ready}
use Rattle.expression.proofs.Steps.{leaf_not_deep}
use Rattle.head.proofs.Bounds.{paid_up, next}
use Rattle.head.specs.Heads.{char_of}
use Rattle.head.specs.Lists.{item_of}
use Rattle.head.proofs.Steps.{reads_as}
use Rattle.head.proofs.Tests.{char_solid, item_solid, item_comma_solid}
use Rattle.head.proofs.part.list.Goals as goal

pub loop-item-init : goal.loop-item-init
loop-item-init g c = λ left. listed_none (item_of g.listed) (char_of 44) _ left _ _ _ _ c.requires.1.0.within

pub item-requires : goal.item-requires
item-requires g c = c.requires.1.1.0 _ _ (progress_ready (c.loop-item.invariant 0).progress c.requires.1.0)

pub returns-in_err-last : goal.returns-in_err-last
unfolding char_of
returns-in_err-last g c =
    let i = progress_ready (c.loop-item.invariant 0).progress c.requires.1.0 in
    let a = c.requires.1.1.1 _ _ _ _ i c.item.ensures in
    rw (passed c.from_residual.ensures.1) (record { reads = λ left. reads_as (sym c.in_err-last.was) (list_out (c.loop-item.invariant left) (a.reads left) (ap is_err c.in_err-last.was)) })

pub char-requires : goal.char-requires
char-requires g c =
    let i = progress_ready (c.loop-item.invariant 0).progress c.requires.1.0 in
    let a = c.requires.1.1.1 _ _ _ _ i c.item.ensures in
    (next (paid_up (item_solid g.listed)) i (a.reads 0) c.in_ok-last.was).ready

pub loop-item-smaller : goal.loop-item-smaller
loop-item-smaller g c =
    let i = progress_ready (c.loop-item.invariant 0).progress c.requires.1.0 in
    let a = list_step (c.loop-item.invariant 0) ((c.requires.1.1.1 _ _ _ _ i c.item.ensures).reads 0) (item_solid g.listed) _ c.in_ok-last.was in
    let b = stepped (char_solid 44) _ a.within (c.char.ensures.reading 0 0) c.in-Ok.is in
    omega (arith, a.on, b.on, b.within)

pub loop-item-preserved : goal.loop-item-preserved
loop-item-preserved g c =
    let i = progress_ready (c.loop-item.invariant 0).progress c.requires.1.0 in
    let a = c.requires.1.1.1 _ _ _ _ i c.item.ensures in
    λ left. list_more (c.loop-item.invariant left) (a.reads left) (item_solid g.listed) _ c.in_ok-last.was c.char.ensures (item_comma_solid g.listed) _
    c.in-Ok.is c.item.auto.arg4 c.char.auto.rows

pub returns-in-Err-Miss : goal.returns-in-Err-Miss
unfolding char_of
returns-in-Err-Miss g c =
    let i = progress_ready (c.loop-item.invariant 0).progress c.requires.1.0 in
    let a = c.requires.1.1.1 _ _ _ _ i c.item.ensures in
    record {
      reads = λ left. list_last (c.loop-item.invariant left) (a.reads left) (item_solid g.listed) _ c.in_ok-last.was c.char.ensures _
          (c.in-Err-Miss.is ∙ ap Err c.in-Err-Miss.field-0-is);
    }

pub returns-in-Err-Deep : goal.returns-in-Err-Deep
returns-in-Err-Deep g c = leaf_not_deep c.char.ensures c.in-Err-Deep.is c.in-Err-Deep.field-0-is
