use mathlib.Core.Path.{ap, ◌∙◌}
use Rattle.std.specs.Prelude.{Err}
use native.Mathlib.Omega.{arith}
use Rattle.cursor.proofs.Loops.{looped_none, many_step, many_more, many_end, many_deep}
use Rattle.literal.specs.Parts.{item_of}
use Rattle.literal.proofs.Strings.{item_repeats}
use Rattle.literal.proofs.text.items.Goals as goal

pub loop-e-init : goal.loop-e-init
loop-e-init c = looped_none (λ l lim. lim) (item_of c.args.interpolated) _ _ _ _ _ c.requires.within

pub loop-e-smaller : goal.loop-e-smaller
loop-e-smaller c =
    let x = many_step c.loop-e.invariant (λ l lim. c.item.ensures.reading l lim) (item_repeats c.args.interpolated) _ c.in-Ok.is in
    omega (arith, x.on, x.within)

pub loop-e-preserved : goal.loop-e-preserved
loop-e-preserved c =
    many_more c.loop-e.invariant (λ l lim. c.item.ensures.reading l lim) (item_repeats c.args.interpolated) _ c.in-Ok.is c.item.auto.rows

pub returns-in-Err-Miss : goal.returns-in-Err-Miss
returns-in-Err-Miss c =
    record { reading = λ l lim. many_end c.loop-e.invariant (λ l lim. c.item.ensures.reading l lim) _ (c.in-Err-Miss.is ∙ ap Err c.in-Err-Miss.field-0-is) l lim }

pub returns-in-Err-Deep : goal.returns-in-Err-Deep
returns-in-Err-Deep c =
    record { reading = λ l lim. many_deep c.loop-e.invariant (λ l lim. c.item.ensures.reading l lim) (c.in-Err-Deep.is ∙ ap Err c.in-Err-Deep.field-0-is) l lim }
