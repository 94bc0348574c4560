use mathlib.Core.Bool.{false}
use mathlib.Core.List.{[]}
use mathlib.Core.Path.{refl}
use native.Mathlib.Omega.{arith}
use Rattle.reading.specs.Grammar.{many0}
use Rattle.lexis.specs.Finds.{dotted}
use Rattle.lexis.proofs.Ends.{seq_no}
use Rattle.lexis.proofs.Paths.{dotting_none, dotting_step, dotting_more, dotting_end, identifier_in}
use Rattle.lexis.proofs.identifier.identifiers.Goals as goal

pub returns-in_err-end : goal.returns-in_err-end
returns-in_err-end c = rw c.from_residual.ensures (seq_no (many0 dotted) c.in_err-end.ensures)

pub loop-next-init : goal.loop-next-init
loop-next-init c = dotting_none (identifier_in c.requires c.in_ok-end.ensures)

pub dotted-requires : goal.dotted-requires
dotted-requires c = (c.loop-next.invariant.loops false 0 []).progress.within

pub loop-next-smaller : goal.loop-next-smaller
loop-next-smaller c =
    let x = dotting_step c.loop-next.invariant c.in-Some.ensures in
    omega (arith, x.on, x.within)

pub loop-next-preserved : goal.loop-next-preserved
loop-next-preserved c = dotting_more c.loop-next.invariant c.in-Some.ensures

pub returns : goal.returns
returns c =
    dotting_end c.loop-next.invariant refl c.in_ok-end.ensures c.in_default.ensures _ refl
