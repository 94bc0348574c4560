use mathlib.Core.Path.{ap, ◌∙◌}
use Rattle.std.specs.Prelude.{Err}
use native.Mathlib.Omega.{arith}
use Rattle.std.proofs.Common.{rules}
use Rattle.statement.proofs.Files.{start_fit, filling_none, filling_numbered, filling_less, filling_few, filling_more, filling_fit, filling_end, filling_deep}
use Rattle.statement.proofs.source_file.Goals as goal

pub loop-d-init : goal.loop-d-init
loop-d-init c = (c.start-here.ensures, filling_none _ _ (start_fit c.requires), search rules)

pub overflow_add-n : goal.overflow_add-n
overflow_add-n c =
    omega (
      arith,
      filling_few c.loop-d.invariant.1 c.token_behind.ensures c.in-Ok.d c.in-Ok.x c.in-Ok.is c.token_behind.auto.rows c.token_behind.auto.errors c.token_behind.auto.requests,
    )

pub number-here-requires : goal.number-here-requires
number-here-requires c = (c.requires.0, c.loop-d.invariant.0, omega arith, filling_numbered c.loop-d.invariant.1 c.token_behind.ensures)

pub loop-d-smaller : goal.loop-d-smaller
loop-d-smaller c = let w = filling_less c.loop-d.invariant.1 c.token_behind.ensures c.in-Ok.d c.in-Ok.x c.in-Ok.is in omega (arith, w.0, w.1)

pub loop-d-preserved : goal.loop-d-preserved
loop-d-preserved c =
    (c.number-here.ensures.0, filling_more c.loop-d.invariant.1 c.token_behind.ensures c.in-Ok.d c.in-Ok.x c.in-Ok.is c.token_behind.auto.rows c.token_behind.auto.errors c.token_behind.auto.requests c.number-here.ensures.1, search rules)

pub end-requires-clause-on : goal.end-requires-clause-on
end-requires-clause-on c = (c.loop-d.invariant.0, filling_numbered c.loop-d.invariant.1 c.token_behind.ensures)

pub end-requires-clause-fit : goal.end-requires-clause-fit
end-requires-clause-fit c = filling_fit c.loop-d.invariant.1 c.token_behind.ensures c.in-Err-Miss.x (c.in-Err-Miss.is ∙ ap Err c.in-Err-Miss.field-0-is) (start_fit c.requires)

pub returns-in-Err-Miss-clause-does : goal.returns-in-Err-Miss-clause-does
returns-in-Err-Miss-clause-does c = filling_end c.loop-d.invariant.1 c.token_behind.ensures c.in-Err-Miss.x (c.in-Err-Miss.is ∙ ap Err c.in-Err-Miss.field-0-is) c.end.ensures

pub returns-in-Err-Deep-clause-does : goal.returns-in-Err-Deep-clause-does
returns-in-Err-Deep-clause-does c = filling_deep c.loop-d.invariant.1 c.token_behind.ensures (c.in-Err-Deep.is ∙ ap Err c.in-Err-Deep.field-0-is)
