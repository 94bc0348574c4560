use mathlib.Core.Path.{refl}
use Rattle.expression.proofs.Steps.{then_got}
use Rattle.head.proofs.Steps.{seq_passed}
use Rattle.head.proofs.Bounds.{flat_ready}
use Rattle.head.specs.Heads.{directive_of, directive_expression}
use Rattle.head.proofs.Tests.{word_solid}
use Rattle.reading.specs.Kind.{wordᵏ}
use Rattle.head.proofs.directive.directive_expression.Goals as goal

pub returns-in_err-d : goal.returns-in_err-d
unfolding directive_expression
returns-in_err-d c = seq_passed (c.in_err-d.ensures.reads _) c.from_residual.ensures.1

pub expression-requires : goal.expression-requires
unfolding directive_of
expression-requires c = flat_ready (word_solid wordᵏ 0 _ c.requires.nonempty) c.args.p.ready c.in_ok-d.ensures

pub returns : goal.returns
unfolding directive_expression directive_of
returns c = then_got (c.in_ok-d.ensures.reads _) (word_solid wordᵏ 0 _ c.requires.nonempty).quieted refl c.expression.ensures
