use Rattle.lexis.proofs.Solids.{name_solid}
use Rattle.expression.proofs.Steps.{leaf_ready}
use Rattle.head.proofs.Steps.{flat_leaf, flat_passed, flat_on}
use Rattle.head.proofs.Bounds.{flat_ready}
use Rattle.head.specs.Heads.{word_of, directive_of, macro_head}
use Rattle.head.proofs.Tests.{word_solid, lines_quiet}
use Rattle.reading.specs.Kind.{wordᵏ}
use lib.Dec.{lit≤}
use Rattle.head.proofs.definition.macro_head.Goals as goal

pub returns-in_err-d : goal.returns-in_err-d
unfolding macro_head directive_of word_of
returns-in_err-d c = flat_passed c.in_err-d.ensures c.from_residual.ensures.1

pub name-requires : goal.name-requires
unfolding directive_of
name-requires c = flat_ready (word_solid wordᵏ 0 _ (lit≤ tt)) c.args.p.ready c.in_ok-d.ensures

pub returns-in_err-e : goal.returns-in_err-e
unfolding macro_head directive_of word_of
returns-in_err-e c = flat_on c.in_ok-d.ensures lines_quiet (flat_passed (flat_leaf c.in_err-e.ensures) c.from_residual-in_err-e.ensures.1)

pub parameters-requires : goal.parameters-requires
unfolding directive_of
parameters-requires c = leaf_ready name_solid (flat_ready (word_solid wordᵏ 0 _ (lit≤ tt)) c.args.p.ready c.in_ok-d.ensures) c.in_ok-e.ensures

pub returns : goal.returns
unfolding macro_head directive_of word_of
returns c = flat_on c.in_ok-d.ensures lines_quiet (flat_on (flat_leaf c.in_ok-e.ensures) name_solid.quieted c.parameters.ensures)
