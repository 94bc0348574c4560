use Rattle.head.proofs.Steps.{flat_leaf, flat_passed, flat_on}
use Rattle.head.proofs.Bounds.{flat_ready}
use Rattle.head.specs.Heads.{word_of, directive_of, define_head}
use Rattle.head.proofs.Tests.{word_solid, lines_quiet}
use Rattle.reading.specs.Kind.{wordᵏ}
use lib.Dec.{lit≤}
use Rattle.head.proofs.definition.define_head.Goals as goal

pub returns-in_err-d : goal.returns-in_err-d
unfolding define_head directive_of word_of
returns-in_err-d c = flat_passed c.in_err-d.ensures c.from_residual.ensures.1

pub name-requires : goal.name-requires
unfolding directive_of
name-requires c = flat_ready (word_solid wordᵏ 0 _ (lit≤ tt)) c.args.p.ready c.in_ok-d.ensures

pub returns : goal.returns
unfolding define_head directive_of word_of
returns c = flat_on c.in_ok-d.ensures lines_quiet (flat_leaf c.name.ensures)
