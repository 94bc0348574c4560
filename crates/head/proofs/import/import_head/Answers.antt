use Rattle.head.proofs.Steps.{flat_passed, flat_on}
use Rattle.head.proofs.Bounds.{flat_ready}
use Rattle.head.specs.Heads.{word_of, directive_of, import_head}
use Rattle.head.proofs.Tests.{word_solid, lines_quiet}
use Rattle.reading.specs.Kind.{wordᵏ}
use lib.Dec.{lit≤}
use Rattle.head.proofs.import.import_head.Goals as goal

pub returns-in_err-d : goal.returns-in_err-d
unfolding import_head directive_of word_of
returns-in_err-d c = flat_passed c.in_err-d.ensures c.from_residual.ensures.1

pub import_names-requires : goal.import_names-requires
unfolding directive_of
import_names-requires c = flat_ready (word_solid wordᵏ 0 _ (lit≤ tt)) c.args.p.ready c.in_ok-d.ensures

pub returns : goal.returns
unfolding import_head directive_of word_of
returns c = flat_on c.in_ok-d.ensures lines_quiet c.import_names.ensures
