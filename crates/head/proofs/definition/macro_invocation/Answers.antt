use Rattle.reading.specs.Rules.{macro_invocation, mname}
use Rattle.cursor.proofs.Laws.{reads_leaf}
use Rattle.lexis.proofs.Solids.{mname_solid}
use Rattle.head.proofs.Wholes.{over_passed}
use Rattle.head.proofs.Tests.{call_owing}
use Rattle.head.proofs.Statements.{node_begun, rest_ready, rest_closable, rest_whole}
use lib.Dec.{lit≤}
use Rattle.head.proofs.definition.macro_invocation.Goals as goal

pub returns-in_err-d : goal.returns-in_err-d
unfolding macro_invocation mname
returns-in_err-d c = over_passed (reads_leaf _ c.in_err-d.ensures) c.from_residual.ensures.1

pub call_parens-g-requires : goal.call_parens-g-requires
unfolding mname
call_parens-g-requires c = rest_ready (node_begun c.args.p.ready c.args.p.skips mname_solid c.in_ok-d.ensures)

pub whole-requires : goal.whole-requires
unfolding mname
whole-requires c = rest_closable (node_begun c.args.p.ready c.args.p.skips mname_solid c.in_ok-d.ensures) call_owing (lit≤ tt) c.call_parens-g.ensures

pub returns : goal.returns
unfolding macro_invocation mname
returns c = rest_whole (node_begun c.args.p.ready c.args.p.skips mname_solid c.in_ok-d.ensures) call_owing (lit≤ tt) c.call_parens-g.ensures c.whole.ensures
