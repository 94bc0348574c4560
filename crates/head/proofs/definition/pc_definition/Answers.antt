use Rattle.reading.specs.Rules.{pc_definition}
use Rattle.cursor.proofs.Laws.{reads_leaf}
use Rattle.lexis.proofs.Solids.{char_solid}
use Rattle.head.proofs.Wholes.{over_passed}
use Rattle.head.specs.Heads.{assigned}
use Rattle.head.proofs.Tests.{assigned_owing}
use Rattle.head.proofs.Statements.{node_begun, rest_ready, rest_closable, rest_whole}
use mathlib.Core.Bool.{true}
use lib.Dec.{lit≤}
use Rattle.head.proofs.definition.pc_definition.Goals as goal

pub returns-in_err-d : goal.returns-in_err-d
unfolding pc_definition assigned
returns-in_err-d c = over_passed (reads_leaf _ c.in_err-d.ensures) c.from_residual.ensures.1

pub assigned-g-requires : goal.assigned-g-requires
assigned-g-requires c = rest_ready (node_begun c.args.p.ready c.args.p.skips (char_solid true 42) c.in_ok-d.ensures)

pub whole-requires : goal.whole-requires
whole-requires c = rest_closable (node_begun c.args.p.ready c.args.p.skips (char_solid true 42) c.in_ok-d.ensures) assigned_owing (lit≤ tt) c.assigned-g.ensures

pub returns : goal.returns
unfolding pc_definition assigned
returns c = rest_whole (node_begun c.args.p.ready c.args.p.skips (char_solid true 42) c.in_ok-d.ensures) assigned_owing (lit≤ tt) c.assigned-g.ensures c.whole.ensures
