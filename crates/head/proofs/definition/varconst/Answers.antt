use Rattle.cursor.proofs.Laws.{reads_leaf}
use Rattle.head.proofs.Wholes.{over_passed}
use Rattle.head.specs.Heads.{word_of, varconst}
use Rattle.head.proofs.Tests.{word_solid, named_owing}
use Rattle.head.proofs.Statements.{node_begun, rest_ready, rest_closable, rest_whole}
use Rattle.reading.specs.Kind.{variable_typeᵏ}
use lib.Dec.{lit≤}
use Rattle.head.proofs.definition.varconst.Goals as goal

pub returns-in_err-d : goal.returns-in_err-d
unfolding varconst word_of
returns-in_err-d c = over_passed (reads_leaf _ c.in_err-d.ensures) c.from_residual.ensures.1

pub named-g-requires : goal.named-g-requires
unfolding word_of
named-g-requires c = rest_ready (node_begun c.args.p.ready c.args.p.skips (word_solid variable_typeᵏ c.args.detail _ c.requires.nonempty) c.in_ok-d.ensures)

pub whole-requires : goal.whole-requires
unfolding word_of
whole-requires c =
    rest_closable (node_begun c.args.p.ready c.args.p.skips (word_solid variable_typeᵏ c.args.detail _ c.requires.nonempty) c.in_ok-d.ensures) named_owing (lit≤ tt)
    c.named-g.ensures

pub returns : goal.returns
unfolding varconst word_of
returns c =
    rest_whole (node_begun c.args.p.ready c.args.p.skips (word_solid variable_typeᵏ c.args.detail _ c.requires.nonempty) c.in_ok-d.ensures) named_owing (lit≤ tt)
    c.named-g.ensures c.whole.ensures
