use mathlib.Core.Bool.{false}
use Rattle.cursor.proofs.Laws.{reads_leaf}
use Rattle.head.proofs.Steps.{reads_optional}
use Rattle.head.proofs.Wholes.{over_passed}
use Rattle.head.specs.Heads.{with_operand}
use Rattle.head.proofs.Tests.{operand_owing}
use Rattle.head.proofs.Statements.{mnemonic_begun, rest_ready, rest_closable, rest_whole}
use lib.Dec.{lit≤}
use Rattle.head.proofs.instruction.with_operand.Goals as goal

pub returns-in_err-d : goal.returns-in_err-d
unfolding with_operand
returns-in_err-d c = over_passed (reads_leaf _ c.in_err-d.ensures) c.from_residual.ensures.1

pub operand-g-requires : goal.operand-g-requires
operand-g-requires c = rest_ready (mnemonic_begun c.args.p.ready c.args.p.skips false c.in_ok-d.ensures)

pub whole-requires : goal.whole-requires
whole-requires c = rest_closable (mnemonic_begun c.args.p.ready c.args.p.skips false c.in_ok-d.ensures) operand_owing (lit≤ tt) (reads_optional c.operand-g.ensures c.optional-h.ensures)

pub returns : goal.returns
unfolding with_operand
returns c =
    rest_whole (mnemonic_begun c.args.p.ready c.args.p.skips false c.in_ok-d.ensures) operand_owing (lit≤ tt)
    (reads_optional c.operand-g.ensures c.optional-h.ensures) c.whole.ensures
