use mathlib.Core.Bool.{true}
use Rattle.cursor.proofs.Laws.{reads_leaf}
use Rattle.head.proofs.Steps.{reads_tried}
use Rattle.head.proofs.Wholes.{over_passed}
use Rattle.head.specs.Heads.{implied}
use Rattle.head.proofs.Tests.{operand_quiet, tried_owing}
use Rattle.head.proofs.Statements.{mnemonic_begun, rest_ready, rest_closable, rest_whole}
use lib.Dec.{lit≤}
use Rattle.head.proofs.instruction.implied.Goals as goal

pub returns-in_err-d : goal.returns-in_err-d
unfolding implied
returns-in_err-d c = over_passed (reads_leaf _ c.in_err-d.ensures) c.from_residual.ensures.1

pub operand-attempt-requires : goal.operand-attempt-requires
operand-attempt-requires c = rest_ready (mnemonic_begun c.args.p.ready c.args.p.skips true c.in_ok-d.ensures)

pub whole-requires : goal.whole-requires
whole-requires c =
    rest_closable (mnemonic_begun c.args.p.ready c.args.p.skips true c.in_ok-d.ensures) tried_owing (lit≤ tt)
    (reads_tried c.operand-attempt.ensures operand_quiet c.tried-g.ensures)

pub returns : goal.returns
unfolding implied
returns c =
    rest_whole (mnemonic_begun c.args.p.ready c.args.p.skips true c.in_ok-d.ensures) tried_owing (lit≤ tt)
    (reads_tried c.operand-attempt.ensures operand_quiet c.tried-g.ensures) c.whole.ensures
