use Prim.Native.Nat.{◌+◌, ◌-◌, ◌*◌}
use lib.ListN.{length}
use Rattle.reading.specs.Rules.{expression_arg}
use Rattle.cursor.proofs.Loops.{Chained, Listed}
use Rattle.lexis.specs.Spaced.{spaced as spacedᵍ}
use Rattle.expression.specs.Level.{operator_of, part_of}
use Rattle.expression.proofs.Levels.{part_rank}
use Rattle.expression.proofs.+expression.Given as goal

abbrev pub decreases-argument : goal.decreases-argument
decreases-argument l = l.left * 16 + 13

abbrev pub decreases-arguments : goal.decreases-arguments
decreases-arguments l = l.left * 16 + 14

abbrev pub decreases-call_args : goal.decreases-call_args
decreases-call_args l = l.left * 16 + 15

abbrev pub decreases-call_parens : goal.decreases-call_parens
decreases-call_parens l = l.left * 16 + 0

abbrev pub decreases-closed : goal.decreases-closed
decreases-closed l = l.left * 16 + 13

abbrev pub decreases-expression : goal.decreases-expression
decreases-expression l = l.left * 16 + 12

abbrev pub decreases-expression_factor : goal.decreases-expression_factor
decreases-expression_factor l = l.left * 16 + 4

abbrev pub decreases-expression_factor_inner : goal.decreases-expression_factor_inner
decreases-expression_factor_inner l = l.left * 16 + 2

abbrev pub decreases-expression_parens : goal.decreases-expression_parens
decreases-expression_parens l = l.left * 16 + 0

abbrev pub decreases-expression_term : goal.decreases-expression_term
decreases-expression_term l = l.left * 16 + 8

abbrev pub decreases-fn_call : goal.decreases-fn_call
decreases-fn_call l = l.left * 16 + 1

abbrev pub decreases-others : goal.decreases-others
decreases-others l = l.left * 16 + 1

abbrev pub decreases-signed : goal.decreases-signed
decreases-signed l = l.left * 16 + 3

abbrev pub invariant-arguments-loop-last : goal.invariant-arguments-loop-last
invariant-arguments-loop-last l = Listed expression_arg (spacedᵍ 44) l.s l.left l.initial.next.at.0 l.initial.next.count.0 l.initial.next.met l.initial.rows l.next.at.0 l.next.count.0 l.next.met l.rows

abbrev pub decreases-arguments-loop-last : goal.decreases-arguments-loop-last
decreases-arguments-loop-last l = length l.s - l.next.at.0

abbrev pub decreases-part : goal.decreases-part
decreases-part l = l.left * 16 + part_rank l.level

abbrev pub decreases-next_part : goal.decreases-next_part
decreases-next_part l = l.left * 16 + part_rank l.level + 1

abbrev pub decreases-chain : goal.decreases-chain
decreases-chain l = l.left * 16 + part_rank l.level + 2

abbrev pub invariant-chain-loop-e : goal.invariant-chain-loop-e
invariant-chain-loop-e l =
    Chained (operator_of l.level) (part_of l.level) l.p.text.now l.start.count.0 l.p.end.at.0 l.left l.initial.d.at.0 l.initial.d.count.0 l.initial.d.met l.initial.rows
    l.d.at.0 l.d.count.0 l.d.met l.rows

abbrev pub decreases-chain-loop-e : goal.decreases-chain-loop-e
decreases-chain-loop-e l = length l.p.text.now - l.d.at.0
