-- A case for each answer: the tests that led to it are those of the definition.
use Rattle.std.proofs.Common.{◌≤◌, length, arith}
use Rattle.std.proofs.lemmas.Result.{err_from_is_err_and}
use Rattle.table.proofs.Zeros.{zeroed_part}
use Rattle.rows.proofs.Turns.{no_subtree, no_room, all_listed}
use Rattle.rows.proofs.tops.Goals as goal

pub returns-in_err-n : goal.returns-in_err-n
returns-in_err-n c =
    let p = err_from_is_err_and c.from_residual.result c.from_residual.ensures.1 in
    rw (p.1, p.2) (no_subtree _ _ _ _ _ c.in_err-n.ensures)

pub returns-then-roots-n : goal.returns-then-roots-n
returns-then-roots-n c = no_room _ _ _ _ _ (c.fill.ensures.after (λ y e. e)) c.in_ok-n.ensures c.if-roots-n.true

pub returns : goal.returns
returns c =
    let h : c.in_ok-n.n ≤ length c.fill-2.new.roots = omega arith in
    rw (zeroed_part _ _ _ h (c.fill-3.ensures.after (λ y e. e))) (all_listed _ _ _ _ c.if-roots-n.false _ c.fill-2.auto.roots c.fill-2.ensures)
