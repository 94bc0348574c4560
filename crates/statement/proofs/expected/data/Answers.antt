use mathlib.Core.Path.{refl}
use mathlib.Core.List.{[]}
use native.Mathlib.Omega.{arith}
use Rattle.cursor.proofs.Exits.{passed}
use Rattle.statement.proofs.Lifts.{fit_lifts, lift_flat, spans, flat_clear, skips_clear}
use Rattle.statement.proofs.Tests.{head_quiet, size_paid, data_paid, size_moves}
use Rattle.statement.proofs.Quiets.{tells_out, tells_then, data_out, data_got}
use Rattle.statement.proofs.Chains.{reached, moved_then, head_read}
use Rattle.statement.proofs.expected.data.Goals as goal

pub returns-in_err-d : goal.returns-in_err-d
returns-in_err-d c = rw (passed c.from_residual.ensures.1) (data_out (tells_out (lift_flat head_quiet.3 c.requires.within c.in_err-d.ensures (flat_clear c.clear.ensures.text c.clear.ensures.start c.data_head-read.ensures.reads)) refl) refl)

pub values-requires-clause-fit : goal.values-requires-clause-fit
values-requires-clause-fit c = (head_read head_quiet.3 size_paid c.requires c.in_ok-d.ensures (flat_clear c.clear.ensures.text c.clear.ensures.start c.data_head-read.ensures.reads)).reached.fit

pub values-requires-clause-behind : goal.values-requires-clause-behind
values-requires-clause-behind c =
    let h = head_read head_quiet.3 size_paid c.requires c.in_ok-d.ensures (flat_clear c.clear.ensures.text c.clear.ensures.start c.data_head-read.ensures.reads) in
    omega (arith, moved_then (h.tells.does 0 []) c.requires size_moves refl)

pub returns-in_err-e : goal.returns-in_err-e
returns-in_err-e c = rw (passed c.from_residual-in_err-e.ensures.1) (data_out (tells_then (lift_flat head_quiet.3 c.requires.within c.in_ok-d.ensures (flat_clear c.clear.ensures.text c.clear.ensures.start c.data_head-read.ensures.reads)) c.in_err-e.ensures) refl)

pub close-requires : goal.close-requires
close-requires c =
    let a = tells_then (lift_flat head_quiet.3 c.requires.within c.in_ok-d.ensures (flat_clear c.clear.ensures.text c.clear.ensures.start c.data_head-read.ensures.reads)) c.in_ok-e.ensures in
    spans (skips_clear c.clear.ensures.text c.clear.ensures.start c.clear.new.p.skips) (reached (a.does []) c.requires data_paid refl)

pub returns : goal.returns
returns c =
    let a = tells_then (lift_flat head_quiet.3 c.requires.within c.in_ok-d.ensures (flat_clear c.clear.ensures.text c.clear.ensures.start c.data_head-read.ensures.reads)) c.in_ok-e.ensures in
    data_got a (skips_clear c.clear.ensures.text c.clear.ensures.start c.clear.new.p.skips) refl (reached (a.does []) c.requires data_paid refl).grown c.close.ensures

pub lifted-requires : goal.lifted-requires
lifted-requires c = fit_lifts c.requires
