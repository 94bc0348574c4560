use mathlib.Core.Path.{refl, ap, ◌∙◌}
use mathlib.Core.List.{[]}
use Rattle.std.specs.Prelude.{Err}
use native.Mathlib.Omega.{arith}
use Rattle.std.proofs.Common.{rules}
use Rattle.reading.specs.Rules.{block_item}
use Rattle.cursor.proofs.Exits.{passed}
use Rattle.state.proofs.Blocks.{ended}
use Rattle.state.proofs.Items.{walking_none, walking_less, walking_more, walking_end, walking_deep}
use Rattle.head.specs.Heads.{label_head, macro_head}
use Rattle.cursor.specs.declared.Cursor.{Cursor}
use Rattle.state.proofs.Lent.{does_in}
use Rattle.statement.proofs.Lifts.{lift, lift_flat, fit_lifts, fit_ready, headed, reached_then, headed_reached, spans, reads_sober, flat_sober, skips_sober, fit_told, does_told}
use Rattle.expression.proofs.Steps.{reads_told}
use Rattle.statement.proofs.Tests.{head_quiet, directive_quiet, statement_calm, block_paid, body_paid, maybe_paid, items_paid, item_paid, item_moves, label_paid, macro_paid, import_paid, else_paid, quoted_paid, quoted_moves, statement_sober, first_sober, second_sober, third_sober, fourth_sober}
use Rattle.statement.proofs.Quiets.{tried, tried_fit}
use Rattle.statement.proofs.Tails.{ends_out, ends_body, ends_got, directive_headed}
use Rattle.statement.proofs.Parts.{braces_out, braces_got, label_ends, directive_ends, macro_ends, import_head_out, import_name_out, import_block_out, import_all}
use Rattle.statement.proofs.Chains.{does_first, does_next, does_out, does_then, does_optional, reached, moved_then, fit_next, head_read, statement_is, second_is, third_is, fourth_is, segment_is, loop_is, if_is, test_is}
use Rattle.statement.proofs.Chains.{body_maybe, body_block, body_branches, item_first, item_error, block_no_brace, block_too_deep, brace_reached, brace_at, block_items_out, block_end_out, block_whole}
use Rattle.statement.proofs.stmt.+statement.Goals as goal

pub body-returns-in-Maybe : goal.body-returns-in-Maybe
body-returns-in-Maybe t c = does_in (search rules) (body_maybe c.in-Maybe.is c.maybe.ensures.does)

pub body-returns-in-Block : goal.body-returns-in-Block
body-returns-in-Block t c = does_in (search rules) (body_block c.in-Block.is c.block.ensures.does)

pub body-returns-in-Branches : goal.body-returns-in-Branches
body-returns-in-Branches t c = does_in (search rules) (body_branches c.in-Branches.is c.branches.ensures.does)

pub braced-returns-in_err-d : goal.braced-returns-in_err-d
braced-returns-in_err-d t c = does_in (search rules) (rw (passed c.from_residual.ensures.1) (block_no_brace c.in_err-d.ensures refl))

pub braced-returns-then-left-eq0 : goal.braced-returns-then-left-eq0
braced-returns-then-left-eq0 t c = does_in (search rules) (block_too_deep c.in_ok-d.ensures refl c.if-left-eq0.true)

pub braced-overflow_sub-low : goal.braced-overflow_sub-low
braced-overflow_sub-low t c = omega (arith, brace_at c.in_ok-d.ensures c.requires.fit)

pub braced-items-requires : goal.braced-items-requires
braced-items-requires t c = (omega (arith, c.if-left-eq0.false), ((brace_reached c.in_ok-d.ensures c.requires.fit).fit, omega (arith, brace_at c.in_ok-d.ensures c.requires.fit)))

pub braced-returns-in_err-e : goal.braced-returns-in_err-e
braced-returns-in_err-e t c = does_in (search rules) (rw (passed c.from_residual-in_err-e.ensures.1) (block_items_out c.in_ok-d.ensures refl c.if-left-eq0.false c.in_err-e.ensures.does refl))

pub braced-close-requires-clause-fit : goal.braced-close-requires-clause-fit
braced-close-requires-clause-fit t c =
    let b = brace_reached c.in_ok-d.ensures c.requires.fit in
    (reached c.in_ok-e.ensures.does b.fit items_paid refl).fit

pub braced-close-requires-clause-in_text : goal.braced-close-requires-clause-in_text
braced-close-requires-clause-in_text t c = (c.requires.fit.within, omega (arith, (brace_reached c.in_ok-d.ensures c.requires.fit).fit.within, brace_at c.in_ok-d.ensures c.requires.fit))

pub braced-returns-in_err-j : goal.braced-returns-in_err-j
braced-returns-in_err-j t c =
    does_in (search rules) (rw (passed c.from_residual-in_err-j.ensures.1) (block_end_out c.in_ok-d.ensures refl c.if-left-eq0.false c.in_ok-e.ensures.does
    (omega (arith, brace_at c.in_ok-d.ensures c.requires.fit)) refl c.in_err-j.ensures refl))

pub braced-around-end-requires-clause-spans : goal.braced-around-end-requires-clause-spans
braced-around-end-requires-clause-spans t c =
    let b = brace_reached c.in_ok-d.ensures c.requires.fit in
    let i = reached c.in_ok-e.ensures.does b.fit items_paid refl in
    let en = ended i.fit.within c.in_ok-j.ensures c.in_ok-j.j c.in_ok-j.z refl in
    record {
      grown = omega (arith, b.grown, i.grown, en.count);
      few = omega (arith, i.fit.small, i.fit.within, i.fit.few, en.count);
      start = omega (arith, b.fit.small, b.fit.within, brace_at c.in_ok-d.ensures c.requires.fit);
      body = omega (arith, b.fit.small, b.fit.within);
      end = omega (arith, i.fit.small, en.within);
    }

pub braced-returns : goal.braced-returns
braced-returns t c =
    does_in (search rules) (block_whole c.in_ok-d.ensures refl c.if-left-eq0.false c.in_ok-e.ensures.does (omega (arith, brace_at c.in_ok-d.ensures c.requires.fit)) refl
    c.in_ok-j.ensures refl c.around-end.ensures)

pub braces-returns-in_err-d : goal.braces-returns-in_err-d
braces-returns-in_err-d t c = does_in (search rules) (rw (passed c.from_residual.ensures.1) (braces_out (skips_sober c.requires.sober c.args.p.now.skips) c.in_err-d.ensures.does refl))

pub braces-close-requires : goal.braces-close-requires
braces-close-requires t c = spans (skips_sober c.requires.sober c.args.p.now.skips) (reached c.in_ok-d.ensures.does c.requires.fit block_paid refl)

pub braces-returns : goal.braces-returns
braces-returns t c = does_in (search rules) (braces_got (skips_sober c.requires.sober c.args.p.now.skips) c.in_ok-d.ensures.does refl (reached c.in_ok-d.ensures.does c.requires.fit block_paid refl).grown c.close.ensures)

pub branches-returns-in_err-d : goal.branches-returns-in_err-d
branches-returns-in_err-d t c = does_in (search rules) (rw (passed c.from_residual.ensures.1) (does_out c.in_err-d.ensures.does refl))

pub branches-other-done-requires : goal.branches-other-done-requires
branches-other-done-requires t c = (omega arith, (reached c.in_ok-d.ensures.does c.requires block_paid refl).fit)

pub branches-returns : goal.branches-returns
branches-returns t c = does_in (search rules) (does_then c.in_ok-d.ensures.does refl (does_optional c.other-done.ensures.does c.optional.ensures))

pub directive-lifted-h-requires : goal.directive-lifted-h-requires
directive-lifted-h-requires t c = fit_lifts c.requires.fit

pub directive-rest-requires : goal.directive-rest-requires
directive-rest-requires t c =
    let h = lift (directive_quiet _) c.requires.fit.within c.lifted-h.ensures (reads_sober c.requires.sober.0 c.directive_expression-read.ensures) in
    (omega arith, (c.requires.sober.0, directive_headed _ c.requires.sober.1 c.requires.fit (h.does [])))

pub directive-returns : goal.directive-returns
directive-returns t c =
    let h = lift (directive_quiet _) c.requires.fit.within c.lifted-h.ensures (reads_sober c.requires.sober.0 c.directive_expression-read.ensures) in
    does_in (search rules) (directive_ends (skips_sober c.requires.sober.0 c.args.p.now.skips) _ (h.does _) c.rest.ensures.does)

pub fourth-returns-in_default : goal.fourth-returns-in_default
fourth-returns-in_default t c = does_in (search rules) (fourth_is (does_first c.in_default.ensures.does (λ m e. grind arith)))

pub fourth-returns-in_default-2 : goal.fourth-returns-in_default-2
fourth-returns-in_default-2 t c = does_in (search rules) (fourth_is (does_first c.import.ensures.does (λ m e. grind arith)))

pub fourth-texts-requires : goal.fourth-texts-requires
fourth-texts-requires t c = fit_next c.import.ensures.does c.requires.fit fourth_sober.0 c.in-Err-Miss.is c.in-Err-Miss.field-0-is

pub fourth-returns-in_default-texts : goal.fourth-returns-in_default-texts
fourth-returns-in_default-texts t c = does_in (search rules) (fourth_is (does_next c.import.ensures.does c.in-Err-Miss.is c.in-Err-Miss.field-0-is (does_first (c.in_default-texts.ensures.does _) (λ m e. grind arith))))

pub fourth-returns-in_default-texts-2 : goal.fourth-returns-in_default-texts-2
fourth-returns-in_default-texts-2 t c = does_in (search rules) (fourth_is (does_next c.import.ensures.does c.in-Err-Miss.is c.in-Err-Miss.field-0-is (does_first (c.texts.ensures.does _) (λ m e. grind arith))))

pub fourth-directive-requires : goal.fourth-directive-requires
fourth-directive-requires t c =
    let fit1 = fit_next c.import.ensures.does c.requires.fit fourth_sober.0 c.in-Err-Miss.is c.in-Err-Miss.field-0-is in
    let fit2 = fit_next (c.texts.ensures.does []) fit1 fourth_sober.1 c.in-Err-Miss-texts.is c.in-Err-Miss-texts.field-0-is in
    (omega arith, (fit2, (c.requires.sober, omega arith)))

pub fourth-returns-in_default-directive : goal.fourth-returns-in_default-directive
fourth-returns-in_default-directive t c = does_in (search rules) (fourth_is (does_next c.import.ensures.does c.in-Err-Miss.is c.in-Err-Miss.field-0-is (does_next (c.texts.ensures.does _) c.in-Err-Miss-texts.is c.in-Err-Miss-texts.field-0-is
    (does_first (test_is c.in_default-directive.ensures.does) (λ m e. grind arith)))))

pub fourth-returns-in_default-directive-2 : goal.fourth-returns-in_default-directive-2
fourth-returns-in_default-directive-2 t c = does_in (search rules) (fourth_is (does_next c.import.ensures.does c.in-Err-Miss.is c.in-Err-Miss.field-0-is (does_next (c.texts.ensures.does _) c.in-Err-Miss-texts.is c.in-Err-Miss-texts.field-0-is
    (does_first (test_is c.directive.ensures.does) (λ m e. grind arith)))))

pub fourth-checks-requires : goal.fourth-checks-requires
fourth-checks-requires t c =
    let fit1 = fit_next c.import.ensures.does c.requires.fit fourth_sober.0 c.in-Err-Miss.is c.in-Err-Miss.field-0-is in
    let fit2 = fit_next (c.texts.ensures.does []) fit1 fourth_sober.1 c.in-Err-Miss-texts.is c.in-Err-Miss-texts.field-0-is in
    fit_next (test_is c.directive.ensures.does) fit2 fourth_sober.2 c.in-Err-Miss-directive.is c.in-Err-Miss-directive.field-0-is

pub fourth-returns : goal.fourth-returns
fourth-returns t c = does_in (search rules) (fourth_is (does_next c.import.ensures.does c.in-Err-Miss.is c.in-Err-Miss.field-0-is (does_next (c.texts.ensures.does _) c.in-Err-Miss-texts.is c.in-Err-Miss-texts.field-0-is
    (does_next (test_is c.directive.ensures.does) c.in-Err-Miss-directive.is c.in-Err-Miss-directive.field-0-is (c.checks.ensures.does _)))))

pub import-lifted-requires : goal.import-lifted-requires
import-lifted-requires t c = fit_lifts c.requires.fit

pub import-returns-in_err-d : goal.import-returns-in_err-d
import-returns-in_err-d t c =
    let h = lift_flat head_quiet.4 c.requires.fit.within c.in_err-d.ensures (flat_sober c.requires.sober c.import_head-read.ensures.reads) in
    does_in (search rules) (rw (passed c.from_residual.ensures.1) (import_head_out (h.does _ _) refl))

pub import-trivia-quote-requires : goal.import-trivia-quote-requires
import-trivia-quote-requires t c = (head_read head_quiet.4 import_paid c.requires.fit c.in_ok-d.ensures (flat_sober c.requires.sober c.import_head-read.ensures.reads)).reached.fit.within

pub import-import_file-read-requires : goal.import-import_file-read-requires
import-import_file-read-requires t c = fit_ready (head_read head_quiet.4 import_paid c.requires.fit c.in_ok-d.ensures (flat_sober c.requires.sober c.import_head-read.ensures.reads)).reached.fit

pub import-lifted-requires-2 : goal.import-lifted-requires-2
import-lifted-requires-2 t c = fit_lifts (head_read head_quiet.4 import_paid c.requires.fit c.in_ok-d.ensures (flat_sober c.requires.sober c.import_head-read.ensures.reads)).reached.fit

pub import-returns-in_err-e : goal.import-returns-in_err-e
import-returns-in_err-e t c =
    let h = head_read head_quiet.4 import_paid c.requires.fit c.in_ok-d.ensures (flat_sober c.requires.sober c.import_head-read.ensures.reads) in
    let n = lift_flat head_quiet.5 h.reached.fit.within c.in_err-e.ensures c.import_file-read.ensures.reads in
    does_in (search rules) (rw (passed c.from_residual-in_err-e.ensures.1) (import_name_out (h.tells.does _ _) refl (n.does _ _) refl))

pub import-overflow_sub-high : goal.import-overflow_sub-high
import-overflow_sub-high t c =
    let h = head_read head_quiet.4 import_paid c.requires.fit c.in_ok-d.ensures (flat_sober c.requires.sober c.import_head-read.ensures.reads) in
    let n = head_read head_quiet.5 quoted_paid h.reached.fit c.in_ok-e.ensures c.import_file-read.ensures.reads in
    omega (arith, moved_then (n.tells.does 0 []) h.reached.fit quoted_moves refl)

pub import-maybe-requires : goal.import-maybe-requires
import-maybe-requires t c =
    let h = head_read head_quiet.4 import_paid c.requires.fit c.in_ok-d.ensures (flat_sober c.requires.sober c.import_head-read.ensures.reads) in
    let n = head_read head_quiet.5 quoted_paid h.reached.fit c.in_ok-e.ensures c.import_file-read.ensures.reads in
    (omega arith, n.reached.fit)

pub import-returns-in_err-j : goal.import-returns-in_err-j
import-returns-in_err-j t c =
    let h = head_read head_quiet.4 import_paid c.requires.fit c.in_ok-d.ensures (flat_sober c.requires.sober c.import_head-read.ensures.reads) in
    let n = head_read head_quiet.5 quoted_paid h.reached.fit c.in_ok-e.ensures c.import_file-read.ensures.reads in
    does_in (search rules) (rw (passed c.from_residual-in_err-j.ensures.1) (import_block_out (h.tells.does _ _) refl (n.tells.does _ _) refl c.in_err-j.ensures.does refl))

pub import-import-requires-clause-spans : goal.import-import-requires-clause-spans
import-import-requires-clause-spans t c =
    let h = head_read head_quiet.4 import_paid c.requires.fit c.in_ok-d.ensures (flat_sober c.requires.sober c.import_head-read.ensures.reads) in
    let n = head_read head_quiet.5 quoted_paid h.reached.fit c.in_ok-e.ensures c.import_file-read.ensures.reads in
    let b = reached c.in_ok-j.ensures.does n.reached.fit maybe_paid refl in
    spans (skips_sober c.requires.sober c.args.p.now.skips) (reached_then h.reached (reached_then n.reached b))

pub import-import-requires-clause-words : goal.import-import-requires-clause-words
import-import-requires-clause-words t c =
    let h = head_read head_quiet.4 import_paid c.requires.fit c.in_ok-d.ensures (flat_sober c.requires.sober c.import_head-read.ensures.reads) in
    let n = head_read head_quiet.5 quoted_paid h.reached.fit c.in_ok-e.ensures c.import_file-read.ensures.reads in
    let b = reached c.in_ok-j.ensures.does n.reached.fit maybe_paid refl in
    omega (arith, b.fit.small, c.trivia-quote.ensures.within, n.reached.fit.within, b.fit.within, b.fit.requests)

pub import-returns : goal.import-returns
import-returns t c =
    let h = head_read head_quiet.4 import_paid c.requires.fit c.in_ok-d.ensures (flat_sober c.requires.sober c.import_head-read.ensures.reads) in
    let n = head_read head_quiet.5 quoted_paid h.reached.fit c.in_ok-e.ensures c.import_file-read.ensures.reads in
    let b = reached c.in_ok-j.ensures.does n.reached.fit maybe_paid refl in
    does_in (search rules) (import_all (h.tells.does _ _) refl (n.tells.does _ _) refl c.in_ok-j.ensures.does (skips_sober c.requires.sober c.args.p.now.skips) c.trivia-quote.ensures h.reached.fit.within refl
    (reached_then h.reached (reached_then n.reached b)).grown _ refl c.import.ensures)

pub item-returns-in_default : goal.item-returns-in_default
item-returns-in_default t c = does_in (search rules) (item_first c.requires.behind c.requires.fit c.in_default.ensures.does (λ m e. grind arith))

pub item-returns-in_default-2 : goal.item-returns-in_default-2
item-returns-in_default-2 t c = does_in (search rules) (item_first c.requires.behind c.requires.fit c.statement.ensures.does (λ m e. grind arith))

pub item-error_in_block-requires : goal.item-error_in_block-requires
item-error_in_block-requires t c = fit_next c.statement.ensures.does c.requires.fit statement_sober c.in-Err-Miss.is c.in-Err-Miss.field-0-is

pub item-returns : goal.item-returns
item-returns t c = does_in (search rules) (item_error c.requires.behind c.requires.fit c.statement.ensures.does c.in-Err-Miss.is c.in-Err-Miss.field-0-is c.error_in_block.ensures)

pub items-loop-d-init : goal.items-loop-d-init
items-loop-d-init t c = (walking_none block_item _ _ c.requires.fit, c.requires.behind, search rules)

pub items-loop-d-smaller : goal.items-loop-d-smaller
items-loop-d-smaller t c =
    let w = walking_less c.loop-d.invariant.0 c.item.ensures.does item_paid.0 item_moves c.in-Ok.d c.in-Ok.x c.in-Ok.is in
    omega (arith, w.0, w.1)

pub items-loop-d-preserved : goal.items-loop-d-preserved
items-loop-d-preserved t c =
    let w = walking_less c.loop-d.invariant.0 c.item.ensures.does item_paid.0 item_moves c.in-Ok.d c.in-Ok.x c.in-Ok.is in (
      walking_more c.loop-d.invariant.0 c.item.ensures.does item_paid.0 item_paid.1 item_moves c.in-Ok.d c.in-Ok.x c.in-Ok.is c.item.ensures.same.rows_length c.item.ensures.same.errors_length c.item.ensures.same.requests_length,
      omega (arith, w.0),
      search rules,
    )

pub items-returns-in-Err-Miss : goal.items-returns-in-Err-Miss
items-returns-in-Err-Miss t c = does_in (search rules) (walking_end c.loop-d.invariant.0 c.item.ensures.does c.args.c.met c.in-Err-Miss.x (c.in-Err-Miss.is ∙ ap Err c.in-Err-Miss.field-0-is))

pub items-returns-in-Err-Deep : goal.items-returns-in-Err-Deep
items-returns-in-Err-Deep t c = does_in (search rules) (walking_deep c.loop-d.invariant.0 c.item.ensures.does c.args.c.met (c.in-Err-Deep.is ∙ ap Err c.in-Err-Deep.field-0-is))

pub label-lifted-h-requires : goal.label-lifted-h-requires
label-lifted-h-requires t c = fit_lifts c.requires.fit

pub label-rest-requires : goal.label-rest-requires
label-rest-requires t c =
    let h = lift_flat head_quiet.0 c.requires.fit.within c.lifted-h.ensures (flat_sober c.requires.sober c.label_head-read.ensures.reads) in
    (omega arith, (c.requires.sober, headed c.requires.fit label_head label_paid.0 label_paid.1 (h.does 0 [])))

pub label-returns : goal.label-returns
label-returns t c =
    let h = lift_flat head_quiet.0 c.requires.fit.within c.lifted-h.ensures (flat_sober c.requires.sober c.label_head-read.ensures.reads) in
    does_in (search rules) (label_ends (skips_sober c.requires.sober c.args.p.now.skips) (h.does _ _) c.rest.ensures.does)

pub macro_of-lifted-h-requires : goal.macro_of-lifted-h-requires
macro_of-lifted-h-requires t c = fit_lifts c.requires.fit

pub macro_of-rest-requires : goal.macro_of-rest-requires
macro_of-rest-requires t c =
    let h = lift_flat head_quiet.2 c.requires.fit.within c.lifted-h.ensures (flat_sober c.requires.sober c.macro_head-read.ensures.reads) in
    (omega arith, (c.requires.sober, headed c.requires.fit macro_head macro_paid.0 macro_paid.1 (h.does 0 [])))

pub macro_of-returns : goal.macro_of-returns
macro_of-returns t c =
    let h = lift_flat head_quiet.2 c.requires.fit.within c.lifted-h.ensures (flat_sober c.requires.sober c.macro_head-read.ensures.reads) in
    does_in (search rules) (macro_ends (skips_sober c.requires.sober c.args.p.now.skips) (h.does _ _) c.rest.ensures.does)

pub maybe-returns : goal.maybe-returns
maybe-returns t c = does_in (search rules) (does_optional c.block-done.ensures.does c.optional.ensures)

pub other-lifted-requires : goal.other-lifted-requires
other-lifted-requires t c = fit_lifts c.requires

pub other-returns-in_err-d : goal.other-returns-in_err-d
other-returns-in_err-d t c =
    let h = lift_flat head_quiet.6 c.requires.within c.in_err-d.ensures (λ left. reads_told c.new-p.ensures.text c.new-p.ensures.start (c.else_head-read.ensures.reads left)) in
    does_in (search rules) (rw (passed c.from_residual.ensures.1) (does_out (h.does _ _) refl))

pub other-block-requires : goal.other-block-requires
other-block-requires t c = (omega arith, (head_read head_quiet.6 else_paid c.requires c.in_ok-d.ensures (λ left. reads_told c.new-p.ensures.text c.new-p.ensures.start (c.else_head-read.ensures.reads left))).reached.fit)

pub other-returns : goal.other-returns
other-returns t c =
    let h = lift_flat head_quiet.6 c.requires.within c.in_ok-d.ensures (λ left. reads_told c.new-p.ensures.text c.new-p.ensures.start (c.else_head-read.ensures.reads left)) in
    does_in (search rules) (does_then (h.does _ _) refl c.block.ensures.does)

pub rest-returns-in_err-d-clause-does : goal.rest-returns-in_err-d-clause-does
rest-returns-in_err-d-clause-does t c = rw (passed c.from_residual.ensures.1, c.in_err-d.was) (ends_out refl)

pub rest-body-requires : goal.rest-body-requires
rest-body-requires t c = (omega arith, (headed_reached c.requires.headed c.in_ok-d.was).fit)

pub rest-returns-in_err-e-clause-does : goal.rest-returns-in_err-e-clause-does
rest-returns-in_err-e-clause-does t c = rw (passed c.from_residual-in_err-e.ensures.1) (ends_body c.in_ok-d.was c.in_err-e.ensures.does refl)

pub rest-close-requires : goal.rest-close-requires
rest-close-requires t c =
    let h = headed_reached c.requires.headed c.in_ok-d.was in
    let b = reached c.in_ok-e.ensures.does h.fit (body_paid c.args.form.body) refl in
    spans (skips_sober c.requires.sober c.args.p.now.skips) (reached_then h b)

pub rest-returns-clause-does : goal.rest-returns-clause-does
rest-returns-clause-does t c =
    let h = headed_reached c.requires.headed c.in_ok-d.was in
    let b = reached c.in_ok-e.ensures.does h.fit (body_paid c.args.form.body) refl in
    ends_got c.in_ok-d.was c.in_ok-e.ensures.does refl (reached_then h b).grown c.close.ensures

pub second-returns-in_default : goal.second-returns-in_default
second-returns-in_default t c = does_in (search rules) (second_is (does_first c.in_default.ensures.does (λ m e. grind arith)))

pub second-returns-in_default-2 : goal.second-returns-in_default-2
second-returns-in_default-2 t c = does_in (search rules) (second_is (does_first c.macro_of.ensures.does (λ m e. grind arith)))

pub second-calls-requires : goal.second-calls-requires
second-calls-requires t c = fit_next c.macro_of.ensures.does c.requires.fit second_sober.0 c.in-Err-Miss.is c.in-Err-Miss.field-0-is

pub second-returns-in_default-calls : goal.second-returns-in_default-calls
second-returns-in_default-calls t c = does_in (search rules) (second_is (does_next c.macro_of.ensures.does c.in-Err-Miss.is c.in-Err-Miss.field-0-is (does_first (c.in_default-calls.ensures.does _) (λ m e. grind arith))))

pub second-returns-in_default-calls-2 : goal.second-returns-in_default-calls-2
second-returns-in_default-calls-2 t c = does_in (search rules) (second_is (does_next c.macro_of.ensures.does c.in-Err-Miss.is c.in-Err-Miss.field-0-is (does_first (c.calls.ensures.does _) (λ m e. grind arith))))

pub second-directive-requires : goal.second-directive-requires
second-directive-requires t c =
    let fit1 = fit_next c.macro_of.ensures.does c.requires.fit second_sober.0 c.in-Err-Miss.is c.in-Err-Miss.field-0-is in
    let fit2 = fit_next (c.calls.ensures.does []) fit1 second_sober.1 c.in-Err-Miss-calls.is c.in-Err-Miss-calls.field-0-is in
    (omega arith, (fit2, (c.requires.sober, omega arith)))

pub second-returns-in_default-directive : goal.second-returns-in_default-directive
second-returns-in_default-directive t c = does_in (search rules) (second_is (does_next c.macro_of.ensures.does c.in-Err-Miss.is c.in-Err-Miss.field-0-is (does_next (c.calls.ensures.does _) c.in-Err-Miss-calls.is c.in-Err-Miss-calls.field-0-is
    (does_first (segment_is c.in_default-directive.ensures.does) (λ m e. grind arith)))))

pub second-returns-in_default-directive-2 : goal.second-returns-in_default-directive-2
second-returns-in_default-directive-2 t c = does_in (search rules) (second_is (does_next c.macro_of.ensures.does c.in-Err-Miss.is c.in-Err-Miss.field-0-is (does_next (c.calls.ensures.does _) c.in-Err-Miss-calls.is c.in-Err-Miss-calls.field-0-is
    (does_first (segment_is c.directive.ensures.does) (λ m e. grind arith)))))

pub second-third-requires : goal.second-third-requires
second-third-requires t c =
    let fit1 = fit_next c.macro_of.ensures.does c.requires.fit second_sober.0 c.in-Err-Miss.is c.in-Err-Miss.field-0-is in
    let fit2 = fit_next (c.calls.ensures.does []) fit1 second_sober.1 c.in-Err-Miss-calls.is c.in-Err-Miss-calls.field-0-is in
    (omega arith, (fit_next (segment_is c.directive.ensures.does) fit2 second_sober.2 c.in-Err-Miss-directive.is c.in-Err-Miss-directive.field-0-is, c.requires.sober))

pub second-returns : goal.second-returns
second-returns t c = does_in (search rules) (second_is (does_next c.macro_of.ensures.does c.in-Err-Miss.is c.in-Err-Miss.field-0-is (does_next (c.calls.ensures.does _) c.in-Err-Miss-calls.is c.in-Err-Miss-calls.field-0-is
    (does_next (segment_is c.directive.ensures.does) c.in-Err-Miss-directive.is c.in-Err-Miss-directive.field-0-is c.third.ensures.does))))

pub statement-returns-in_default : goal.statement-returns-in_default
statement-returns-in_default t c = does_in (search rules) (does_told c.new-p.ensures.text c.new-p.ensures.start (statement_is (does_first c.in_default.ensures.does (λ m e. grind arith))))

pub statement-returns-in_default-2 : goal.statement-returns-in_default-2
statement-returns-in_default-2 t c = does_in (search rules) (does_told c.new-p.ensures.text c.new-p.ensures.start (statement_is (does_first c.braces.ensures.does (λ m e. grind arith))))

pub statement-label-requires : goal.statement-label-requires
statement-label-requires t c = (omega arith, (fit_next c.braces.ensures.does (fit_told c.new-p.ensures.text c.new-p.ensures.start c.requires) first_sober.0 c.in-Err-Miss.is c.in-Err-Miss.field-0-is, ap (λ (k : Cursor). k.met) c.new-p.ensures.start))

pub statement-returns-in_default-label : goal.statement-returns-in_default-label
statement-returns-in_default-label t c = does_in (search rules) (does_told c.new-p.ensures.text c.new-p.ensures.start (statement_is (does_next c.braces.ensures.does c.in-Err-Miss.is c.in-Err-Miss.field-0-is (does_first c.in_default-label.ensures.does (λ m e. grind arith)))))

pub statement-returns-in_default-label-2 : goal.statement-returns-in_default-label-2
statement-returns-in_default-label-2 t c = does_in (search rules) (does_told c.new-p.ensures.text c.new-p.ensures.start (statement_is (does_next c.braces.ensures.does c.in-Err-Miss.is c.in-Err-Miss.field-0-is (does_first c.label.ensures.does (λ m e. grind arith)))))

pub statement-instructions-requires : goal.statement-instructions-requires
statement-instructions-requires t c =
    let fit1 = fit_next c.braces.ensures.does (fit_told c.new-p.ensures.text c.new-p.ensures.start c.requires) first_sober.0 c.in-Err-Miss.is c.in-Err-Miss.field-0-is in
    fit_next c.label.ensures.does fit1 first_sober.1 c.in-Err-Miss-label.is c.in-Err-Miss-label.field-0-is

pub statement-returns-in_default-instructions : goal.statement-returns-in_default-instructions
statement-returns-in_default-instructions t c = does_in (search rules) (does_told c.new-p.ensures.text c.new-p.ensures.start (statement_is (does_next c.braces.ensures.does c.in-Err-Miss.is c.in-Err-Miss.field-0-is (does_next c.label.ensures.does c.in-Err-Miss-label.is c.in-Err-Miss-label.field-0-is
    (does_first (c.in_default-instructions.ensures.does _) (λ m e. grind arith))))))

pub statement-returns-in_default-instructions-2 : goal.statement-returns-in_default-instructions-2
statement-returns-in_default-instructions-2 t c = does_in (search rules) (does_told c.new-p.ensures.text c.new-p.ensures.start (statement_is (does_next c.braces.ensures.does c.in-Err-Miss.is c.in-Err-Miss.field-0-is (does_next c.label.ensures.does c.in-Err-Miss-label.is c.in-Err-Miss-label.field-0-is
    (does_first (c.instructions.ensures.does _) (λ m e. grind arith))))))

pub statement-second-requires : goal.statement-second-requires
statement-second-requires t c =
    let fit1 = fit_next c.braces.ensures.does (fit_told c.new-p.ensures.text c.new-p.ensures.start c.requires) first_sober.0 c.in-Err-Miss.is c.in-Err-Miss.field-0-is in
    let fit2 = fit_next c.label.ensures.does fit1 first_sober.1 c.in-Err-Miss-label.is c.in-Err-Miss-label.field-0-is in
    (omega arith, (fit_next (c.instructions.ensures.does []) fit2 first_sober.2 c.in-Err-Miss-instructions.is c.in-Err-Miss-instructions.field-0-is, ap (λ (k : Cursor). k.met) c.new-p.ensures.start))

pub statement-returns : goal.statement-returns
statement-returns t c = does_in (search rules) (does_told c.new-p.ensures.text c.new-p.ensures.start (statement_is (does_next c.braces.ensures.does c.in-Err-Miss.is c.in-Err-Miss.field-0-is (does_next c.label.ensures.does c.in-Err-Miss-label.is c.in-Err-Miss-label.field-0-is
    (does_next (c.instructions.ensures.does _) c.in-Err-Miss-instructions.is c.in-Err-Miss-instructions.field-0-is c.second.ensures.does)))))

pub third-returns-in_default : goal.third-returns-in_default
third-returns-in_default t c = does_in (search rules) (third_is (does_first (loop_is c.in_default.ensures.does) (λ m e. grind arith)))

pub third-returns-in_default-2 : goal.third-returns-in_default-2
third-returns-in_default-2 t c = does_in (search rules) (third_is (does_first (loop_is c.directive.ensures.does) (λ m e. grind arith)))

pub third-directive-requires-2 : goal.third-directive-requires-2
third-directive-requires-2 t c = (omega arith, (fit_next (loop_is c.directive.ensures.does) c.requires.fit third_sober.0 c.in-Err-Miss.is c.in-Err-Miss.field-0-is, (c.requires.sober, omega arith)))

pub third-returns-in_default-directive : goal.third-returns-in_default-directive
third-returns-in_default-directive t c = does_in (search rules) (third_is (does_next (loop_is c.directive.ensures.does) c.in-Err-Miss.is c.in-Err-Miss.field-0-is (does_first (if_is c.in_default-directive.ensures.does) (λ m e. grind arith))))

pub third-returns-in_default-directive-2 : goal.third-returns-in_default-directive-2
third-returns-in_default-directive-2 t c = does_in (search rules) (third_is (does_next (loop_is c.directive.ensures.does) c.in-Err-Miss.is c.in-Err-Miss.field-0-is (does_first (if_is c.directive-2.ensures.does) (λ m e. grind arith))))

pub third-lifted-requires : goal.third-lifted-requires
third-lifted-requires t c =
    let fit1 = fit_next (loop_is c.directive.ensures.does) c.requires.fit third_sober.0 c.in-Err-Miss.is c.in-Err-Miss.field-0-is in
    let fit2 = fit_next (if_is c.directive-2.ensures.does) fit1 third_sober.1 c.in-Err-Miss-directive.is c.in-Err-Miss-directive.field-0-is in
    fit_lifts fit2

pub third-returns-in_default-lifted : goal.third-returns-in_default-lifted
third-returns-in_default-lifted t c =
    let fit1 = fit_next (loop_is c.directive.ensures.does) c.requires.fit third_sober.0 c.in-Err-Miss.is c.in-Err-Miss.field-0-is in
    let fit2 = fit_next (if_is c.directive-2.ensures.does) fit1 third_sober.1 c.in-Err-Miss-directive.is c.in-Err-Miss-directive.field-0-is in
    does_in (search rules) (third_is (does_next (loop_is c.directive.ensures.does) c.in-Err-Miss.is c.in-Err-Miss.field-0-is (does_next (if_is c.directive-2.ensures.does) c.in-Err-Miss-directive.is c.in-Err-Miss-directive.field-0-is
    (does_first ((tried statement_calm.5 fit2 c.in_default-lifted.ensures (reads_sober c.requires.sober c.align-read.ensures)).does _) (λ m e. grind arith)))))

pub third-returns-in_default-lifted-2 : goal.third-returns-in_default-lifted-2
third-returns-in_default-lifted-2 t c =
    let fit1 = fit_next (loop_is c.directive.ensures.does) c.requires.fit third_sober.0 c.in-Err-Miss.is c.in-Err-Miss.field-0-is in
    let fit2 = fit_next (if_is c.directive-2.ensures.does) fit1 third_sober.1 c.in-Err-Miss-directive.is c.in-Err-Miss-directive.field-0-is in
    does_in (search rules) (third_is (does_next (loop_is c.directive.ensures.does) c.in-Err-Miss.is c.in-Err-Miss.field-0-is (does_next (if_is c.directive-2.ensures.does) c.in-Err-Miss-directive.is c.in-Err-Miss-directive.field-0-is
    (does_first ((tried statement_calm.5 fit2 c.lifted.ensures (reads_sober c.requires.sober c.align-read.ensures)).does _) (λ m e. grind arith)))))

pub third-fourth-requires : goal.third-fourth-requires
third-fourth-requires t c =
    let fit1 = fit_next (loop_is c.directive.ensures.does) c.requires.fit third_sober.0 c.in-Err-Miss.is c.in-Err-Miss.field-0-is in
    let fit2 = fit_next (if_is c.directive-2.ensures.does) fit1 third_sober.1 c.in-Err-Miss-directive.is c.in-Err-Miss-directive.field-0-is in
    (omega arith, (tried_fit statement_calm.5 fit2 c.lifted.ensures (reads_sober c.requires.sober c.align-read.ensures) c.in-Err-Miss-lifted.is c.in-Err-Miss-lifted.field-0-is, c.requires.sober))

pub third-returns : goal.third-returns
third-returns t c =
    let fit1 = fit_next (loop_is c.directive.ensures.does) c.requires.fit third_sober.0 c.in-Err-Miss.is c.in-Err-Miss.field-0-is in
    let fit2 = fit_next (if_is c.directive-2.ensures.does) fit1 third_sober.1 c.in-Err-Miss-directive.is c.in-Err-Miss-directive.field-0-is in
    does_in (search rules) (third_is (does_next (loop_is c.directive.ensures.does) c.in-Err-Miss.is c.in-Err-Miss.field-0-is (does_next (if_is c.directive-2.ensures.does) c.in-Err-Miss-directive.is c.in-Err-Miss-directive.field-0-is
    (does_next ((tried statement_calm.5 fit2 c.lifted.ensures (reads_sober c.requires.sober c.align-read.ensures)).does _) c.in-Err-Miss-lifted.is c.in-Err-Miss-lifted.field-0-is c.fourth.ensures.does))))

pub statement-new-p-requires : goal.statement-new-p-requires
statement-new-p-requires t c = fit_ready c.requires

pub statement-braces-requires : goal.statement-braces-requires
statement-braces-requires t c = (omega arith, (fit_told c.new-p.ensures.text c.new-p.ensures.start c.requires, ap (λ (k : Cursor). k.met) c.new-p.ensures.start))

pub block-new-p-requires : goal.block-new-p-requires
block-new-p-requires t c = fit_ready c.requires

pub block-braced-requires : goal.block-braced-requires
block-braced-requires t c = (omega arith, (fit_told c.new-p.ensures.text c.new-p.ensures.start c.requires, ap (λ (k : Cursor). k.met) c.new-p.ensures.start))

pub block-returns : goal.block-returns
block-returns t c = does_in (search rules) (does_told c.new-p.ensures.text c.new-p.ensures.start c.braced.ensures.does)

pub other-new-p-requires : goal.other-new-p-requires
other-new-p-requires t c = fit_ready c.requires
