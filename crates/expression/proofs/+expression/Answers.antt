use mathlib.Core.Path.{refl, ap, ◌∙◌}
use Rattle.std.specs.Prelude.{Err}
use native.Mathlib.Omega.{arith}
use Rattle.reading.specs.Grammar.{expr}
use Rattle.reading.specs.Rules.{call_parens, closed_expression, expression_factor_inner, expression_parens, fn_call}
use Rattle.cursor.specs.Agree.{Ready}
use Rattle.cursor.proofs.Laws.{stepped, ready_on, reads_leaf}
use Rattle.cursor.proofs.Rounds.{progress_ready}
use Rattle.cursor.proofs.Loops.{chained_none, chain_step, chain_more, chain_end, chain_deep, listed_none, list_out, list_step, list_last, list_more}
use Rattle.cursor.proofs.Exits.{passed}
use Rattle.expression.specs.Level.{part_of, chain_of}
use Rattle.expression.proofs.Facts.{trivia_quiet, mark_solid, name_solid, inner_solid, expression_solid, bracket_solid, call_solid, argument_solid, list_solid, comma_solid}
use Rattle.expression.proofs.Steps.{ready_met, ready_skip, ready_step, reads_ready, leaf_ready, around_fits, then_out, then_got, else_first, else_miss, rule_reads, leaf_not_deep}
use Rattle.expression.proofs.Steps.{row_spans, whole_out, whole_got, whole_spans, inside_out, inside_none, inside_on, reads_told, missed, missed_on}
use Rattle.lexis.proofs.Marks.{told, left}
use Rattle.expression.proofs.Parts.{mname_is}
use Rattle.expression.proofs.Factor.{factor_got, factor_deep, factor_miss, factor_after, factor_missed, signed_none, signed_out, signed_got}
use Rattle.expression.proofs.Levels.{part_solid, operator_solid, next_solid, next_pays, level_out, level_got}
use Rattle.expression.proofs.Calls.{argument_steps, argument_none, argument_one, args_got, args_miss, args_deep}
use Rattle.expression.proofs.+expression.Goals as goal

pub argument-returns-in_err-d : goal.argument-returns-in_err-d
argument-returns-in_err-d t c =
    rw (passed c.from_residual.ensures.1)
    (argument_none c.requires.le_at c.new-p.ensures.text c.new-p.ensures.start c.new-p.result.skips c.inside.ensures.text c.inside.ensures.start c.in_err-d.ensures refl)

pub argument-overflow_sub-d : goal.argument-overflow_sub-d
argument-overflow_sub-d t c =
    let st = argument_steps c.requires.le_at c.new-p.ensures.text c.new-p.ensures.start c.new-p.result.skips c.inside.ensures.text c.inside.ensures.start c.in_ok-d.ensures refl in
    omega (arith, st.grown)

pub argument-place_row-requires : goal.argument-place_row-requires
argument-place_row-requires t c =
    let st = argument_steps c.requires.le_at c.new-p.ensures.text c.new-p.ensures.start c.new-p.result.skips c.inside.ensures.text c.inside.ensures.start c.in_ok-d.ensures refl in (
      omega (arith, c.requires.ready.small, c.requires.ready.within),
      omega (arith, c.requires.ready.small, st.on, st.within),
      omega (arith, c.requires.ready.small, st.within),
    )

pub argument-returns : goal.argument-returns
argument-returns t c =
    argument_one c.requires.le_at c.new-p.ensures.text c.new-p.ensures.start c.new-p.result.skips c.inside.ensures.text c.inside.ensures.start c.in_ok-d.ensures refl c.place_row.ensures

pub arguments-loop-last-init : goal.arguments-loop-last-init
arguments-loop-last-init t c = listed_none _ _ _ _ _ _ _ _ c.requires.ready.within

pub arguments-returns-in_err-last : goal.arguments-returns-in_err-last
arguments-returns-in_err-last t c = rw (passed c.from_residual.ensures.1) (list_out c.loop-last.invariant c.in_err-last.ensures refl)

pub arguments-spaced-requires : goal.arguments-spaced-requires
arguments-spaced-requires t c =
    let st = list_step c.loop-last.invariant c.in_ok-last.ensures argument_solid c.in_ok-last.last refl in
    record { small = c.requires.ready.small; within = st.within; few = omega (arith, st.rows, c.loop-last.invariant.progress.rows, c.requires.ready.few) }

pub arguments-loop-last-smaller : goal.arguments-loop-last-smaller
arguments-loop-last-smaller t c =
    let st = list_step c.loop-last.invariant c.in_ok-last.ensures argument_solid c.in_ok-last.last refl in
    let sc = stepped (mark_solid 44) c.in-Ok.e st.within (c.spaced.ensures.reading 0 0) c.in-Ok.is in
    omega (arith, st.on, st.within, sc.on, sc.within)

pub arguments-loop-last-preserved : goal.arguments-loop-last-preserved
arguments-loop-last-preserved t c =
    list_more c.loop-last.invariant c.in_ok-last.ensures argument_solid c.in_ok-last.last refl c.spaced.ensures comma_solid c.in-Ok.e c.in-Ok.is
    c.argument.auto.rows c.spaced.auto.rows

pub arguments-returns-in-Err-Miss : goal.arguments-returns-in-Err-Miss
arguments-returns-in-Err-Miss t c =
    list_last c.loop-last.invariant c.in_ok-last.ensures argument_solid c.in_ok-last.last refl c.spaced.ensures _ (c.in-Err-Miss.is ∙ ap Err c.in-Err-Miss.field-0-is)

pub arguments-returns-in-Err-Deep : goal.arguments-returns-in-Err-Deep
arguments-returns-in-Err-Deep t c = leaf_not_deep c.spaced.ensures c.in-Err-Deep.is c.in-Err-Deep.field-0-is

pub call_args-spaced-requires : goal.call_args-spaced-requires
call_args-spaced-requires t c = ready_on list_solid _ c.requires.ready c.arguments.ensures c.in-Ok.is

pub call_args-returns-in-Ok : goal.call_args-returns-in-Ok
call_args-returns-in-Ok t c = args_got c.arguments.ensures c.in-Ok.is c.spaced.ensures

pub call_args-returns-in-Err-Miss : goal.call_args-returns-in-Err-Miss
call_args-returns-in-Err-Miss t c = args_miss c.arguments.ensures c.in-Err-Miss.is c.in-Err-Miss.field-0-is c.spaced-in-Err-Miss.ensures

pub call_args-returns-in-Err-Deep : goal.call_args-returns-in-Err-Deep
call_args-returns-in-Err-Deep t c = args_deep c.arguments.ensures (c.in-Err-Deep.is ∙ ap Err c.in-Err-Deep.field-0-is)

pub call_parens-returns-in_err-d : goal.call_parens-returns-in_err-d
unfolding call_parens
call_parens-returns-in_err-d t c = rw (passed c.from_residual.ensures.1) (inside_out c.in_err-d.ensures refl)

pub call_parens-returns-then-left-eq0 : goal.call_parens-returns-then-left-eq0
unfolding call_parens
call_parens-returns-then-left-eq0 t c = inside_none c.in_ok-d.ensures trivia_quiet refl c.if-left-eq0.true

pub call_parens-call_args-requires : goal.call_parens-call_args-requires
call_parens-call_args-requires t c =
    let st = stepped (mark_solid 40) c.in_ok-d.d c.requires.within (c.in_ok-d.ensures.reading 0 0) refl in
    (omega arith, (ready_step c.requires st, omega (arith, st.on)))

pub call_parens-returns : goal.call_parens-returns
unfolding call_parens
call_parens-returns t c = inside_on c.in_ok-d.ensures trivia_quiet refl c.if-left-eq0.false c.call_args.ensures

pub closed-returns-in_err-d : goal.closed-returns-in_err-d
unfolding closed_expression
closed-returns-in_err-d t c = rw (passed c.from_residual.ensures.1) (then_out (rule_reads expr tt c.requires.le_at c.requires.ready.within (reads_told c.new.ensures.text c.new.ensures.start c.in_err-d.ensures)) refl)

pub closed-spaced-requires : goal.closed-spaced-requires
closed-spaced-requires t c = reads_ready expression_solid c.requires.ready (reads_told c.new.ensures.text c.new.ensures.start c.in_ok-d.ensures)

pub closed-returns : goal.closed-returns
unfolding closed_expression
closed-returns t c = then_got (rule_reads expr tt c.requires.le_at c.requires.ready.within (reads_told c.new.ensures.text c.new.ensures.start c.in_ok-d.ensures)) tt refl (reads_leaf _ c.spaced.ensures)

pub expression_factor-around-requires-clause-spans : goal.expression_factor-around-requires-clause-spans
expression_factor-around-requires-clause-spans t c = row_spans inner_solid c.args.p.ready c.args.p.skips (reads_told c.inside.ensures.text c.inside.ensures.start c.expression_factor_inner.ensures) c.in-Ok.is

pub expression_factor-after-requires : goal.expression_factor-after-requires
expression_factor-after-requires t c = factor_after c.args.p.start c.args.p.skips (reads_told c.inside.ensures.text c.inside.ensures.start c.expression_factor_inner.ensures) c.in-Err-Miss.is c.in-Err-Miss.field-0-is

pub expression_factor-signed-requires : goal.expression_factor-signed-requires
expression_factor-signed-requires t c =
    (omega arith, factor_missed c.args.p.start c.args.p.skips (reads_told c.inside.ensures.text c.inside.ensures.start c.expression_factor_inner.ensures) c.in-Err-Miss.is c.in-Err-Miss.field-0-is c.after.ensures.text c.after.ensures.end)

pub expression_factor-returns-in-Ok : goal.expression_factor-returns-in-Ok
expression_factor-returns-in-Ok t c = factor_got c.args.p.start c.args.p.skips (reads_told c.inside.ensures.text c.inside.ensures.start c.expression_factor_inner.ensures) c.in-Ok.is c.around.ensures

pub expression_factor-returns-in-Err-Miss : goal.expression_factor-returns-in-Err-Miss
expression_factor-returns-in-Err-Miss t c = factor_miss c.args.p.start c.args.p.skips (reads_told c.inside.ensures.text c.inside.ensures.start c.expression_factor_inner.ensures) c.in-Err-Miss.is c.in-Err-Miss.field-0-is (reads_told c.after.ensures.text c.after.ensures.start c.signed.ensures)

pub expression_factor-returns-in-Err-Deep : goal.expression_factor-returns-in-Err-Deep
expression_factor-returns-in-Err-Deep t c = factor_deep c.args.p.start c.args.p.skips (reads_told c.inside.ensures.text c.inside.ensures.start c.expression_factor_inner.ensures) (c.in-Err-Deep.is ∙ ap Err c.in-Err-Deep.field-0-is)

pub expression_factor_inner-returns-in_default : goal.expression_factor_inner-returns-in_default
unfolding expression_factor_inner
expression_factor_inner-returns-in_default t c = else_first (reads_leaf _ c.in_default.ensures) (λ m e. grind arith)

pub expression_factor_inner-returns-in_default-2 : goal.expression_factor_inner-returns-in_default-2
unfolding expression_factor_inner
expression_factor_inner-returns-in_default-2 t c = else_first (reads_leaf _ c.number.ensures) (λ m e. grind arith)

pub expression_factor_inner-returns-in_default-fn_call : goal.expression_factor_inner-returns-in_default-fn_call
unfolding expression_factor_inner
expression_factor_inner-returns-in_default-fn_call t c = else_miss (reads_leaf _ c.number.ensures) c.in-Err-Miss.is c.in-Err-Miss.field-0-is (else_first c.in_default-fn_call.ensures (λ m e. grind arith))

pub expression_factor_inner-returns-in_default-fn_call-2 : goal.expression_factor_inner-returns-in_default-fn_call-2
unfolding expression_factor_inner
expression_factor_inner-returns-in_default-fn_call-2 t c = else_miss (reads_leaf _ c.number.ensures) c.in-Err-Miss.is c.in-Err-Miss.field-0-is (else_first c.fn_call.ensures (λ m e. grind arith))

pub expression_factor_inner-after-requires : goal.expression_factor_inner-after-requires
expression_factor_inner-after-requires t c =
    missed_on _ (left c.number.ensures _ (c.in-Err-Miss.is ∙ ap Err c.in-Err-Miss.field-0-is)) (missed c.fn_call.ensures _ (c.in-Err-Miss-fn_call.is ∙ ap Err c.in-Err-Miss-fn_call.field-0-is))

pub expression_factor_inner-returns : goal.expression_factor_inner-returns
unfolding expression_factor_inner
expression_factor_inner-returns t c = else_miss (reads_leaf _ c.number.ensures) c.in-Err-Miss.is c.in-Err-Miss.field-0-is (else_miss c.fn_call.ensures c.in-Err-Miss-fn_call.is c.in-Err-Miss-fn_call.field-0-is (reads_told c.after.ensures.text c.after.ensures.start c.others.ensures))

pub expression_parens-returns-in_err-d : goal.expression_parens-returns-in_err-d
unfolding expression_parens
expression_parens-returns-in_err-d t c = rw (passed c.from_residual.ensures.1) (whole_out c.args.p.ready.within (inside_out c.in_err-d.ensures refl) refl)

pub expression_parens-returns-then-left-eq0 : goal.expression_parens-returns-then-left-eq0
unfolding expression_parens
expression_parens-returns-then-left-eq0 t c = whole_out c.args.p.ready.within (inside_none c.in_ok-d.ensures trivia_quiet refl c.if-left-eq0.true) refl

pub expression_parens-closed-requires : goal.expression_parens-closed-requires
expression_parens-closed-requires t c =
    let st = stepped (mark_solid 40) c.in_ok-d.d c.args.p.ready.within (c.in_ok-d.ensures.reading 0 0) refl in
    (omega arith, (ready_step c.args.p.ready st, omega (arith, st.on)))

pub expression_parens-returns-in_err-e : goal.expression_parens-returns-in_err-e
unfolding expression_parens
expression_parens-returns-in_err-e t c =
    rw (passed c.from_residual-in_err-e.ensures.1) (whole_out c.args.p.ready.within
    (inside_on c.in_ok-d.ensures trivia_quiet refl c.if-left-eq0.false c.in_err-e.ensures) refl)

pub expression_parens-around-requires-clause-spans : goal.expression_parens-around-requires-clause-spans
expression_parens-around-requires-clause-spans t c =
    whole_spans bracket_solid c.args.p.ready
    (inside_on c.in_ok-d.ensures trivia_quiet refl c.if-left-eq0.false c.in_ok-e.ensures) refl

pub expression_parens-returns : goal.expression_parens-returns
unfolding expression_parens
expression_parens-returns t c =
    whole_got c.args.p.ready.within bracket_solid.quieted
    (inside_on c.in_ok-d.ensures trivia_quiet refl c.if-left-eq0.false c.in_ok-e.ensures) refl c.around.ensures

pub fn_call-returns-in_err-d : goal.fn_call-returns-in_err-d
unfolding fn_call
fn_call-returns-in_err-d t c = rw (passed c.from_residual.ensures.1) (whole_out c.requires.within (then_out (reads_leaf _ (mname_is (told c.new.ensures.text c.new.ensures.start c.in_err-d.ensures))) refl) refl)

pub fn_call-call_parens-requires : goal.fn_call-call_parens-requires
fn_call-call_parens-requires t c = (omega arith, leaf_ready name_solid c.requires (mname_is (told c.new.ensures.text c.new.ensures.start c.in_ok-d.ensures)))

pub fn_call-returns-in_err-e : goal.fn_call-returns-in_err-e
unfolding fn_call
fn_call-returns-in_err-e t c =
    rw (passed c.from_residual-in_err-e.ensures.1) (whole_out c.requires.within
    (then_got (reads_leaf _ (mname_is (told c.new.ensures.text c.new.ensures.start c.in_ok-d.ensures))) name_solid.quieted refl c.in_err-e.ensures) refl)

pub fn_call-around-requires-clause-spans : goal.fn_call-around-requires-clause-spans
fn_call-around-requires-clause-spans t c =
    whole_spans call_solid c.requires (then_got (reads_leaf c.args.left (mname_is (told c.new.ensures.text c.new.ensures.start c.in_ok-d.ensures))) name_solid.quieted refl c.in_ok-e.ensures) refl

pub fn_call-returns : goal.fn_call-returns
unfolding fn_call
fn_call-returns t c =
    whole_got c.requires.within call_solid.quieted (then_got (reads_leaf _ (mname_is (told c.new.ensures.text c.new.ensures.start c.in_ok-d.ensures))) name_solid.quieted refl c.in_ok-e.ensures) refl c.around.ensures

pub others-returns-in_default : goal.others-returns-in_default
others-returns-in_default t c = else_first (reads_leaf _ c.in_default.ensures) (λ m e. grind arith)

pub others-returns-in_default-2 : goal.others-returns-in_default-2
others-returns-in_default-2 t c = else_first (reads_leaf _ c.identifier_value.ensures) (λ m e. grind arith)

pub others-after-q-requires : goal.others-after-q-requires
others-after-q-requires t c = left c.identifier_value.ensures _ (c.in-Err-Miss.is ∙ ap Err c.in-Err-Miss.field-0-is)

pub others-after-r-requires : goal.others-after-r-requires
others-after-r-requires t c = left c.current_pc.ensures _ (c.in-Err-Miss-current_pc.is ∙ ap Err c.in-Err-Miss-current_pc.field-0-is)

pub others-after-requires : goal.others-after-requires
others-after-requires t c = missed c.expression_parens.ensures _ (c.in-Err-Miss-expression_parens.is ∙ ap Err c.in-Err-Miss-expression_parens.field-0-is)

pub others-returns-in_default-current_pc : goal.others-returns-in_default-current_pc
others-returns-in_default-current_pc t c =
    else_miss (reads_leaf _ c.identifier_value.ensures) c.in-Err-Miss.is c.in-Err-Miss.field-0-is
    (reads_told c.after-q.ensures.text c.after-q.ensures.start (else_first (reads_leaf _ c.in_default-current_pc.ensures) (λ m e. grind arith)))

pub others-returns-in_default-current_pc-2 : goal.others-returns-in_default-current_pc-2
others-returns-in_default-current_pc-2 t c =
    else_miss (reads_leaf _ c.identifier_value.ensures) c.in-Err-Miss.is c.in-Err-Miss.field-0-is
    (reads_told c.after-q.ensures.text c.after-q.ensures.start (else_first (reads_leaf _ c.current_pc.ensures) (λ m e. grind arith)))

pub others-returns-in_default-expression_parens : goal.others-returns-in_default-expression_parens
others-returns-in_default-expression_parens t c =
    else_miss (reads_leaf _ c.identifier_value.ensures) c.in-Err-Miss.is c.in-Err-Miss.field-0-is
    (reads_told c.after-q.ensures.text c.after-q.ensures.start (else_miss (reads_leaf _ c.current_pc.ensures) c.in-Err-Miss-current_pc.is c.in-Err-Miss-current_pc.field-0-is
    (reads_told c.after-r.ensures.text c.after-r.ensures.start (else_first c.in_default-expression_parens.ensures (λ m e. grind arith)))))

pub others-returns-in_default-expression_parens-2 : goal.others-returns-in_default-expression_parens-2
others-returns-in_default-expression_parens-2 t c =
    else_miss (reads_leaf _ c.identifier_value.ensures) c.in-Err-Miss.is c.in-Err-Miss.field-0-is
    (reads_told c.after-q.ensures.text c.after-q.ensures.start (else_miss (reads_leaf _ c.current_pc.ensures) c.in-Err-Miss-current_pc.is c.in-Err-Miss-current_pc.field-0-is
    (reads_told c.after-r.ensures.text c.after-r.ensures.start (else_first c.expression_parens.ensures (λ m e. grind arith)))))

pub others-returns : goal.others-returns
others-returns t c =
    else_miss (reads_leaf _ c.identifier_value.ensures) c.in-Err-Miss.is c.in-Err-Miss.field-0-is
    (reads_told c.after-q.ensures.text c.after-q.ensures.start (else_miss (reads_leaf _ c.current_pc.ensures) c.in-Err-Miss-current_pc.is c.in-Err-Miss-current_pc.field-0-is
    (reads_told c.after-r.ensures.text c.after-r.ensures.start (else_miss c.expression_parens.ensures c.in-Err-Miss-expression_parens.is c.in-Err-Miss-expression_parens.field-0-is
    (reads_told c.after.ensures.text c.after.ensures.start (reads_leaf _ c.interpolated_string_factor.ensures))))))

pub signed-returns-then-j-c : goal.signed-returns-then-j-c
signed-returns-then-j-c t c =
    signed_none c.args.p.start c.args.p.skips c.sign-i.ensures c.sign-j.ensures c.args.left c.requires c.if-j-c.true

pub signed-returns-in_err-d : goal.signed-returns-in_err-d
signed-returns-in_err-d t c = rw (passed c.from_residual.ensures.1) (signed_out c.args.p.start c.args.p.skips c.sign-i.ensures c.sign-j.ensures c.args.left (reads_told c.new.ensures.text c.new.ensures.start c.in_err-d.ensures) refl)

pub signed-around-requires-clause-spans : goal.signed-around-requires-clause-spans
signed-around-requires-clause-spans t c =
    let behind = c.sign-j.ensures.ready (c.sign-i.ensures.ready (ready_skip c.args.p.ready c.args.p.skips)) in
    let st = stepped inner_solid c.in_ok-d.d behind.within ((reads_told c.new.ensures.text c.new.ensures.start c.in_ok-d.ensures).reading 0) refl in
    around_fits c.args.p.ready (ready_step behind st) (omega (arith, st.grown, c.sign-i.ensures.grown, c.sign-j.ensures.grown)) _
    c.args.p.skips.within

pub signed-returns : goal.signed-returns
signed-returns t c = signed_got c.args.p.start c.args.p.skips c.sign-i.ensures c.sign-j.ensures c.args.left (reads_told c.new.ensures.text c.new.ensures.start c.in_ok-d.ensures) c.in_ok-d.d refl c.around.ensures

pub chain-returns-in_err-d : goal.chain-returns-in_err-d
chain-returns-in_err-d t c = rw (passed c.from_residual.ensures.1) (level_out c.args.level c.in_err-d.ensures refl)

pub chain-loop-e-init : goal.chain-loop-e-init
chain-loop-e-init t c =
    let s1 = stepped (part_solid c.args.level) c.in_ok-d.d c.args.p.ready.within (c.in_ok-d.ensures.reading 0) refl in
    chained_none _ _ _ _ _ _ _ _ _ _ s1.within s1.grown

pub chain-next_part-requires : goal.chain-next_part-requires
chain-next_part-requires t c =
    (omega arith, progress_ready c.loop-e.invariant.progress (reads_ready (part_solid c.args.level) c.args.p.ready c.in_ok-d.ensures))

pub chain-around-d-requires-clause-spans : goal.chain-around-d-requires-clause-spans
chain-around-d-requires-clause-spans t c =
    let st = chain_step (next_solid c.args.level) c.loop-e.invariant c.next_part.ensures c.in-Ok.e c.in-Ok.is in
    let before : Ready 8 c.args.p.text.now c.loop-e.d = progress_ready c.loop-e.invariant.progress (reads_ready (part_solid c.args.level) c.args.p.ready c.in_ok-d.ensures) in
    around_fits (ready_met (ready_skip c.args.p.ready c.args.p.skips) c.args.p.start.met) (ready_step before st)
    (omega (arith, st.grown, c.loop-e.invariant.grown)) _
    c.args.p.skips.within

pub chain-loop-e-smaller : goal.chain-loop-e-smaller
chain-loop-e-smaller t c =
    let st = chain_step (next_solid c.args.level) c.loop-e.invariant c.next_part.ensures c.in-Ok.e c.in-Ok.is in
    rw c.around-d.ensures.is (omega (arith, st.on, st.within))

pub chain-loop-e-preserved : goal.chain-loop-e-preserved
chain-loop-e-preserved t c =
    let f = c.around-d.ensures in
    rw f.is
    (chain_more (next_solid c.args.level) c.loop-e.invariant c.next_part.ensures (next_pays c.args.level) c.in-Ok.e c.in-Ok.is f.size f.counts
    c.next_part.auto.rows f.table c.around-d.auto.rows)

pub chain-returns-in-Err-Miss : goal.chain-returns-in-Err-Miss
chain-returns-in-Err-Miss t c =
    rw c.in-Err-Miss.met-is
    (level_got c.args.level c.args.p.skips c.in_ok-d.d refl c.in_ok-d.ensures
    (chain_end (next_solid c.args.level) c.loop-e.invariant c.next_part.ensures _ (c.in-Err-Miss.is ∙ ap Err c.in-Err-Miss.field-0-is)))

pub chain-returns-in-Err-Deep : goal.chain-returns-in-Err-Deep
chain-returns-in-Err-Deep t c =
    level_got c.args.level c.args.p.skips c.in_ok-d.d refl c.in_ok-d.ensures
    (chain_deep (next_solid c.args.level) c.loop-e.invariant c.next_part.ensures (c.in-Err-Deep.is ∙ ap Err c.in-Err-Deep.field-0-is))

pub expression-returns : goal.expression-returns
unfolding chain_of
expression-returns t c = c.chain.ensures

pub expression_term-returns : goal.expression_term-returns
unfolding chain_of
expression_term-returns t c = c.chain.ensures

pub next_part-returns-in_err-d : goal.next_part-returns-in_err-d
next_part-returns-in_err-d t c = rw (passed c.from_residual.ensures.1) (then_out (reads_leaf _ c.in_err-d.ensures) refl)

pub next_part-new-requires : goal.next_part-new-requires
next_part-new-requires t c = leaf_ready (operator_solid c.args.level) c.requires c.in_ok-d.ensures

pub next_part-returns : goal.next_part-returns
next_part-returns t c = then_got (reads_leaf _ c.in_ok-d.ensures) (operator_solid c.args.level).quieted refl (reads_told c.new.ensures.text c.new.ensures.start c.part.ensures)

pub part-returns-in-Terms : goal.part-returns-in-Terms
unfolding part_of
part-returns-in-Terms t c = rw c.in-Terms.is c.expression_term.ensures

pub part-returns-in-Factors : goal.part-returns-in-Factors
unfolding part_of
part-returns-in-Factors t c = rw c.in-Factors.is c.expression_factor.ensures

pub signed-sign-j-requires : goal.signed-sign-j-requires
signed-sign-j-requires t c = c.sign-i.ensures.ready (ready_skip c.args.p.ready c.args.p.skips)

pub signed-new-requires : goal.signed-new-requires
signed-new-requires t c = c.sign-j.ensures.ready (c.sign-i.ensures.ready (ready_skip c.args.p.ready c.args.p.skips))
