use mathlib.Core.Path.{refl, ap, ◌∙◌}
use Rattle.std.specs.Prelude.{Err}
use mathlib.Core.Bool.{true}
use native.Mathlib.Omega.{arith}
use Rattle.reading.specs.Grammar.{config}
use Rattle.reading.specs.Rules.{config_value, kvp}
use Rattle.cursor.proofs.Laws.{reads_leaf, stepped}
use Rattle.cursor.proofs.Loops.{looped_none}
use Rattle.cursor.proofs.Exits.{passed}
use Rattle.lexis.proofs.Marks.{told}
use Rattle.lexis.proofs.Solids.{char_solid}
use Rattle.operand.proofs.Facts.{multiline_quiet, key_solid, pairs_solid, assigned_solid, value_quiet, value_slim, value_cost}
use Rattle.expression.proofs.Steps.{ready_step, leaf_ready, then_out, then_got, else_first, else_miss, rule_reads, row_out, row_got, inside_out, inside_none, inside_on}
use Rattle.expression.proofs.Steps.{skips_told}
use Rattle.operand.proofs.Steps.{over_misses, over_lacks, onward, onward_solid, onward_then, onward_behind, onward_finished, spans}
use Rattle.operand.proofs.Pairs.{map_misses, map_done, pairs_round, pairs_more, pairs_end, pairs_deep, kvp_done}
use Rattle.operand.proofs.config_map.+config_map.Goals as goal

pub assigned-returns-in_err-d : goal.assigned-returns-in_err-d
assigned-returns-in_err-d t c = rw (passed c.from_residual.ensures.1) (then_out (reads_leaf _ c.in_err-d.ensures) refl)

pub assigned-value-requires : goal.assigned-value-requires
assigned-value-requires t c =
    let st = stepped (char_solid true 61) c.in_ok-d.d c.requires.within (c.in_ok-d.ensures.reading 0 0) refl in
    (omega arith, (ready_step c.requires st, omega (arith, st.on)))

pub assigned-returns : goal.assigned-returns
assigned-returns t c = then_got (reads_leaf _ c.in_ok-d.ensures) (char_solid true 61).quieted refl c.value.ensures

pub config_map-returns-in_err-d : goal.config_map-returns-in_err-d
config_map-returns-in_err-d t c =
    rw (passed c.from_residual.ensures.1) (map_misses (inside_out (told c.new-p.ensures.text c.new-p.ensures.start c.in_err-d.ensures) refl) refl)

pub config_map-returns-then-left-eq0 : goal.config_map-returns-then-left-eq0
config_map-returns-then-left-eq0 t c =
    map_misses (inside_none (told c.new-p.ensures.text c.new-p.ensures.start c.in_ok-d.ensures) multiline_quiet refl c.if-left-eq0.true) refl

pub config_map-kvps-requires : goal.config_map-kvps-requires
config_map-kvps-requires t c = (omega arith, leaf_ready (char_solid true 123) c.requires (told c.new-p.ensures.text c.new-p.ensures.start c.in_ok-d.ensures))

pub config_map-returns-in_err-e : goal.config_map-returns-in_err-e
config_map-returns-in_err-e t c =
    rw (passed c.from_residual-in_err-e.ensures.1)
    (map_misses (inside_on (told c.new-p.ensures.text c.new-p.ensures.start c.in_ok-d.ensures) multiline_quiet refl c.if-left-eq0.false c.in_err-e.ensures) refl)

pub config_map-around-y-requires-clause-spans : goal.config_map-around-y-requires-clause-spans
config_map-around-y-requires-clause-spans t c =
    let p = c.new-p.ensures in
    let a = onward_solid (char_solid true 123) c.requires.within (reads_leaf 0 (told p.text p.start c.in_ok-d.ensures)) refl in
    let b = onward_then a (onward_solid pairs_solid a.within c.in_ok-e.ensures refl) in
    spans c.requires (skips_told p.text p.start c.new-p.result.skips) (omega arith) b

pub config_map-around-requires-clause-spans : goal.config_map-around-requires-clause-spans
config_map-around-requires-clause-spans t c =
    let p = c.new-p.ensures in
    let a = onward_solid (char_solid true 123) c.requires.within (reads_leaf 0 (told p.text p.start c.in_ok-d.ensures)) refl in
    let b = onward_then a (onward_solid pairs_solid a.within c.in_ok-e.ensures refl) in
    spans c.requires (skips_told p.text p.start c.new-p.result.skips) (omega arith) (onward_finished b c.around-y.ensures)

pub config_map-returns : goal.config_map-returns
config_map-returns t c =
    let p = c.new-p.ensures in
    map_done (inside_on (told p.text p.start c.in_ok-d.ensures) multiline_quiet refl c.if-left-eq0.false c.in_ok-e.ensures)
    (skips_told p.text p.start c.new-p.result.skips) refl c.around-y.ensures c.around.ensures

pub config_value-returns-in_default : goal.config_value-returns-in_default
unfolding config_value
config_value-returns-in_default t c = else_first (rule_reads config tt c.requires.le_at c.requires.ready.within c.in_default.ensures) (λ m e. grind arith)

pub config_value-returns-in_default-2 : goal.config_value-returns-in_default-2
unfolding config_value
config_value-returns-in_default-2 t c = else_first (rule_reads config tt c.requires.le_at c.requires.ready.within c.config_map.ensures) (λ m e. grind arith)

pub config_value-returns : goal.config_value-returns
unfolding config_value
config_value-returns t c = else_miss (rule_reads config tt c.requires.le_at c.requires.ready.within c.config_map.ensures) c.in-Err-Miss.is c.in-Err-Miss.field-0-is c.expression_value.ensures

pub kvp-returns-in_err-d : goal.kvp-returns-in_err-d
unfolding kvp
kvp-returns-in_err-d t c =
    rw (passed c.from_residual.ensures.1) (over_misses (reads_leaf _ (told c.new-p.ensures.text c.new-p.ensures.start c.in_err-d.ensures)) refl)

pub kvp-assigned-requires : goal.kvp-assigned-requires
kvp-assigned-requires t c = (omega arith, leaf_ready key_solid c.requires (told c.new-p.ensures.text c.new-p.ensures.start c.in_ok-d.ensures))

pub kvp-returns-in_err-e : goal.kvp-returns-in_err-e
unfolding kvp
kvp-returns-in_err-e t c =
    rw (passed c.from_residual-in_err-e.ensures.1)
    (over_lacks (reads_leaf _ (told c.new-p.ensures.text c.new-p.ensures.start c.in_ok-d.ensures)) key_solid.quieted refl c.in_err-e.ensures refl)

pub kvp-around-requires-clause-spans : goal.kvp-around-requires-clause-spans
kvp-around-requires-clause-spans t c =
    let p = c.new-p.ensures in
    let a = onward_solid key_solid c.requires.within (reads_leaf 0 (told p.text p.start c.in_ok-d.ensures)) refl in
    spans c.requires (skips_told p.text p.start c.new-p.result.skips) (omega arith) (onward_then a (onward_solid assigned_solid a.within c.in_ok-e.ensures refl))

pub kvp-returns : goal.kvp-returns
kvp-returns t c =
    let p = c.new-p.ensures in
    kvp_done (skips_told p.text p.start c.new-p.result.skips) (told p.text p.start c.in_ok-d.ensures) c.in_ok-e.ensures refl c.around.ensures

pub kvps-loop-e-init : goal.kvps-loop-e-init
kvps-loop-e-init t c = looped_none _ _ _ _ _ _ _ c.requires.within

pub kvps-loop-e-smaller : goal.kvps-loop-e-smaller
kvps-loop-e-smaller t c =
    let st = pairs_round c.loop-e.invariant c.kvp.ensures c.in-Ok.is in
    omega (arith, st.on, st.within)

pub kvps-loop-e-preserved : goal.kvps-loop-e-preserved
kvps-loop-e-preserved t c = pairs_more c.loop-e.invariant c.kvp.ensures c.in-Ok.is c.kvp.auto.rows

pub kvps-returns-in-Err-Miss : goal.kvps-returns-in-Err-Miss
kvps-returns-in-Err-Miss t c = pairs_end c.loop-e.invariant c.kvp.ensures c.in-Err-Miss.is c.in-Err-Miss.field-0-is c.mchar.ensures

pub kvps-returns-in-Err-Deep : goal.kvps-returns-in-Err-Deep
kvps-returns-in-Err-Deep t c = pairs_deep c.loop-e.invariant c.kvp.ensures (c.in-Err-Deep.is ∙ ap Err c.in-Err-Deep.field-0-is)

pub value-returns-in_err-d : goal.value-returns-in_err-d
value-returns-in_err-d t c = rw (passed c.from_residual.ensures.1) (row_out c.multiline_trivia-k.ensures c.in_err-d.ensures.reading refl)

pub value-around-requires-clause-spans : goal.value-around-requires-clause-spans
value-around-requires-clause-spans t c =
    let v = onward config_value value_quiet value_slim 1 value_cost c.multiline_trivia-k.ensures.within c.in_ok-d.ensures refl in
    spans c.requires.ready c.multiline_trivia-k.ensures (omega arith) (onward_behind c.multiline_trivia-k.ensures v)

pub value-returns : goal.value-returns
value-returns t c = row_got c.multiline_trivia-k.ensures c.in_ok-d.ensures.reading value_quiet c.in_ok-d.d refl 0 (λ l v b j p. refl) c.around.ensures
