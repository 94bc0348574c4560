use mathlib.Core.Path.{ap, ◌∙◌}
use Rattle.std.specs.Prelude.{Err}
use Rattle.expression.proofs.Parts.{modifier_solid, modified_got, modified_miss}
use Rattle.expression.proofs.Steps.{leaf_not_deep}
use Rattle.lexis.proofs.Marks.{told, left}
use Rattle.cursor.proofs.Laws.{ready_on, reads_leaf}
use Rattle.expression.proofs.modified_path.Goals as goal

pub new-requires : goal.new-requires
new-requires c = ready_on modifier_solid _ c.args.p.ready (reads_leaf 0 c.modifier.ensures) c.in-Ok.is

pub after-requires : goal.after-requires
after-requires c = left c.modifier.ensures _ (c.in-Err-Miss.is ∙ ap Err c.in-Err-Miss.field-0-is)

pub returns-in-Ok : goal.returns-in-Ok
returns-in-Ok c = modified_got c.modifier.ensures c.in-Ok.is (told c.new.ensures.text c.new.ensures.start c.path.ensures)

pub returns-in-Err-Miss : goal.returns-in-Err-Miss
returns-in-Err-Miss c =
    modified_miss c.modifier.ensures c.in-Err-Miss.is c.in-Err-Miss.field-0-is (told c.after.ensures.text c.after.ensures.start c.path-in-Err-Miss.ensures)

pub returns-in-Err-Deep : goal.returns-in-Err-Deep
returns-in-Err-Deep c = leaf_not_deep c.modifier.ensures c.in-Err-Deep.is c.in-Err-Deep.field-0-is
