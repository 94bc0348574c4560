use Rattle.reading.specs.Rules.{interpolated_string_factor}
use Rattle.expression.proofs.Parts.{string_solid}
use mathlib.Core.Path.{refl}
use Rattle.cursor.proofs.Exits.{passed}
use Rattle.cursor.proofs.Laws.{reads_leaf}
use Rattle.expression.proofs.Steps.{leaf_out, leaf_got, whole_spans}
use Rattle.expression.proofs.interpolated_string_factor.Goals as goal

pub returns-in_err-d : goal.returns-in_err-d
unfolding interpolated_string_factor
returns-in_err-d c = rw (passed c.from_residual.ensures.1) (leaf_out c.args.p.ready.within c.in_err-d.ensures refl)

pub around-requires-clause-spans : goal.around-requires-clause-spans
around-requires-clause-spans c = whole_spans string_solid c.args.p.ready (reads_leaf 0 c.in_ok-d.ensures) refl

pub returns : goal.returns
unfolding interpolated_string_factor
returns c = leaf_got c.args.p.ready.within string_solid.quieted c.in_ok-d.ensures refl c.around.ensures
