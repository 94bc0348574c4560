use mathlib.Core.Path.{refl}
use Rattle.cursor.proofs.Laws.{reads_leaf}
use Rattle.expression.proofs.Steps.{leaf_ready, then_got}
use Rattle.head.proofs.Steps.{seq_passed, reads_optional}
use Rattle.head.proofs.Bounds.{next, past}
use Rattle.head.specs.Heads.{char_of, traced}
use Rattle.head.proofs.Tests.{char_solid, arguments_owing}
use Rattle.head.proofs.directive.traced.Goals as goal

pub returns-in_err-d : goal.returns-in_err-d
unfolding traced char_of
returns-in_err-d c = seq_passed (reads_leaf _ c.in_err-d.ensures) c.from_residual.ensures.1

pub expression_arg_list-g-requires-clause-behind_byte : goal.expression_arg_list-g-requires-clause-behind_byte
expression_arg_list-g-requires-clause-behind_byte c = past (char_solid 40) c.requires (reads_leaf 0 c.in_ok-d.ensures) refl

pub expression_arg_list-g-requires-clause-ready : goal.expression_arg_list-g-requires-clause-ready
expression_arg_list-g-requires-clause-ready c = leaf_ready (char_solid 40) c.requires c.in_ok-d.ensures

pub returns-in_err-e : goal.returns-in_err-e
unfolding traced char_of
returns-in_err-e c =
    then_got (reads_leaf _ c.in_ok-d.ensures) (char_solid 40).quieted refl
    (seq_passed (reads_optional c.expression_arg_list-g.ensures c.in_err-e.ensures) c.from_residual-in_err-e.ensures.1)

pub char-requires-2 : goal.char-requires-2
char-requires-2 c =
    let d = leaf_ready (char_solid 40) c.requires c.in_ok-d.ensures in
    (next arguments_owing d (reads_optional c.expression_arg_list-g.ensures c.in_ok-e.ensures) refl).ready

pub returns : goal.returns
unfolding traced char_of
returns c =
    then_got (reads_leaf _ c.in_ok-d.ensures) (char_solid 40).quieted refl
    (then_got (reads_optional c.expression_arg_list-g.ensures c.in_ok-e.ensures) arguments_owing.quieted refl (reads_leaf _ c.char-2.ensures))
