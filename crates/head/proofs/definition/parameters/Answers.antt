use mathlib.Core.Path.{refl}
use Rattle.expression.proofs.Steps.{leaf_ready}
use Rattle.head.proofs.Steps.{flat_leaf, flat_passed, flat_on, flat_optional}
use Rattle.head.proofs.Bounds.{next}
use Rattle.head.specs.Heads.{char_of, parameters}
use Rattle.head.proofs.Tests.{char_solid, names_owing}
use Rattle.head.proofs.definition.parameters.Goals as goal

pub returns-in_err-d : goal.returns-in_err-d
unfolding parameters char_of
returns-in_err-d c = flat_passed (flat_leaf c.in_err-d.ensures) c.from_residual.ensures.1

pub identifier_arg_list-g-requires : goal.identifier_arg_list-g-requires
identifier_arg_list-g-requires c = leaf_ready (char_solid 40) c.requires c.in_ok-d.ensures

pub returns-in_err-e : goal.returns-in_err-e
unfolding parameters char_of
returns-in_err-e c =
    flat_on (flat_leaf c.in_ok-d.ensures) (char_solid 40).quieted
    (flat_passed (flat_optional c.identifier_arg_list-g.ensures c.in_err-e.ensures) c.from_residual-in_err-e.ensures.1)

pub char-requires-2 : goal.char-requires-2
char-requires-2 c =
    let a = flat_optional c.identifier_arg_list-g.ensures c.in_ok-e.ensures in
    (next names_owing (leaf_ready (char_solid 40) c.requires c.in_ok-d.ensures) (a.reads 0) refl).ready

pub returns : goal.returns
unfolding parameters char_of
returns c =
    flat_on (flat_leaf c.in_ok-d.ensures) (char_solid 40).quieted
    (flat_on (flat_optional c.identifier_arg_list-g.ensures c.in_ok-e.ensures) names_owing.quieted (flat_leaf c.char-2.ensures))
