-- The word's row, or none.
use native.Mathlib.Omega.{arith}
use Rattle.lexis.proofs.Words.{chosen_word, chosen_none, fitting_word}
use Rattle.lexis.proofs.operator.picked.Goals as goal

pub returns-in_default : goal.returns-in_default
returns-in_default c = chosen_none _ c.in_default.is

pub overflow_add-k : goal.overflow_add-k
overflow_add-k c = omega (arith, fitting_word _ _ c.in-Some.is c.requires.fitting)

pub row-requires : goal.row-requires
row-requires c =
    let h = c.requires.count_bound in
    let f = fitting_word _ _ c.in-Some.is c.requires.fitting in
    (h.0, h.1, h.2, f.0, f.1)

pub returns : goal.returns
returns c = chosen_word _ _ c.in-Some.is c.row.ensures
