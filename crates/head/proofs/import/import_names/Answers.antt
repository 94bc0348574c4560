use mathlib.Core.Path.{refl}
use Rattle.lexis.proofs.Marks.{told}
use Rattle.head.proofs.Steps.{flat_leaf, flat_passed, flat_on}
use Rattle.head.proofs.Bounds.{next}
use Rattle.head.specs.Heads.{import_names}
use Rattle.head.proofs.Tests.{import_args_owing}
use Rattle.head.proofs.import.import_names.Goals as goal

pub returns-in_err-d : goal.returns-in_err-d
unfolding import_names
returns-in_err-d c = flat_passed c.in_err-d.ensures c.from_residual.ensures.1

pub new-requires : goal.new-requires
new-requires c = (next import_args_owing c.requires (c.in_ok-d.ensures.reads 0) refl).ready

pub returns : goal.returns
unfolding import_names
returns c = flat_on c.in_ok-d.ensures import_args_owing.quieted (flat_leaf (told c.new.ensures.text c.new.ensures.start c.word.ensures))
