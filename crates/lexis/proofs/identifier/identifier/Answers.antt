-- The first alternative that fits.
use Rattle.reading.specs.Rules.{identifier_name}
use Rattle.lexis.proofs.Ends.{or_found, or_no}
use Rattle.lexis.proofs.identifier.identifier.Goals as goal

pub returns-in_default : goal.returns-in_default
returns-in_default c = or_found identifier_name _ c.in_default.not-None c.scope.ensures

pub returns-in-None : goal.returns-in-None
unfolding identifier_name
returns-in-None c =
    or_no identifier_name c.in-None.ensures c.name_end.ensures
