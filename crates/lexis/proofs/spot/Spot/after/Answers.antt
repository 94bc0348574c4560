-- The flag of the miss goes on.
use Rattle.lexis.proofs.Marks.{skips_next}
use Rattle.lexis.proofs.spot.Spot.after.Goals as goal

pub invariant_of-result-clause-skips : goal.invariant_of-result-clause-skips
invariant_of-result-clause-skips g c = skips_next c.args.self.skips c.args.met c.requires.0 c.requires.1
