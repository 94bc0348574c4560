-- A case for each fraction of the definition.
use mathlib.Core.Bool.{or-true}
use borrow.Author.Tests.{eq-eqb, ne_eqb}
use lib.Dec.{eqb}
use Rattle.share.proofs.Divisors.{share_none, share_some}
use Rattle.share.proofs.reduced.Goals as goal
use Rattle.share.proofs.reduced.Goals.{then-a-eq0-via-then-a-eq0, then-a-eq0-via-else-a-eq0+then-b-eq0}

pub returns-then-a-eq0 : goal.returns-then-a-eq0
returns-then-a-eq0 c =
    share_none _ _
    (elim c.then-a-eq0.branch [
      | then-a-eq0-via-then-a-eq0 w ↦ rw (eq-eqb c.args.a 0 w.if-a-eq0.true)
      | then-a-eq0-via-else-a-eq0+then-b-eq0 w ↦ rw (eq-eqb c.args.b 0 w.if-b-eq0.true, or-true (eqb c.args.a 0))
    ])

pub returns : goal.returns
returns c = share_some _ _ _ (rw (ne_eqb c.args.a 0 c.if-a-eq0.false, ne_eqb c.args.b 0 c.if-b-eq0.false)) c.gcd-d.ensures.0
