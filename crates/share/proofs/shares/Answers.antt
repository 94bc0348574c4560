-- A case for each answer: the tests that led to it are those of the definition.
use mathlib.Core.Path.{sym}
use native.Mathlib.Omega.{arith}
use Rattle.share.proofs.Tests.{too_many, some_wrong, all_found}
use Rattle.share.proofs.shares.Goals as goal

pub returns-then-n-gt-MAX_TEXTS-clause-told : goal.returns-then-n-gt-MAX_TEXTS-clause-told
returns-then-n-gt-MAX_TEXTS-clause-told c = rw c.count-n.ensures (too_many _ (omega (arith, c.if-n-gt-MAX_TEXTS.true, c.count-n.ensures)))

pub returns-in-Some-clause-told : goal.returns-in-Some-clause-told
returns-in-Some-clause-told c = some_wrong _ (omega (arith, c.if-n-gt-MAX_TEXTS.false, c.count-n.ensures)) _ (sym c.in-Some.ensures)

pub returns-clause-told : goal.returns-clause-told
returns-clause-told c = all_found _ (omega (arith, c.if-n-gt-MAX_TEXTS.false, c.count-n.ensures)) _ _ c.in_default.ensures c.pooled.ensures c.three_largest.ensures
