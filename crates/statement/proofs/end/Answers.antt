use mathlib.Core.Path.{refl}
use Rattle.cursor.proofs.Exits.{passed}
use native.Mathlib.Omega.{arith}
use Rattle.statement.proofs.Tests.{eof_sober, eof_debt}
use Rattle.statement.proofs.Drafts.{fit_count, lined_out, lined_got, numbered_behind, few_behind}
use Rattle.statement.proofs.end.Goals as goal

pub returns-in_err-d : goal.returns-in_err-d
returns-in_err-d c = rw (passed c.from_residual.ensures.1) (lined_out c.in_err-d.ensures refl)

pub overflow_add-n : goal.overflow_add-n
overflow_add-n c =
    omega (
      arith,
      few_behind c.in_ok-d.ensures c.in_ok-d.d c.in_ok-d.x refl c.requires.fit eof_sober c.requires.on.1,
      eof_debt,
      fit_count c.requires.fit,
    )

pub number-requires : goal.number-requires
number-requires c =
    (c.requires.fit.small, c.requires.on.0, omega arith, numbered_behind c.in_ok-d.ensures c.in_ok-d.d c.in_ok-d.x refl c.requires.on.1)

pub returns : goal.returns
returns c = lined_got c.in_ok-d.ensures c.in_ok-d.d c.in_ok-d.x refl c.number.ensures.1
