-- The comma, and then the register.
use mathlib.Core.Path.{refl}
use Rattle.lexis.proofs.Suffixes.{suffix_out, suffix_in, comma_ready}
use Rattle.std.proofs.lemmas.Result.{err_from_is_err_and}
use Rattle.lexis.proofs.operator.suffix.Goals as goal

pub returns-in_err-d : goal.returns-in_err-d
returns-in_err-d c =
    let p = err_from_is_err_and c.from_residual.result c.from_residual.ensures.1 in
    rw (p.1, p.2) (suffix_out c.in_err-d.ensures refl)

pub register-requires : goal.register-requires
register-requires c = comma_ready c.in_ok-d.ensures _ refl c.requires

pub returns : goal.returns
returns c = suffix_in c.in_ok-d.ensures _ refl c.register.ensures
