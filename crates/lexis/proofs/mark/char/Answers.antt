-- The byte stands there, and has a row; or it does not.
use mathlib.Core.Path.{refl, sym, ◌∙◌}
use Rattle.lexis.proofs.Ends.{byte_at, byte_no}
use Rattle.lexis.proofs.Marks.{behind_found, behind_none}
use Rattle.lexis.proofs.mark.char.Goals as goal

pub returns-then-is : goal.returns-then-is
returns-then-is g c =
    let b = c.args.b in
    behind_found c.args.p.skips _ b tt (byte_at b _ _ (sym c.is.ensures ∙ c.if-is.true) _ refl) c.row.ensures

pub returns : goal.returns
returns g c =
    let b = c.args.b in
    behind_none c.args.p.skips _ b c.miss.ensures (byte_no b _ _ (sym c.is.ensures ∙ c.if-is.false))
