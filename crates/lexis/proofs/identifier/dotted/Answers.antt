-- No dot, or what stands behind it.
use mathlib.Core.Path.{refl, sym, ◌∙◌}
use Rattle.lexis.specs.Finds.{identifier}
use Rattle.lexis.proofs.Ends.{byte_at, byte_no, seq_at, seq_no}
use Rattle.lexis.proofs.identifier.dotted.Goals as goal

pub returns-then-not-byte_is : goal.returns-then-not-byte_is
returns-then-not-byte_is c = seq_no identifier (byte_no 46 _ _ (sym c.byte_is.ensures ∙ c.if-not-byte_is.true))

pub returns : goal.returns
returns c =
    seq_at identifier tt (byte_at 46 _ _ (sym c.byte_is.ensures ∙ c.if-not-byte_is.false) (record { 0 = _ }) refl)
    c.identifier.ensures
