use mathlib.Core.Path.{refl}
use Rattle.lexis.proofs.Marks.{told}
use Rattle.cursor.proofs.Exits.{passed}
use mathlib.Core.Path.{sym, ◌∙◌}
use Rattle.literal.proofs.Strings.{interpolation_no, interpolation_out, interpolation_open, interpolation_got, inner_ready}
use Rattle.literal.proofs.text.interpolation.Goals as goal

pub returns-then-not-byte_is : goal.returns-then-not-byte_is
returns-then-not-byte_is c = interpolation_no (sym c.byte_is.ensures ∙ c.if-not-byte_is.true) _

pub returns-in_err-d : goal.returns-in_err-d
returns-in_err-d c =
    rw (passed c.from_residual.ensures.1) (interpolation_out c.requires (sym c.byte_is.ensures ∙ c.if-not-byte_is.false) (told c.new.ensures.text c.new.ensures.start c.in_err-d.ensures) refl)

pub returns-then-not-byte_is-2 : goal.returns-then-not-byte_is-2
returns-then-not-byte_is-2 c =
    interpolation_open c.requires (sym c.byte_is.ensures ∙ c.if-not-byte_is.false) (told c.new.ensures.text c.new.ensures.start c.in_ok-d.ensures) _ refl
    (sym c.byte_is-2.ensures ∙ c.if-not-byte_is-2.true)

pub returns : goal.returns
returns c =
    interpolation_got c.requires (sym c.byte_is.ensures ∙ c.if-not-byte_is.false) (told c.new.ensures.text c.new.ensures.start c.in_ok-d.ensures) _ refl
    (sym c.byte_is-2.ensures ∙ c.if-not-byte_is-2.false)

pub new-requires : goal.new-requires
new-requires c = inner_ready c.requires (sym c.byte_is.ensures ∙ c.if-not-byte_is.false)
