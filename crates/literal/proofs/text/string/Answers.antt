use mathlib.Core.Path.{refl}
use Rattle.cursor.proofs.Exits.{passed}
use mathlib.Core.Path.{sym, ◌∙◌}
use Rattle.literal.proofs.Strings.{string_out, quote_ready, string_no, string_spans, string_open, string_got}
use Rattle.literal.proofs.text.string.Goals as goal

pub returns-in_err-d : goal.returns-in_err-d
returns-in_err-d c =
    rw (passed c.from_residual.ensures.1) (string_out c.args.interpolated c.args.p.skips c.in_err-d.ensures refl)

pub items-requires : goal.items-requires
items-requires c =
    quote_ready c.args.interpolated c.args.p.skips c.in_ok-d.ensures _ refl c.args.p.ready

pub returns-in_err-e : goal.returns-in_err-e
returns-in_err-e c =
    rw (passed c.from_residual-in_err-e.ensures.1) (string_no c.args.interpolated c.args.p.skips c.in_ok-d.ensures _ refl c.in_err-e.ensures refl)

pub returns-then-not-byte_is : goal.returns-then-not-byte_is
returns-then-not-byte_is c =
    string_open c.args.interpolated c.args.p.skips c.in_ok-d.ensures _ refl c.in_ok-e.ensures _ refl
    (sym c.byte_is.ensures ∙ c.if-not-byte_is.true)

pub around-requires-clause-spans : goal.around-requires-clause-spans
around-requires-clause-spans c =
    string_spans c.args.interpolated c.args.p.skips c.in_ok-d.ensures _ refl c.in_ok-e.ensures _ refl c.args.p.ready

pub returns : goal.returns
returns c =
    string_got c.args.interpolated c.args.p.skips c.in_ok-d.ensures _ refl c.in_ok-e.ensures _ refl
    (sym c.byte_is.ensures ∙ c.if-not-byte_is.false) c.around.ensures
