-- The text ends; no sign; a sign at the end; a sign with a letter or digit behind it; a sign alone.
use mathlib.Core.Bool.{◌||◌}
use mathlib.Core.Path.{refl, ap₂, sym, ◌∙◌}
use Rattle.reading.specs.Byte.{alphanumeric}
use Rattle.lexis.proofs.Ends.{one_at, one_no, one_end, never_at, never_no}
use Rattle.lexis.proofs.Paths.{scope_end, scope_no, scope_at}
use Rattle.lexis.proofs.identifier.scope.Goals as goal

pub returns-then-s-i : goal.returns-then-s-i
returns-then-s-i c = scope_end _ _ c.if-s-i.true

pub returns-then-not-b : goal.returns-then-not-b
returns-then-not-b c = scope_no _ _ c.if-s-i.false c.if-not-b.true

pub returns-then-s-j : goal.returns-then-s-j
returns-then-s-j c =
    scope_at _ _ c.if-s-i.false c.if-not-b.false (never_no (one_end alphanumeric _ _ c.if-s-j.true) _ refl)

pub returns-then-has : goal.returns-then-has
returns-then-has c =
    scope_at _ _ c.if-s-i.false c.if-not-b.false
    (never_at tt (one_at alphanumeric _ _ c.if-s-j.false (sym (ap₂ ◌||◌ c.has.ensures c.has-2.ensures) ∙ c.if-has.true) (record { 0 = _ }) refl))

pub returns : goal.returns
returns c =
    scope_at _ _ c.if-s-i.false c.if-not-b.false
    (never_no (one_no alphanumeric _ _ c.if-s-j.false (sym (ap₂ ◌||◌ c.has.ensures c.has-2.ensures) ∙ c.if-has.false)) _ refl)
