use mathlib.Core.Path.{refl, sym, ◌∙◌}
use Rattle.reading.specs.Byte.{bytes, digit}
use Rattle.lexis.proofs.Ends.{or_at, or_no, some_at, some_no, word_at, word_no}
use Rattle.literal.proofs.numeral.numeral.Goals as goal

pub returns-then-i-e : goal.returns-then-i-e
returns-then-i-e c = or_at _ (some_at digit _ _ _ c.digits_end-e.ensures c.if-i-e.true)

pub returns-then-begins : goal.returns-then-begins
returns-then-begins c =
    or_no _ (some_no digit _ _ _ c.digits_end-e.ensures c.if-i-e.false) (or_at _ (word_at (bytes "true") _ _ (sym c.begins.ensures ∙ c.if-begins.true) _ refl))

pub returns-then-begins-2 : goal.returns-then-begins-2
returns-then-begins-2 c =
    or_no _ (some_no digit _ _ _ c.digits_end-e.ensures c.if-i-e.false)
    (or_no _ (word_no (bytes "true") _ _ (sym c.begins.ensures ∙ c.if-begins.false))
    (word_at (bytes "false") _ _ (sym c.begins-2.ensures ∙ c.if-begins-2.true) _ refl))

pub returns : goal.returns
returns c =
    or_no _ (some_no digit _ _ _ c.digits_end-e.ensures c.if-i-e.false)
    (or_no _ (word_no (bytes "true") _ _ (sym c.begins.ensures ∙ c.if-begins.false))
    (word_no (bytes "false") _ _ (sym c.begins-2.ensures ∙ c.if-begins-2.false)))
