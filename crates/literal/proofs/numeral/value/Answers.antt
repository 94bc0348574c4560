use mathlib.Core.Path.{ap₂, sym, ◌∙◌}
use mathlib.Core.List.{[], ◌∷◌}
use lib.ListN.{drop}
use Rattle.reading.specs.Byte.{begins}
use Rattle.lexis.proofs.Marks.{told}
use Rattle.literal.proofs.Numbers.{at_hex, at_binary, at_decimal}
use Rattle.literal.proofs.numeral.value.Goals as goal

pub returns-then-is : goal.returns-then-is
returns-then-is c =
    at_hex c.args.p.skips (sym c.is.ensures ∙ c.if-is.true) c.radix.ensures

pub returns-then-is-2 : goal.returns-then-is-2
returns-then-is-2 c =
    let q = c.again-q.ensures in
    let same = ap₂ (λ s k. begins (37 ∷ []) (drop k.at.0 s)) (sym q.text) (sym q.end) in
    at_binary c.args.p.skips (sym c.is.ensures ∙ c.if-is.false) (same ∙ sym c.is-2.ensures ∙ c.if-is-2.true)
    (told q.text q.start c.radix-then-is-2.ensures)

pub returns : goal.returns
returns c =
    let q = c.again-q.ensures in
    let same = ap₂ (λ s k. begins (37 ∷ []) (drop k.at.0 s)) (sym q.text) (sym q.end) in
    at_decimal c.args.p.skips (sym c.is.ensures ∙ c.if-is.false) (same ∙ sym c.is-2.ensures ∙ c.if-is-2.false)
    (told q.text q.start c.decimal.ensures)
