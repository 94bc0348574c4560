-- As long as the word, and beginning with it.
use mathlib.Core.Path.{sym, ◌∙◌}
use native.Mathlib.Omega.{arith}
use borrow.Author.Tests.{ne_eqb}
use Rattle.number.proofs.Words.{whole, lengths}
use Rattle.number.proofs.is_word.Goals as goal

pub returns-else-text-lower : goal.returns-else-text-lower
returns-else-text-lower c = ne_eqb _ _ c.if-text-lower.false ∙ sym (lengths c.args.lower.now c.args.text.now λ e. omega (arith, e))

pub returns-then-text-lower : goal.returns-then-text-lower
returns-then-text-lower c = c.begins.ensures ∙ whole c.args.lower.now c.args.text.now (omega arith)
