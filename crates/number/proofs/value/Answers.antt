-- The words, and then digits.
use mathlib.Core.Path.{refl, sym, ◌∙◌}
use Rattle.number.specs.Answers.{base_of}
use Rattle.number.proofs.Words.{words}
use Rattle.number.proofs.value.Goals as goal

pub returns-then-is_word : goal.returns-then-is_word
returns-then-is_word c = sym (words (base_of c.args.ty) c.args.text.now (sym c.is_word.ensures ∙ c.if-is_word.true) refl)

pub returns-then-is_word-2 : goal.returns-then-is_word-2
returns-then-is_word-2 c =
    sym (words (base_of c.args.ty) c.args.text.now (sym c.is_word.ensures ∙ c.if-is_word.false) (sym c.is_word-2.ensures ∙ c.if-is_word-2.true))

pub returns : goal.returns
returns c =
    c.digits.ensures
    ∙ sym (words (base_of c.args.ty) c.args.text.now (sym c.is_word.ensures ∙ c.if-is_word.false) (sym c.is_word-2.ensures ∙ c.if-is_word-2.false))
