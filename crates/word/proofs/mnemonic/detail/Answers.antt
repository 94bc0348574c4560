-- `word::mnemonic::detail` meets its contract: the entry at the hash has these letters, or no word has.
-- Assumes nothing.
use mathlib.Core.Path.{ap, sym, ◌∙◌}
use Prim.Native.Nat.{◌/◌, ◌%◌}
use Rattle.word.specs.Words.{mnemonic_list}
use Rattle.word.proofs.Hashes.{mnemonics_tidy, there, not_there}
use Rattle.word.proofs.mnemonic.detail.Goals as goal

pub returns-then-e-letters : goal.returns-then-e-letters
returns-then-e-letters c =
    let a = c.args in
    let xs = mnemonic_list a.implied in
    not_there xs xs a.letters (mnemonics_tidy a.implied) λ e. c.if-e-letters.true (ap (◌% 16777216) c.entry-e.ensures ∙ e)

pub returns : goal.returns
returns c =
    let a = c.args in
    let xs = mnemonic_list a.implied in
    ap (◌/ 16777216) c.entry-e.ensures
    ∙ there xs xs a.letters (mnemonics_tidy a.implied) (ap (◌% 16777216) (sym c.entry-e.ensures) ∙ c.if-e-letters.false)
