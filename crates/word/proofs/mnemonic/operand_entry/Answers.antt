-- `word::mnemonic::operand_entry` meets its contract: antt computes the entry of each arm.
-- Assumes nothing.
use mathlib.Core.List.{List, [], ◌∷◌}
use Prim.Native.Nat.{ℕ}
use Rattle.reading.specs.Mnemonic.{mnemonics}
use Rattle.word.proofs.Hashes.{no_entry}
use borrow.Author.Rules.{rules}
use Rattle.word.proofs.mnemonic.operand_entry.Goals as goal

-- the arms' keys
keys : List ℕ
keys = 0 ∷ 1 ∷ 3 ∷ 4 ∷ 5 ∷ 6 ∷ 8 ∷ 9 ∷ 13 ∷ 14 ∷ 16 ∷ 19 ∷ 22 ∷ 23 ∷ 25 ∷ 28 ∷ 29 ∷ 31 ∷ 32 ∷ 34 ∷ 36 ∷ 39 ∷ 42 ∷ 45 ∷ 50 ∷ 51 ∷ 55 ∷ 57 ∷ 58 ∷ 62 ∷ 63 ∷ []

pub returns-in_default : goal.returns-in_default
unfolding keys
returns-in_default c = no_entry keys mnemonics c.args.hash tt (search rules)
