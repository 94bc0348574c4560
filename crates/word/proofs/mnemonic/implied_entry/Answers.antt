-- `word::mnemonic::implied_entry` meets its contract: antt computes the entry of each arm.
-- Assumes nothing.
use mathlib.Core.List.{List, [], ◌∷◌}
use Prim.Native.Nat.{ℕ}
use Rattle.reading.specs.Mnemonic.{implied_mnemonics}
use Rattle.word.proofs.Hashes.{no_entry}
use borrow.Author.Rules.{rules}
use Rattle.word.proofs.mnemonic.implied_entry.Goals as goal

-- the arms' keys
keys : List ℕ
keys = 5 ∷ 6 ∷ 7 ∷ 10 ∷ 13 ∷ 17 ∷ 18 ∷ 19 ∷ 23 ∷ 24 ∷ 26 ∷ 27 ∷ 32 ∷ 35 ∷ 36 ∷ 38 ∷ 40 ∷ 43 ∷ 48 ∷ 50 ∷ 51 ∷ 52 ∷ 53 ∷ 54 ∷ 55 ∷ 56 ∷ 57 ∷ 61 ∷ 63 ∷ []

pub returns-in_default : goal.returns-in_default
unfolding keys
returns-in_default c = no_entry keys implied_mnemonics c.args.hash tt (search rules)
