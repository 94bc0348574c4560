-- The lists of words that a reader chooses from, as the rules have them, and the answer that a choice asks for.
use Rattle.std.specs.Prelude.{Option, Some, None, Bool, true, false, List, [], ◌∷◌, ℕ}
use Rattle.std.proofs.Math.Option.{Option as Maybe, none, some}
use Rattle.reading.specs.Grammar.{Leaf}
use Rattle.reading.specs.Mnemonic.{◌↦ⁿ◌, mnemonics, implied_mnemonics}
use Rattle.reading.specs.Rules.{◌↦ᵗ◌}
use Rattle.word.specs.declared.Word.{Word}

abbrev pub modifiers : List (Leaf × ℕ)
modifiers = "<" ↦ᵗ 2 ∷ ">" ↦ᵗ 1 ∷ []

abbrev pub term_operators : List (Leaf × ℕ)
term_operators = "*" ↦ᵗ 3 ∷ "/" ↦ᵗ 4 ∷ "%" ↦ᵗ 5 ∷ "<<" ↦ᵗ 6 ∷ ">>" ↦ᵗ 7 ∷ "^" ↦ᵗ 8 ∷ []

abbrev pub expression_operators : List (Leaf × ℕ)
expression_operators =
    "+" ↦ᵗ 1 ∷ "-" ↦ᵗ 2 ∷ "==" ↦ᵗ 9 ∷ "!=" ↦ᵗ 10 ∷ ">=" ↦ᵗ 12 ∷ "<=" ↦ᵗ 14 ∷ ">" ↦ᵗ 11 ∷ "<" ↦ᵗ 13 ∷ "&&" ↦ᵗ 15 ∷ "||" ↦ᵗ 16 ∷ []

abbrev pub encodings : List (Leaf × ℕ)
encodings = "ascii" ↦ⁿ 1 ∷ "petscii" ↦ⁿ 2 ∷ "petscreen" ↦ⁿ 3 ∷ []

-- the implied ones, or those that may have an operand
abbrev pub mnemonic_list : Bool → List (Leaf × ℕ)
mnemonic_list true = implied_mnemonics
mnemonic_list false = mnemonics

abbrev pub word : ℕ → ℕ → Word
word n d = record { length = n; detail = d }

-- the answer for a first word
unfoldable pub picked_of : Maybe (ℕ × ℕ) → Option Word
picked_of none = None
picked_of (some w) = Some (word w.0 w.1)

-- a word of two bytes with this detail, if the test says so, else another answer
unfoldable pub two_or : Bool → ℕ → Option Word → Option Word
two_or true d p = Some (word 2 d)
two_or false d p = p
