-- mnemonic.rs: the words, in the order in which they are tried, with their numbers in the Rust's enum, from 1.
use Rattle.std.specs.Prelude.{List, [], ◌∷◌, ℕ}
use Prim.Native.String.{String}
use Rattle.reading.specs.Byte.{bytes}
use Rattle.reading.specs.Grammar.{Leaf, tag_no_case}

infix 70 ◌↦ⁿ◌
-- a word in any letter case, and the detail that it gives
abbrev pub ◌↦ⁿ◌ : String → ℕ → Leaf × ℕ
s ↦ⁿ d = (tag_no_case (bytes s), d)

-- mnemonic: those that may have an operand
abbrev pub mnemonics : List (Leaf × ℕ)
mnemonics =
    "adc" ↦ⁿ 1 ∷ "and" ↦ⁿ 2 ∷ "asl" ↦ⁿ 3 ∷ "bcc" ↦ⁿ 4 ∷ "bcs" ↦ⁿ 5 ∷ "beq" ↦ⁿ 6 ∷ "bit" ↦ⁿ 7 ∷ "bmi" ↦ⁿ 8 ∷
    "bne" ↦ⁿ 9 ∷ "bpl" ↦ⁿ 10 ∷ "bvc" ↦ⁿ 12 ∷ "bvs" ↦ⁿ 13 ∷ "cmp" ↦ⁿ 18 ∷ "cpx" ↦ⁿ 19 ∷ "cpy" ↦ⁿ 20 ∷ "dec" ↦ⁿ 21 ∷
    "eor" ↦ⁿ 24 ∷ "inc" ↦ⁿ 25 ∷ "jmp" ↦ⁿ 28 ∷ "jsr" ↦ⁿ 29 ∷ "lda" ↦ⁿ 30 ∷ "ldx" ↦ⁿ 31 ∷ "ldy" ↦ⁿ 32 ∷ "lsr" ↦ⁿ 33 ∷
    "ora" ↦ⁿ 35 ∷ "rol" ↦ⁿ 40 ∷ "ror" ↦ⁿ 41 ∷ "sbc" ↦ⁿ 44 ∷ "sta" ↦ⁿ 48 ∷ "stx" ↦ⁿ 49 ∷ "sty" ↦ⁿ 50 ∷ []

-- implied_mnemonic
abbrev pub implied_mnemonics : List (Leaf × ℕ)
implied_mnemonics =
    "asl" ↦ⁿ 3 ∷ "brk" ↦ⁿ 11 ∷ "clc" ↦ⁿ 14 ∷ "cld" ↦ⁿ 15 ∷ "cli" ↦ⁿ 16 ∷ "clv" ↦ⁿ 17 ∷ "dex" ↦ⁿ 22 ∷ "dey" ↦ⁿ 23 ∷
    "inx" ↦ⁿ 26 ∷ "iny" ↦ⁿ 27 ∷ "lsr" ↦ⁿ 33 ∷ "nop" ↦ⁿ 34 ∷ "pha" ↦ⁿ 36 ∷ "php" ↦ⁿ 37 ∷ "pla" ↦ⁿ 38 ∷ "plp" ↦ⁿ 39 ∷
    "rol" ↦ⁿ 40 ∷ "ror" ↦ⁿ 41 ∷ "rti" ↦ⁿ 42 ∷ "rts" ↦ⁿ 43 ∷ "sec" ↦ⁿ 45 ∷ "sed" ↦ⁿ 46 ∷ "sei" ↦ⁿ 47 ∷ "tax" ↦ⁿ 51 ∷
    "tay" ↦ⁿ 52 ∷ "tsx" ↦ⁿ 53 ∷ "txa" ↦ⁿ 54 ∷ "txs" ↦ⁿ 55 ∷ "tya" ↦ⁿ 56 ∷ []
