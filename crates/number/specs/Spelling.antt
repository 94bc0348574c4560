-- Document 02, F-6, on a page: "`true` and `false` in any letter case are 1 and 0", "texts that had a value keep it", "10 no longer covers these
-- spellings". `Amended`, at the end, says it of any call with a known number type, against `value_before`, the definition as it was (crate
-- reading, specs/Number). proofs/Spelling proves it of `number::value`, and proofs/Spelling of crate vireopatch of `vireopatch_value`.
use Rattle.std.specs.Prelude.{◌≡◌, Bool, true, false, ◌&&◌, ◌||◌, not, List, [], ◌∷◌, ◌++◌, map, ℕ, ◌-◌, drop}
use Rattle.reading.specs.Byte.{bytes}
use Rattle.reading.specs.Table.{Answer, answered, refused}
use Rattle.reading.specs.Number.{Base, same, value_before}

-- Spellings -------------------------------------------------------------------

-- a lower-case word in every letter case, the word itself first
abbrev pub spellings : List ℕ → List (List ℕ)
spellings [] = [] ∷ []
spellings (b ∷ w) = map (b ∷◌) (spellings w) ++ map ((b - 32) ∷◌) (spellings w)

-- in every letter case but that one
abbrev pub other_spellings : List ℕ → List (List ℕ)
other_spellings w = drop 1 (spellings w)

-- "these spellings": proofs/Spelling counts 46, no two of them the same
abbrev pub new_spellings : List (List ℕ)
new_spellings = other_spellings (bytes "true") ++ other_spellings (bytes "false")

-- the text is one of the list
abbrev pub among : List ℕ → List (List ℕ) → Bool
among t [] = false
among t (s ∷ l) = same t s || among t l

-- no two are the same
abbrev pub distinct : List (List ℕ) → Bool
distinct [] = true
distinct (t ∷ l) = not (among t l) && distinct l

-- What changed ----------------------------------------------------------------

-- a call with the base `x` on the text `t`, whose caller sees `r`; `seen` is what it sees of an answer
pub record Amended {R : Type 0} (seen : Answer ℕ → R) (x : Base) (t : List ℕ) (r : R) : Type 0 where
  -- "`true` and `false` in any letter case are 1 and 0"
  pub true_one : among t (spellings (bytes "true")) ≡ true → r ≡ seen (answered 1)
  pub false_zero : among t (spellings (bytes "false")) ≡ true → r ≡ seen (answered 0)
  -- "texts that had a value keep it"
  pub kept : (v : ℕ) → value_before x t ≡ answered v → r ≡ seen (answered v)
  -- "10 no longer covers these spellings": each of them was refused with 10, and has a value
  pub changed : among t new_spellings ≡ true → (value_before x t ≡ refused 10 0) × (v : ℕ) × (r ≡ seen (answered v))
  -- and every other text has the outcome it had: one whose outcome changed is one of them
  pub others : among t new_spellings ≡ false → r ≡ seen (value_before x t)
