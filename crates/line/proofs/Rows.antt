-- The rows of a reading: a table that holds them without their lines holds them whole once the lines are filled in.
use mathlib.Core.Path.{◌≡◌, refl, ap, sym, subst, ◌∙◌}
use mathlib.Core.List.{List, [], ◌∷◌, ◌++◌, append-nil, append_assoc}
use Prim.Native.Nat.{ℕ, suc, ◌+◌, ◌*◌, ◌≤◌, ◌<◌}
use native.Mathlib.Omega.{arith}
use lib.ListN.{length, get_or, set, length-append}
use lib.Seq.{get_or-append-add}
use Rattle.reading.specs.Grammar.{Row, Rows}
use Rattle.reading.specs.Table.{row_width, low_column, room, line, columns, row_words}
use Rattle.table.specs.Words.{drafts, Holds, HoldsRows}
use Rattle.table.proofs.Holds.{Writes, words_append, words_length, holds_inside}
use Rattle.line.specs.Lines.{low_at, line_at, lined}
use Rattle.line.proofs.Fills.{lined_none, lined_length, lined_more}

pub rows_written : (s : List ℕ) → Writes row_width (columns s) (row_words s)
rows_written s = record { some = omega arith; len = λ x. refl; nil = refl; cons = λ x xs. refl }

module _ (s t : List ℕ) where
  -- rows that have their lines, and rows behind them that have none yet
  abbrev Half : ℕ → Rows → Rows → Type 0
  Half n xs ys = Holds row_width (lined s t n) (row_words s xs ++ drafts ys)

  -- the columns before the line
  abbrev six : Row → List ℕ
  six y = y.kind ∷ y.size ∷ y.tlow ∷ y.low ∷ y.high ∷ y.detail ∷ []

  words_so : (xs : Rows) (n : ℕ) → n ≡ length xs → length (row_words s xs) ≡ n * row_width
  words_so xs n e = words_length (rows_written s) xs ∙ ap (◌* row_width) (sym e)

  low_so : (xs : Rows) (y : Row) (ys : Rows) (n : ℕ) → n ≡ length xs → n < room row_width t → Half n xs (y ∷ ys) → get_or (lined s t n) (low_at n) 0 ≡ y.low
  low_so xs y ys n e h o =
      let k : low_at n ≡ length (row_words s xs) + low_column = omega (arith, words_so xs n e) in
      let l = length-append (row_words s xs) (drafts (y ∷ ys)) in
      o.word (low_at n) (omega (arith, words_so xs n e, l)) (omega (arith, lined_length s t n))
      ∙ ap (λ (i : ℕ). get_or (row_words s xs ++ drafts (y ∷ ys)) i 0) k
      ∙ get_or-append-add (row_words s xs) (drafts (y ∷ ys)) low_column 0

  step : (xs : Rows) (y : Row) (ys : Rows) (n : ℕ) → n ≡ length xs → n < room row_width t → Half n xs (y ∷ ys) → Half (n + 1) (xs ++ (y ∷ [])) ys
  step xs y ys n e h o =
      let a : List ℕ = row_words s xs in
      let old : Holds row_width (lined s t n) ((a ++ six y) ++ (0 ∷ drafts ys)) = subst (Holds row_width (lined s t n)) (sym (append_assoc a (six y) (0 ∷ drafts ys))) o in
      let new : Holds row_width (set (lined s t n) (line_at n) (line s y.low)) ((a ++ six y) ++ (line s y.low ∷ drafts ys)) =
      holds_inside row_width (lined s t n) (line_at n) (a ++ six y) (0 ∷ []) (drafts ys) (line s y.low ∷ [])
      (omega (arith, length-append a (six y), words_so xs n e)) refl (omega (arith, lined_length s t n)) old in
      let is : (a ++ six y) ++ (line s y.low ∷ drafts ys) ≡ row_words s (xs ++ (y ∷ [])) ++ drafts ys =
      append_assoc a (six y) (line s y.low ∷ drafts ys)
      ∙ sym (append_assoc a (columns s y) (drafts ys))
      ∙ ap (◌++ drafts ys) (sym (words_append (rows_written s) xs (y ∷ []))) in
      subst (λ (u : List ℕ). Holds row_width u (row_words s (xs ++ (y ∷ [])) ++ drafts ys))
      (lined_more s t n refl refl (ap (line s) (sym (low_so xs y ys n e h o))))
      (subst (Holds row_width (set (lined s t n) (line_at n) (line s y.low))) is new)

  fill_in : (xs ys : Rows) (n : ℕ) → n ≡ length xs → n + length ys ≤ room row_width t → Half n xs ys → Holds row_width (lined s t (n + length ys)) (row_words s (xs ++ ys))
  fill_in xs [] n e h o =
      subst (λ (m : ℕ). Holds row_width (lined s t m) (row_words s (xs ++ []))) (let q : n ≡ n + 0 = omega arith in q)
      (subst (Holds row_width (lined s t n)) (append-nil (row_words s xs) ∙ ap (row_words s) (sym (append-nil xs))) o)
  fill_in xs (y ∷ ys) n e h o =
      let l = length-append xs (y ∷ []) in
      let more = fill_in (xs ++ (y ∷ [])) ys (n + 1) (omega arith) (omega arith) (step xs y ys n e (omega arith) o) in
      subst (λ (m : ℕ). Holds row_width (lined s t m) (row_words s (xs ++ (y ∷ ys)))) (let q : n + 1 + length ys ≡ n + suc (length ys) = omega arith in q)
      (subst (λ (zs : Rows). Holds row_width (lined s t (n + 1 + length ys)) (row_words s zs)) (append_assoc xs (y ∷ []) ys) more)

  pub holds_lined : (rs : Rows) (n : ℕ) → n ≡ length rs → n ≤ room row_width t → HoldsRows t rs → Holds row_width (lined s t n) (row_words s rs)
  holds_lined rs n e h o =
      subst (λ (m : ℕ). Holds row_width (lined s t m) (row_words s rs)) (let q : 0 + length rs ≡ n = omega arith in q)
      (fill_in [] rs 0 refl (omega arith) (subst (λ (u : List ℕ). Holds row_width u (drafts rs)) (lined_none s t) o))
