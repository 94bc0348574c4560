-- The top rows of a reading, first to last: rows stand children first, so they are met from the last to the first, by walk.
use Rattle.std.specs.Prelude.{cond, List, [], ◌∷◌, ◌≡◌, ℕ, zero, suc, ltb, eqb, length}
use Rattle.reading.specs.Items.{Listed}
use Rattle.reading.specs.Table.{Answer, answered, refused, filled}
use Rattle.reading.specs.Walk.{Subtree, walk}

abbrev pub more_tops : Answer Subtree → List ℕ → (ℕ → List ℕ → Answer (List ℕ)) → Answer (List ℕ)
more_tops (answered s) rs f = f s.before (s.root ∷ rs)
more_tops (refused k g) rs f = refused k g

-- those of the first n rows, before the ones already met. Each takes a row at least, so a turn for each row is enough
abbrev pub tops_from : ℕ → List ℕ → ℕ → List ℕ → Answer (List ℕ)
tops_from zero table n rs = answered rs
tops_from (suc turns) table n rs = cond (eqb n 0) (answered rs) (more_tops (walk table n) rs λ before met. tops_from turns table before met)

-- their numbers; or what walk refuses on the way
unfoldable pub top_rows : List ℕ → ℕ → Answer (List ℕ)
top_rows table n = tops_from n table n []

-- the same from the front, and no turns counted: subtree behind subtree, from the row b to the row n
pub data Covers (table : List ℕ) : ℕ → List ℕ → ℕ → Type 0 where
  none : {n : ℕ} → Covers table n [] n
  subtree : {b r n : ℕ} {rs : List ℕ} → walk table (suc r) ≡ answered (record { root = r; before = b }) → Covers table (suc r) rs n → Covers table b (r ∷ rs) n

abbrev pub how_many : Answer (List ℕ) → Answer ℕ
how_many (answered rs) = answered (length rs)
how_many (refused k g) = refused k g

-- the call: how many, and the lent table afterwards. 13 leaves it, 6 zeroes it
abbrev pub tops_settled : Answer (List ℕ) → List ℕ → Listed
tops_settled (answered rs) t =
    cond (ltb (length t) (length rs)) (record { answer = refused 6 (length rs); table = filled [] t })
    (record { answer = answered (length rs); table = filled rs t })
tops_settled (refused k g) t = record { answer = refused k g; table = t }

unfoldable pub tops_listed : List ℕ → ℕ → List ℕ → Listed
tops_listed table n t = tops_settled (top_rows table n) t
