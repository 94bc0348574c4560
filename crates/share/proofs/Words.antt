-- The two words of a text: the top rows that are listed stand in the row table, and what the tests of the call decide.
use mathlib.Core.Path.{◌≡◌, refl, ap, sym, subst, ◌∙◌}
use mathlib.Core.Bool.{Bool, true, false, ◌||◌, cond, or-true}
use mathlib.Core.List.{List, [], ◌∷◌, ◌++◌}
use Prim.Native.Nat.{ℕ, zero, suc, ◌+◌, ◌-◌, min, ◌≤◌, ◌<◌}
use native.Mathlib.Omega.{arith}
use borrow.Author.Tests.{lt-ltb, le-ltb, ltb-true, ltb-false}
use lib.Dec.{ltb, eqb}
use lib.ListN.{length, get_or, take, length-append}
use lib.Seq.{length-take-le}
use Rattle.std.proofs.lemmas.List.{take_at}
use Rattle.reading.specs.Items.{Listed}
use Rattle.reading.specs.Table.{Answer, answered, refused, max_text, room, row_width, filled}
use Rattle.reading.specs.Walk.{Subtree, walk, size_at}
use Rattle.std.specs.Prelude.{Result}
use Rattle.rows.specs.Answers.{listed}
use Rattle.rows.specs.Tops.{more_tops, tops_from, top_rows, tops_settled, tops_listed, Covers, none, subtree}
use Rattle.rows.proofs.Cover.{tops_cover}
use Rattle.rows.proofs.Turns.{walk_less}
use Rattle.share.specs.Answers.{told_text, told_words}
use Rattle.share.specs.Claims.{NoWords, no_subtree, no_room, wrong_words, Taken}
use Rattle.share.specs.Shares.{wrong}
use Rattle.share.specs.Words.{Text, Told, trivia_sum, text_answer, rows_of, unless_refused, told_over, text_words}
use Rattle.share.specs.declared.TextWords.{TextWords}
use Rattle.share.specs.declared.WordsError.{WordsError}

-- Where top rows stand --------------------------------------------------------

walk_inside : (t : List ℕ) (n : ℕ) (x : Subtree) → walk t n ≡ answered x → n ≤ room row_width t
unfolding walk
walk_inside t n x e = go (eqb n 0) (ltb (room row_width t) n) refl e
  where
    go : (a b : Bool) → ltb (room row_width t) n ≡ b
        → cond (a || b) (refused 13 n) (cond (eqb (size_at t n) 0 || ltb n (size_at t n)) (refused 13 n) (answered (record { root = n - 1; before = n - size_at t n }))) ≡ answered x
        → n ≤ room row_width t
    go true b q e = absurd (let z : ◌≡◌ {A = ℕ} 0 1 = cc in omega arith)
    go false true q e = absurd (let z : ◌≡◌ {A = ℕ} 0 1 = cc in omega arith)
    go false false q e = ltb-false (room row_width t) n q

covers_inside : (t : List ℕ) {b n : ℕ} {rs : List ℕ} → Covers t b rs n → (k : ℕ) → k < length rs → get_or rs k 0 < room row_width t
covers_inside t none k h = absurd (let z : ⊥ = omega arith in z)
covers_inside t (subtree e c) zero h = walk_inside t _ _ e
covers_inside t (subtree e c) (suc k) h = covers_inside t c k (omega arith)

-- so many top rows, those of a list, stand at the front of the table, and each of them is a row
pub record Inside (rows rs : List ℕ) (n : ℕ) (roots : List ℕ) : Type 0 where
  pub many : n ≤ length roots
  pub are : take n roots ≡ rs
  pub each : (k : ℕ) → k < length rs → get_or rs k 0 < room row_width rows

covers_listed : (rows rs zs : List ℕ) {b n : ℕ} → Covers rows b rs n → Inside rows rs (length rs) (rs ++ zs)
covers_listed rows rs zs c = record { many = omega (arith, length-append rs zs); are = take_at rs zs (length rs) refl; each = covers_inside rows c }

pub tops_inside : (rows : List ℕ) (count n : ℕ) (roots after : List ℕ) → listed (answered n) after ≡ tops_listed rows count roots
    → Inside rows (rows_of (top_rows rows count)) n after
unfolding tops_listed
tops_inside rows count n roots after e = go (top_rows rows count) refl e
  where
    go : (y : Answer (List ℕ)) → top_rows rows count ≡ y → listed (answered n) after ≡ tops_settled y roots → Inside rows (rows_of y) n after
    go (refused k g) q e = absurd (let a : answered n ≡ refused k g = ap (λ (x : Listed). x.answer) e in let z : ◌≡◌ {A = ℕ} 0 1 = cc in omega arith)
    go (answered rs) q e = room_for (ltb (length roots) (length rs)) refl e
      where
        room_for : (b : Bool) → ltb (length roots) (length rs) ≡ b
            → listed (answered n) after ≡ cond b (listed (refused 6 (length rs)) (filled [] roots)) (listed (answered (length rs)) (filled rs roots)) → Inside rows rs n after
        room_for true p e = absurd (let a : answered n ≡ refused 6 (length rs) = ap (λ (x : Listed). x.answer) e in let z : ◌≡◌ {A = ℕ} 0 1 = cc in omega arith)
        room_for false p e =
            let a : answered n ≡ answered (length rs) = ap (λ (x : Listed). x.answer) e in
            let u : n ≡ length rs = cc in
            subst (λ (m : ℕ). Inside rows rs m after) (sym u)
            (subst (λ (t : List ℕ). Inside rows rs (length rs) t) (sym (ap (λ (x : Listed). x.table) e)) (covers_listed rows rs _ (tops_cover rows count rs q)))

-- the front of the table, which is read
pub front_long : {rows rs roots : List ℕ} {n : ℕ} → Inside rows rs n roots → n ≡ length (take n roots)
front_long {rows} {rs} {roots} {n} u = sym (length-take-le n roots u.many)

pub front_rows : {rows rs roots : List ℕ} {n : ℕ} → Inside rows rs n roots → (k : ℕ) → k < length (take n roots) → get_or (take n roots) k 0 < room row_width rows
front_rows {rows} {rs} {roots} {n} u =
    subst (λ (xs : List ℕ). (k : ℕ) → k < length xs → get_or xs k 0 < room row_width rows) (sym u.are) u.each

-- The answer ------------------------------------------------------------------

module _ (text rows roots after : List ℕ) (count : ℕ) where
  abbrev words_told : Answer Text → Told
  words_told a = record { answer = a; table = after }

  abbrev total : ℕ
  total = trivia_sum rows (rows_of (top_rows rows count))

  -- once `tops` has answered, its answer and table, and what is said then
  listed_told : (x : Answer ℕ) → listed x after ≡ tops_listed rows count roots → words_told (unless_refused x (text_answer total (length text))) ≡ text_words text rows count roots
  unfolding text_words
  listed_told x e = ap (λ (y : Listed). told_over y (text_answer total (length text))) e

  pub tops_refused : (k g : ℕ) → listed (refused k g) after ≡ tops_listed rows count roots → words_told (refused k g) ≡ text_words text rows count roots
  tops_refused k g e = listed_told (refused k g) e

  module _ (n : ℕ) (e : listed (answered n) after ≡ tops_listed rows count roots) where
    told_answer : (a : Answer Text) → a ≡ text_answer total (length text) → words_told a ≡ text_words text rows count roots
    told_answer a h = ap words_told h ∙ listed_told (answered n) e

    pub too_long : max_text < length text → words_told (refused 28 0) ≡ text_words text rows count roots
    too_long h = told_answer (refused 28 0) (rw (lt-ltb max_text (length text) h, or-true (ltb (length text) total)))

    -- the trivia that was counted in the table
    module _ (trivia : ℕ) (t : trivia ≡ min (trivia_sum rows (take n after)) (suc (length text))) where
      counted : trivia ≡ min total (suc (length text))
      counted = t ∙ ap (λ (rs : List ℕ). min (trivia_sum rows rs) (suc (length text))) (tops_inside rows count n roots after e).are

      pub too_much : length text < trivia → words_told (refused 28 0) ≡ text_words text rows count roots
      too_much h = told_answer (refused 28 0) (rw (lt-ltb (length text) total (omega (arith, counted))))

      pub words_known : length text ≤ max_text → trivia ≤ length text → words_told (answered (record { trivia = trivia; length = length text })) ≡ text_words text rows count roots
      words_known h k =
          let u : trivia ≡ total = omega (arith, counted) in
          told_answer _ (rw (le-ltb (length text) total (omega (arith, counted)), le-ltb max_text (length text) h) (ap (λ (m : ℕ). answered (record { trivia = m; length = length text })) u))

-- What every outcome says (specs/Claims) --------------------------------------

-- a walk refuses with 13 alone, and so do all of them together
walk_refusal : (t : List ℕ) (n k g : ℕ) → walk t n ≡ refused k g → k ≡ 13
unfolding walk
walk_refusal t n k g e = go (eqb n 0 || ltb (room row_width t) n) (eqb (size_at t n) 0 || ltb n (size_at t n)) e
  where
    go : (a b : Bool) → cond {A = Answer Subtree} a (refused 13 n) (cond b (refused 13 n) (answered (record { root = n - 1; before = n - size_at t n }))) ≡ refused k g → k ≡ 13
    go true b e = cc
    go false true e = cc
    go false false e = absurd (let z : ◌≡◌ {A = ℕ} 0 1 = cc in omega arith)

tops_refusal : (turns : ℕ) (t : List ℕ) (n : ℕ) (rs : List ℕ) (k g : ℕ) → tops_from turns t n rs ≡ refused k g → k ≡ 13
tops_refusal zero t n rs k g e = absurd (let z : ◌≡◌ {A = ℕ} 0 1 = cc in omega arith)
tops_refusal (suc turns) t n rs k g e = go (eqb n 0) (walk t n) refl (λ x h. tops_refusal turns t x.before (x.root ∷ rs) k g h) e
  where
    go : (b : Bool) (y : Answer Subtree) → walk t n ≡ y → ((x : Subtree) → tops_from turns t x.before (x.root ∷ rs) ≡ refused k g → k ≡ 13)
        → cond b (answered rs) (more_tops y rs (tops_from turns t)) ≡ refused k g → k ≡ 13
    go true y w f e = absurd (let z : ◌≡◌ {A = ℕ} 0 1 = cc in omega arith)
    go false (answered x) w f e = f x e
    go false (refused i h) w f e = let u : i ≡ k = cc in sym u ∙ walk_refusal t n i h w

-- a subtree has a row at least, so there are no more top rows than rows
covers_few : (t : List ℕ) {b n : ℕ} {rs : List ℕ} → Covers t b rs n → b + length rs ≤ n
covers_few t none = omega arith
covers_few t (subtree e c) = omega (arith, walk_less t _ _ e, covers_few t c)

text_taken : (count : ℕ) (roots : List ℕ) (t l : ℕ) → Taken count roots (text_answer t l)
text_taken count roots t l = go (wrong t l) refl
  where
    go : (b : Bool) → wrong t l ≡ b → Taken count roots (cond b (refused 28 0) (answered (record { trivia = t; length = l })))
    go true q = wrong_words
    go false q = q

pub words_taken : (text rows roots : List ℕ) (count : ℕ) → Taken count roots (text_words text rows count roots).answer
unfolding text_words tops_listed top_rows
words_taken text rows roots count = go (top_rows rows count) refl (trivia_sum rows (rows_of (top_rows rows count)))
  where
    go : (y : Answer (List ℕ)) → top_rows rows count ≡ y → (t : ℕ) → Taken count roots (unless_refused (tops_settled y roots).answer (text_answer t (length text)))
    go (refused k g) q t = subst (λ (i : ℕ). NoWords count roots i g) (sym (tops_refusal count rows count [] k g q)) no_subtree
    go (answered rs) q t = room_for (ltb (length roots) (length rs)) refl
      where
        room_for : (b : Bool) → ltb (length roots) (length rs) ≡ b
            → Taken count roots (unless_refused (cond b (listed (refused 6 (length rs)) (filled [] roots)) (listed (answered (length rs)) (filled rs roots))).answer (text_answer t (length text)))
        room_for true p = no_room (ltb-true (length roots) (length rs) p) (omega (arith, covers_few rows (tops_cover rows count rs q)))
        room_for false p = text_taken count roots t (length text)

-- any call that meets its contract
pub text_words_taken : (text rows roots after : List ℕ) (count : ℕ) (r : Result TextWords WordsError) → told_words r after ≡ text_words text rows count roots
    → Taken count roots (told_text r)
text_words_taken text rows roots after count r m = subst (λ (x : Told). Taken count roots x.answer) (sym m) (words_taken text rows roots count)
