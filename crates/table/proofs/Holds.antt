-- What a table holds after a record is pushed, and after words in it are replaced.
use mathlib.Core.Path.{◌≡◌, refl, ap, sym, ◌∙◌}
use mathlib.Core.Bool.{Bool, true, false, cond}
use mathlib.Core.List.{List, [], ◌∷◌, ◌++◌, append-nil, append_assoc}
use Prim.Native.Nat.{ℕ, zero, suc, ◌+◌, ◌*◌, ◌-◌, ◌≤◌, ◌<◌}
use native.Mathlib.Nat.{zero-add, add-zero, suc-mul, mul-le-mul_right, div-mul-le_self}
use native.Mathlib.Omega.{arith}
use borrow.Author.Tests.{ltb-true, ltb-false}
use lib.Dec.{ltb}
use lib.ListN.{length, get_or, set, take, length-set, length-append, get_or-append}
use lib.Seq.{length-sets, length-take-le, get_or-set_same, get_or-set_other, get_or-append-add, get_or-take, ext_get_or}
use Rattle.reading.specs.Grammar.{Row, Rows, Error, Request, placed}
use Rattle.reading.specs.Table.{row_width, tlow_column, error_width, request_width, error_words, request_words, room, zeros, filled}
use Rattle.table.specs.Words.{put, pushed, replaced, row_record, error_record, request_record, record_of, drafts, Holds, HoldsRows}

-- Words that are put -------------------------------------------------------

-- outside of them nothing changes
put_other : (ws t : List ℕ) (k i : ℕ) → (k ≤ i → k + length ws ≤ i) → get_or (put t k ws) i 0 ≡ get_or t i 0
put_other [] t k i h = refl
put_other (x ∷ ws) t k i h =
    put_other ws (set t k x) (suc k) i (λ g. omega (arith, h (omega arith))) ∙ get_or-set_other t k i x 0 (λ e. omega (arith, h (omega arith)))

put_at : (ws t : List ℕ) (k j : ℕ) → k + length ws ≤ length t → j < length ws → get_or (put t k ws) (k + j) 0 ≡ get_or ws j 0
put_at [] t k j h g = absurd (let z : ⊥ = omega arith in z)
put_at (x ∷ ws) t k zero h g = rw add-zero (put_other ws (set t k x) (suc k) k (λ e. omega arith) ∙ get_or-set_same t k x 0 (omega arith))
put_at (x ∷ ws) t k (suc j) h g =
    let e : k + suc j ≡ suc k + j = omega arith in
    rw e (put_at ws (set t k x) (suc k) j (simp length-set (omega arith)) (omega arith))

-- Words from a place on, as far as m --------------------------------------

abbrev Agree : ℕ → List ℕ → ℕ → List ℕ → Type 0
Agree m t k ws = (j : ℕ) → j < length ws → k + j < m → get_or t (k + j) 0 ≡ get_or ws j 0

module _ (m : ℕ) (t : List ℕ) where
  both : (k l : ℕ) (a b : List ℕ) → k + length a ≡ l → Agree m t k a → Agree m t l b → Agree m t k (a ++ b)
  both k l a b s p q j g h = go (ltb j (length a)) refl
    where
      go : (x : Bool) → ltb j (length a) ≡ x → get_or t (k + j) 0 ≡ get_or (a ++ b) j 0
      go true e = p j (ltb-true _ _ e) h ∙ sym (get_or-append a b 0 j (ltb-true _ _ e))
      go false e =
          let o : length a ≤ j = ltb-false _ _ e in
          let u : j ≡ length a + (j - length a) = omega arith in
          let v : k + j ≡ l + (j - length a) = omega arith in
          ap (λ (i : ℕ). get_or t i 0) v
          ∙ q (j - length a) (omega (arith, length-append a b)) (omega arith)
          ∙ sym (get_or-append-add a b (j - length a) 0)
          ∙ ap (λ (i : ℕ). get_or (a ++ b) i 0) (sym u)

  back : (k l : ℕ) (a b : List ℕ) → k + length a ≡ l → Agree m t k (a ++ b) → Agree m t l b
  back k l a b s h j g i =
      let e : l + j ≡ k + (length a + j) = omega arith in
      rw e (h (length a + j) (omega (arith, length-append a b)) (omega arith) ∙ get_or-append-add a b j 0)

  kept : (k i : ℕ) (a ws : List ℕ) → ((j : ℕ) → j < length a → k ≤ i + j → k + length ws ≤ i + j) → Agree m t i a → Agree m (put t k ws) i a
  kept k i a ws o h j g l = put_other ws t k (i + j) (o j g) ∙ h j g l

-- A table's length, and its room -------------------------------------------

pub pushed_length : (w : ℕ) (t : List ℕ) (n : ℕ) (ws : List ℕ) → length (pushed w t n ws) ≡ length t
unfolding pushed
pushed_length w t n ws = go (ltb n (room w t))
  where
    go : (x : Bool) → length (cond x (put t (n * w) ws) t) ≡ length t
    go true = length-sets t (n * w) ws
    go false = refl

pub replaced_length : (t : List ℕ) (n a b z : ℕ) → length (replaced t n a b z) ≡ length t
unfolding replaced
replaced_length t n a b z = go (ltb n (room row_width t))
  where
    go : (x : Bool) → length (cond x (put t (n * row_width + tlow_column) (a ∷ b ∷ z ∷ [])) t) ≡ length t
    go true = length-sets t (n * row_width + tlow_column) (a ∷ b ∷ z ∷ [])
    go false = refl

pub in_room : (w : ℕ) (t : List ℕ) (n : ℕ) → n < room w t → n * w + w ≤ length t
in_room w t n h = omega (arith, mul-le-mul_right w h, suc-mul n w, div-mul-le_self (length t) w)

-- What a table holds -------------------------------------------------------

module _ (w : ℕ) (t : List ℕ) where
  agree : (ws : List ℕ) → Holds w t ws → Agree (room w t * w) t 0 ws
  agree ws h j g l = rw zero-add (h.word j g (rw zero-add at l))

  holds : (k : ℕ) (ws xs : List ℕ) → Agree (room w t * w) (put t k ws) 0 xs → Holds w (put t k ws) xs
  holds k ws xs h = record { word = λ i g l. rw zero-add at (h i g (rw (zero-add, ← (length-sets t k ws)) l)) }

  -- behind the room there may be anything
  holds_out : (a b : List ℕ) → room w t * w ≤ length a → Holds w t a → Holds w t (a ++ b)
  holds_out a b o h = record { word = λ i g l. h.word i (omega arith) l ∙ sym (get_or-append a b 0 i (omega arith)) }

  pub holds_front : (a b : List ℕ) → Holds w t (a ++ b) → Holds w t a
  holds_front a b h = record { word = λ i g l. h.word i (omega (arith, length-append a b)) l ∙ get_or-append a b 0 i g }

  -- words put behind words that the table holds, and before words that agree
  holds_put : (k : ℕ) (a ws c : List ℕ) → length a ≡ k → k + length ws ≤ length t → Holds w t a → Agree (room w t * w) t (k + length ws) c → Holds w (put t k ws) (a ++ (ws ++ c))
  holds_put k a ws c e g p q =
      let m : ℕ = room w t * w in
      holds k ws (a ++ (ws ++ c))
      (both m (put t k ws) 0 k a (ws ++ c) (omega arith) (kept m t k 0 a ws (λ j i l. omega arith) (agree a p))
      (both m (put t k ws) k (k + length ws) ws c refl (λ j i l. put_at ws t k j g i) (kept m t k (k + length ws) c ws (λ j i l. omega arith) q)))

  -- words replaced inside
  pub holds_inside : (k : ℕ) (a b c ws : List ℕ) → length a ≡ k → length b ≡ length ws → k + length ws ≤ length t → Holds w t (a ++ (b ++ c)) → Holds w (put t k ws) (a ++ (ws ++ c))
  holds_inside k a b c ws e f g h =
      let m : ℕ = room w t * w in
      holds_put k a ws c e g (holds_front a (b ++ c) h) (back m t k (k + length ws) b c (omega arith) (back m t 0 k a (b ++ c) (omega arith) (agree (a ++ (b ++ c)) h)))

pub holds_record : (w : ℕ) (t ws rec : List ℕ) (n : ℕ) → 1 ≤ w → length rec ≡ w → length ws ≡ n * w → Holds w t ws → Holds w (pushed w t n rec) (ws ++ rec)
unfolding pushed
holds_record w t ws rec n o e f h = go (ltb n (room w t)) refl
  where
    go : (x : Bool) → ltb n (room w t) ≡ x → Holds w (cond x (put t (n * w) rec) t) (ws ++ rec)
    go true q =
        rw (append-nil rec) at (holds_put w t (n * w) ws rec [] f (omega (arith, in_room w t n (ltb-true n (room w t) q))) h (λ j i l. omega arith))
    go false q = holds_out w t ws rec (omega (arith, mul-le-mul_right w (ltb-false n (room w t) q))) h

-- Where the words end, and zeros follow ------------------------------------

holds_take : (w : ℕ) (t ws : List ℕ) → Holds w t ws → length ws ≤ room w t * w → take (length ws) t ≡ ws
holds_take w t ws h g =
    let e : length (take (length ws) t) ≡ length ws = length-take-le (length ws) t (omega (arith, div-mul-le_self (length t) w)) in
    ext_get_or 0 (take (length ws) t) ws e (λ i l. get_or-take (length ws) t i 0 (omega arith) ∙ h.word i (omega arith) (omega arith))

pub holds_filled : (w : ℕ) (t ws : List ℕ) (k : ℕ) → Holds w t ws → length ws ≤ room w t * w → k ≡ length ws → take k t ++ zeros (length t - k) ≡ filled ws t
holds_filled w t ws k h g e = rw e (ap (◌++ zeros (length t - length ws)) (holds_take w t ws h g))

-- Records of a kind --------------------------------------------------------

-- f writes the record of each value, one after another, and each has w words
pub record Writes {A : Type 0} (w : ℕ) (rec : A → List ℕ) (f : List A → List ℕ) : Type 0 where
  pub some : 1 ≤ w
  pub len : (x : A) → length (rec x) ≡ w
  pub nil : f [] ≡ []
  pub cons : (x : A) (xs : List A) → f (x ∷ xs) ≡ rec x ++ f xs

module _ {A : Type 0} {w : ℕ} {rec : A → List ℕ} {f : List A → List ℕ} (l : Writes w rec f) where
  pub words_append : (a b : List A) → f (a ++ b) ≡ f a ++ f b
  words_append [] b = rw l.nil
  words_append (x ∷ a) b = rw (l.cons x (a ++ b), l.cons x a, words_append a b, append_assoc)

  pub words_length : (xs : List A) → length (f xs) ≡ length xs * w
  words_length [] = rw l.nil (omega arith)
  words_length (x ∷ xs) = rw (l.cons x xs) (omega (arith, length-append (rec x) (f xs), l.len x, words_length xs, suc-mul (length xs) w))

  pub holds_more : (t : List ℕ) (xs : List A) (n : ℕ) (x : A) → n ≡ length xs → Holds w t (f xs) → Holds w (pushed w t n (rec x)) (f (xs ++ (x ∷ [])))
  holds_more t xs n x e h =
      rw (words_append xs (x ∷ []), l.cons x [], l.nil, append-nil (rec x))
      (holds_record w t (f xs) (rec x) n l.some (l.len x) (rw e (words_length xs)) h)

pub drafts_written : Writes row_width record_of drafts
drafts_written = record { some = omega arith; len = λ x. refl; nil = refl; cons = λ x xs. refl }

pub errors_written : Writes error_width (λ (x : Error). error_record x.code x.low x.high) error_words
errors_written = record { some = omega arith; len = λ x. refl; nil = refl; cons = λ x xs. refl }

pub requests_written : Writes request_width (λ (x : Request). request_record x.low x.high) request_words
requests_written = record { some = omega arith; len = λ x. refl; nil = refl; cons = λ x xs. refl }

-- Rows ---------------------------------------------------------------------

pub drafts_append : (a b : Rows) → drafts (a ++ b) ≡ drafts a ++ drafts b
drafts_append = words_append drafts_written

pub drafts_length : (rs : Rows) → length (drafts rs) ≡ length rs * row_width
drafts_length = words_length drafts_written

pub holds_push : (t : List ℕ) (rs : Rows) (n : ℕ) (x : Row) → n ≡ length rs → HoldsRows t rs → HoldsRows (pushed row_width t n (record_of x)) (rs ++ (x ∷ []))
holds_push = holds_more drafts_written

pub holds_prefix : (t : List ℕ) (a b : Rows) → HoldsRows t (a ++ b) → HoldsRows t a
holds_prefix t a b h = holds_front row_width t (drafts a) (drafts b) (rw drafts_append at h)

place_last : (t : List ℕ) (pre : Rows) (r : Row) (n a b z : ℕ) → n ≡ length pre → HoldsRows t (pre ++ (r ∷ [])) → HoldsRows (replaced t n a b z) (pre ++ placed a b z (r ∷ []))
unfolding replaced
place_last t pre r n a b z e h = rw (drafts_append pre (placed a b z (r ∷ []))) (go (ltb n (room row_width t)) refl)
  where
    old : Holds row_width t (drafts pre ++ record_of r)
    old = rw (drafts_append pre (r ∷ [])) at h

    len : length (drafts pre) ≡ n * row_width
    len = rw e (drafts_length pre)

    go : (x : Bool) → ltb n (room row_width t) ≡ x
        → Holds row_width (cond x (put t (n * row_width + tlow_column) (a ∷ b ∷ z ∷ [])) t) (drafts pre ++ row_record r.kind r.size a b z r.detail)
    go true q =
        rw (append_assoc (drafts pre) (r.kind ∷ r.size ∷ [])) at
        (holds_inside row_width t (n * row_width + tlow_column) (drafts pre ++ (r.kind ∷ r.size ∷ [])) (r.tlow ∷ r.low ∷ r.high ∷ []) (r.detail ∷ 0 ∷ []) (a ∷ b ∷ z ∷ [])
        (omega (arith, length-append (drafts pre) (r.kind ∷ r.size ∷ []), len))
        refl
        (omega (arith, in_room row_width t n (ltb-true n (room row_width t) q)))
        (rw (append_assoc (drafts pre) (r.kind ∷ r.size ∷ [])) old))
    go false q = holds_out row_width t (drafts pre) (row_record r.kind r.size a b z r.detail) (omega (arith, len, ltb-false n (room row_width t) q)) (holds_front row_width t (drafts pre) (record_of r) old)

pub holds_place : (t : List ℕ) (pre acc : Rows) (n a b z : ℕ) → 1 ≤ length acc → suc n ≡ length (pre ++ acc) → HoldsRows t (pre ++ acc) → HoldsRows (replaced t n a b z) (pre ++ placed a b z acc)
holds_place t pre [] n a b z o e h = absurd (let x : ⊥ = omega arith in x)
holds_place t pre (r ∷ []) n a b z o e h = place_last t pre r n a b z (omega (arith, length-append pre (r ∷ []))) h
holds_place t pre (r ∷ (s ∷ rs)) n a b z o e h =
    let q : (ts : Rows) → (pre ++ (r ∷ [])) ++ ts ≡ pre ++ (r ∷ ts) = append_assoc pre (r ∷ []) in
    rw q at (holds_place t (pre ++ (r ∷ [])) (s ∷ rs) n a b z (omega arith) (rw q e) (rw q h))
