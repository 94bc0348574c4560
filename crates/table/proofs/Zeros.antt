-- Words that are written at once: zeros, and a record.
use Rattle.std.proofs.Common.{◌≡◌, refl, ap, sym, ◌∙◌, List, ◌∷◌, ◌++◌, ℕ, zero, suc, ◌+◌, ◌*◌, ◌-◌, ◌≤◌, ◌<◌, length, take, drop, replicate, append-nil, arith}
use Rattle.std.proofs.lemmas.List.{drop-drop, drop_all, length-drop}
use borrow.Rule.Slice.PartMut.{put_mid}
use borrow.Author.Tests.{lt-ltb}
use lib.Seq.{length-take-le, take_all}
use Rattle.reading.specs.Table.{zeros, room}
use Rattle.table.specs.Words.{pushed, put}

pub zeros_are : (n : ℕ) → replicate n 0 ≡ zeros n
zeros_are zero = refl
zeros_are (suc n) = ap (0 ∷◌) (zeros_are n)

abbrev pub zeroed : List ℕ → ℕ → List ℕ
zeroed t i = take i t ++ zeros (length t - i)

pub zeroed_end : (t : List ℕ) (i : ℕ) → length t ≤ i → zeroed t i ≡ t
zeroed_end t i h =
    let e : length t - i ≡ zero = omega arith in
    rw (take_all i t h, e, append-nil)

-- a part that is filled with zeros, to the table's end
pub zeroed_part : (t v : List ℕ) (i : ℕ) → i ≤ length t → v ≡ replicate (length (take (length t - i) (drop i t))) 0 → put_mid i (length t - i) t v ≡ zeroed t i
zeroed_part t v i h f =
    rw
    (f, length-take-le (length t - i) (drop i t) (omega (arith, length-drop i t)), drop-drop (length t - i) i t, zeros_are (length t - i), drop_all (i + (length t - i)) t (omega arith), append-nil)

-- all words of a record have been put there, one behind the other
pub all_put : (t u ws : List ℕ) (n w k : ℕ) → length ws ≡ w → w ≤ k → n < room w t → put u (n * w + k) (drop k ws) ≡ put t (n * w) ws → u ≡ pushed w t n ws
unfolding pushed
all_put t u ws n w k e f h p =
    rw (lt-ltb n (room w t) h) (sym (ap (put u (n * w + k)) (drop_all k ws (omega (arith, e, f)))) ∙ p)
