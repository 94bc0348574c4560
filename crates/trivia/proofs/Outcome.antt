-- What the call that lists items has to answer, test by test.
use mathlib.Core.Path.{◌≡◌, refl, ap, sym, ◌∙◌}
use mathlib.Core.List.{List, [], ◌∷◌, ◌++◌, append-nil}
use mathlib.Core.Option.{none, some}
use borrow.Rule.Slice.PartMut.{put_mid}
use Prim.Native.Nat.{ℕ, zero, suc, ◌*◌, ◌-◌, ◌/◌, ◌≤◌, ◌<◌}
use native.Mathlib.Omega.{arith}
use borrow.Author.Tests.{lt-ltb, le-ltb}
use lib.ListN.{length, take, drop, replicate, length-drop, length-take, drop_of_length-le}
use native.Mathlib.Nat.{mul-le-mul_right}
use Rattle.reading.specs.Items.{items, item_width, item_words, item_refusal, trivia_items}
use Rattle.reading.specs.Table.{answered, refused, first_high, room, zeros, filled, max_text}
use Rattle.table.specs.Words.{Holds}
use Rattle.table.proofs.Holds.{words_length, holds_filled}
use Rattle.trivia.specs.Answers.{listed, Lists}
use Rattle.trivia.specs.declared.Listing.{Listing}
use Rattle.trivia.proofs.Entries.{items_written}

-- Zeros, as `fill` leaves them --------------------------------------------

zeros_are : (n : ℕ) → replicate n 0 ≡ zeros n
zeros_are zero = refl
zeros_are (suc n) = ap (0 ∷◌) (zeros_are n)

pub zeros_only : (t : List ℕ) → replicate (length t) 0 ≡ filled [] t
zeros_only t = zeros_are (length t) ∙ ap zeros (let e : length t ≡ length t - 0 = omega arith in e)

pub zeros_behind : (t ys : List ℕ) (a : ℕ) → a ≤ length t → ys ≡ replicate (length (take (length t - a) (drop a t))) 0
    → put_mid a (length t - a) t ys ≡ take a t ++ zeros (length t - a)
zeros_behind t ys a h e =
    let none : drop (length t - a) (drop a t) ≡ [] = drop_of_length-le (drop a t) (omega (arith, length-drop a t)) in
    let all : length (take (length t - a) (drop a t)) ≡ length t - a = omega (arith, length-drop a t, length-take (length t - a) (drop a t)) in
    ap (take a t ++◌) (ap (ys ++◌) none ∙ append-nil ys ∙ e ∙ ap (λ (n : ℕ). replicate n 0) all ∙ zeros_are (length t - a))

-- The answer -----------------------------------------------------------------

-- the words of the items, and zeros behind them
zeroed : (s t u : List ℕ) (n : ℕ) → n ≡ length (items s).0 → n ≤ room item_width t → length u ≡ length t → Holds item_width u (item_words (items s).0)
    → take (n * 3) u ++ zeros (length u - n * 3) ≡ filled (item_words (items s).0) t
zeroed s t u n c m e h =
    let l = words_length items_written (items s).0 in
    let r : room item_width u ≡ room item_width t = ap (λ (k : ℕ). k / 3) e in
    holds_filled item_width u (item_words (items s).0) (n * 3) h (omega (arith, l, c, r, mul-le-mul_right 3 m)) (omega (arith, l, c))
    ∙ ap (λ (k : ℕ). item_words (items s).0 ++ zeros (k - length (item_words (items s).0))) e

pub too_long : (s t : List ℕ) → max_text < length s → listed (refused 1 (length s)) t ≡ trivia_items s t
unfolding trivia_items item_refusal
too_long s t h = rw (lt-ltb max_text (length s) h)

module _ (s t : List ℕ) (h : length s ≤ max_text) where
  pub high_byte : (g : ℕ) → some g ≡ first_high 0 s → listed (refused 2 g) t ≡ trivia_items s t
  unfolding trivia_items item_refusal
  high_byte g e = rw (le-ltb max_text (length s) h, sym e)

  module _ (e : none ≡ first_high 0 s) {u : List ℕ} {r : Listing} (l : Lists s u r) where
    pub no_item : r.end.0 < length s → listed (refused 11 r.end.0) t ≡ trivia_items s t
    unfolding trivia_items item_refusal
    no_item k = rw (le-ltb max_text (length s) h, sym e, sym l.ends, lt-ltb r.end.0 (length s) k)

    module _ (k : length s ≤ r.end.0) where
      pub no_room : room item_width t < r.count → listed (refused 12 r.count) (filled [] t) ≡ trivia_items s t
      unfolding trivia_items item_refusal
      no_room m = rw (le-ltb max_text (length s) h, sym e, sym l.ends, le-ltb r.end.0 (length s) k, sym l.count, lt-ltb (room item_width t) r.count m)

      pub counted : r.count ≤ room item_width t → {v w : List ℕ} → length v ≡ length t → Holds item_width v (item_words (items s).0)
          → w ≡ take (r.count * 3) v ++ zeros (length v - r.count * 3) → listed (answered r.count) w ≡ trivia_items s t
      unfolding trivia_items item_refusal
      counted m {v} n o q =
          rw (q, zeroed s t v r.count l.count m n o)
          (rw (le-ltb max_text (length s) h, sym e, sym l.ends, le-ltb r.end.0 (length s) k, sym l.count, le-ltb (room item_width t) r.count m)
          (ap (λ (n : ℕ). listed (answered n) (filled (item_words (items s).0) t)) l.count))
