-- The order of texts by share and then index: it is total and transitive, so the list of all texts is in order, and has each of them.
use mathlib.Core.Path.{◌≡◌, refl, sym, subst}
use mathlib.Core.Bool.{Bool, true, false, not, ◌&&◌, ◌||◌, cond, or-true, true≢false}
use mathlib.Core.List.{List, [], ◌∷◌}
use Prim.Native.Nat.{ℕ, zero, suc, ◌*◌, ◌≤◌, ◌<◌}
use native.Mathlib.Omega.{arith}
use native.Mathlib.Nat.{mul-le-mul_right, mul-lt-mul_of_pos_right, mul_right_comm, le_of_mul-le-mul_right, lt_of_mul-lt-mul_right}
use borrow.Author.Tests.{lt-ltb, le-ltb, ltb-true, ltb-false}
use lib.Dec.{ltb}
use lib.ListN.{take}
use Rattle.share.specs.Claims.{All, nothing, another, Ordered, none, more, Out}
use Rattle.share.specs.Shares.{trivia_of, over, larger, ahead, placed, ranked}
use Rattle.share.specs.Steps.{Before}
use Rattle.share.proofs.Ranks.{ranked_before, take_all}

-- i is one of them
pub data In (i : ℕ) : List ℕ → Type 0 where
  here : {js : List ℕ} → In i (i ∷ js)
  there : {j : ℕ} {js : List ℕ} → In i js → In i (j ∷ js)

-- Three fractions -------------------------------------------------------------

-- a over o, b over p, c over q
module _ (a o b p c q : ℕ) where
  products : b * o * q ≤ a * p * q → c * p * o ≤ b * q * o → c * o * p ≤ a * q * p
  products h k = omega (arith, mul_right_comm b o q, mul_right_comm a p q, mul_right_comm c p o, h, k)

  not_less : 0 < p → b * o ≤ a * p → c * p ≤ b * q → c * o ≤ a * q
  not_less z h k = le_of_mul-le-mul_right {m = c * o} {n = a * q} {k = p} (products (mul-le-mul_right q h) (mul-le-mul_right o k)) z

  more_left : 0 < q → b * o < a * p → c * p ≤ b * q → c * o < a * q
  more_left z h k =
      lt_of_mul-lt-mul_right p {m = c * o} {n = a * q}
      (omega (arith, mul_right_comm b o q, mul_right_comm a p q, mul_right_comm c p o, mul-lt-mul_of_pos_right {m = b * o} {n = a * p} {k = q} h z, mul-le-mul_right {m = c * p} {n = b * q} o k))

  more_right : 0 < o → b * o ≤ a * p → c * p < b * q → c * o < a * q
  more_right z h k =
      lt_of_mul-lt-mul_right p {m = c * o} {n = a * q}
      (omega (arith, mul_right_comm b o q, mul_right_comm a p q, mul_right_comm c p o, mul-le-mul_right {m = b * o} {n = a * p} q h, mul-lt-mul_of_pos_right {m = c * p} {n = b * q} {k = o} k z))

-- Two texts -------------------------------------------------------------------

module _ (w : List ℕ) where
  over_positive : (i : ℕ) → 0 < over w i
  over_positive i = omega arith

  -- what the definition's test says
  data Ahead (i j : ℕ) : Type 0 where
    by_share : trivia_of w j * over w i < trivia_of w i * over w j → Ahead i j
    by_index : trivia_of w j * over w i ≤ trivia_of w i * over w j → i < j → Ahead i j

  ahead_is : (i j : ℕ) → ahead w i j ≡ true → Ahead i j
  unfolding ahead larger
  ahead_is i j e = go (ltb (trivia_of w j * over w i) (trivia_of w i * over w j)) (ltb (trivia_of w i * over w j) (trivia_of w j * over w i)) (ltb i j) refl refl refl e
    where
      go : (x y z : Bool) → ltb (trivia_of w j * over w i) (trivia_of w i * over w j) ≡ x → ltb (trivia_of w i * over w j) (trivia_of w j * over w i) ≡ y → ltb i j ≡ z
          → x || (not y && z) ≡ true → Ahead i j
      go true y z p q r e = by_share (ltb-true _ _ p)
      go false true z p q r e = absurd (true≢false (sym e))
      go false false true p q r e = by_index (ltb-false _ _ q) (ltb-true i j r)
      go false false false p q r e = absurd (true≢false (sym e))

  is_ahead : {i j : ℕ} → Ahead i j → ahead w i j ≡ true
  unfolding ahead larger
  is_ahead {i} {j} (by_share h) = rw (lt-ltb (trivia_of w j * over w i) (trivia_of w i * over w j) h)
  is_ahead {i} {j} (by_index h k) = rw (le-ltb (trivia_of w i * over w j) (trivia_of w j * over w i) h, lt-ltb i j k) (or-true (larger w i j))

  ahead_through : (i j k : ℕ) → Ahead i j → Ahead j k → Ahead i k
  ahead_through i j k (by_share h) (by_share l) = by_share (more_left _ _ _ _ _ _ (over_positive k) h (omega arith))
  ahead_through i j k (by_share h) (by_index l n) = by_share (more_left _ _ _ _ _ _ (over_positive k) h l)
  ahead_through i j k (by_index h m) (by_share l) = by_share (more_right _ _ _ _ _ _ (over_positive i) h l)
  ahead_through i j k (by_index h m) (by_index l n) = by_index (not_less _ _ _ _ _ _ (over_positive j) h l) (omega arith)

  -- an earlier text that the later one i does not come before comes before it
  earlier_ahead : (i j : ℕ) → j < i → ahead w i j ≡ false → Ahead j i
  unfolding ahead larger
  earlier_ahead i j h e = go (ltb (trivia_of w j * over w i) (trivia_of w i * over w j)) refl e
    where
      go : (x : Bool) → ltb (trivia_of w j * over w i) (trivia_of w i * over w j) ≡ x
          → x || (not (ltb (trivia_of w i * over w j) (trivia_of w j * over w i)) && ltb i j) ≡ false → Ahead j i
      go true p e = absurd (true≢false e)
      go false p e = by_index (ltb-false _ _ p) h

  -- All texts -----------------------------------------------------------------

  through_all : (i j : ℕ) (js : List ℕ) → Ahead i j → All (λ k. ahead w j k ≡ true) js → All (λ k. ahead w i k ≡ true) js
  through_all i j [] h nothing = nothing
  through_all i j (k ∷ js) h (another l a) = another (is_ahead (ahead_through i j k h (ahead_is j k l))) (through_all i j js h a)

  -- j comes before all of them, and before i
  all_placed : (i j : ℕ) (js : List ℕ) → ahead w j i ≡ true → All (λ k. ahead w j k ≡ true) js → All (λ k. ahead w j k ≡ true) (placed w i js)
  unfolding placed
  all_placed i j [] h nothing = another h nothing
  all_placed i j (k ∷ js) h (another l a) = go (ahead w i k) (all_placed i j js h a)
    where
      go : (b : Bool) → All (λ k. ahead w j k ≡ true) (placed w i js) → All (λ k. ahead w j k ≡ true) (cond b (i ∷ k ∷ js) (k ∷ placed w i js))
      go true c = another h (another l a)
      go false c = another l c

  ordered_placed : (i : ℕ) (js : List ℕ) → Before i js → Ordered w js → Ordered w (placed w i js)
  unfolding placed
  ordered_placed i [] nothing none = more nothing none
  ordered_placed i (j ∷ js) (another h b) (more a o) = go (ahead w i j) refl (ordered_placed i js b o)
    where
      go : (x : Bool) → ahead w i j ≡ x → Ordered w (placed w i js) → Ordered w (cond x (i ∷ j ∷ js) (j ∷ placed w i js))
      go true e c = more (another e (through_all i j js (ahead_is i j e) a)) (more a o)
      go false e c = more (all_placed i j js (is_ahead (earlier_ahead i j h e)) a) c

  pub ranked_ordered : (n : ℕ) → Ordered w (ranked w n)
  unfolding ranked
  ranked_ordered zero = none
  ranked_ordered (suc n) = ordered_placed n (ranked w n) (ranked_before w n) (ranked_ordered n)

  pub take_ordered : (m : ℕ) (js : List ℕ) → Ordered w js → Ordered w (take m js)
  take_ordered zero js o = none
  take_ordered (suc m) [] none = none
  take_ordered (suc m) (j ∷ js) (more a o) = more (take_all m js a) (take_ordered m js o)

  -- Each of them is there -----------------------------------------------------

  placed_here : (i : ℕ) (js : List ℕ) → In i (placed w i js)
  unfolding placed
  placed_here i [] = here
  placed_here i (j ∷ js) = go (ahead w i j) (placed_here i js)
    where
      go : (b : Bool) → In i (placed w i js) → In i (cond b (i ∷ j ∷ js) (j ∷ placed w i js))
      go true h = here
      go false h = there h

  placed_keeps : (i k : ℕ) (js : List ℕ) → In k js → In k (placed w i js)
  unfolding placed
  placed_keeps i k [] x = elim x [ ]
  placed_keeps i k (j ∷ js) here = go (ahead w i k)
    where
      go : (b : Bool) → In k (cond b (i ∷ k ∷ js) (k ∷ placed w i js))
      go true = there here
      go false = here
  placed_keeps i k (j ∷ js) (there h) = go (ahead w i j) (placed_keeps i k js h)
    where
      go : (b : Bool) → In k (placed w i js) → In k (cond b (i ∷ j ∷ js) (j ∷ placed w i js))
      go true l = there (there h)
      go false l = there l

  pub ranked_has : (n i : ℕ) → i < n → In i (ranked w n)
  unfolding ranked
  ranked_has zero i h = absurd (let z : ⊥ = omega arith in z)
  ranked_has (suc n) i h = go (ltb i n) refl (ranked_has n i)
    where
      go : (b : Bool) → ltb i n ≡ b → (i < n → In i (ranked w n)) → In i (placed w n (ranked w n))
      go true e f = placed_keeps n i (ranked w n) (f (ltb-true i n e))
      go false e f = subst (λ (k : ℕ). In k (placed w n (ranked w n))) (let u : n ≡ i = omega (arith, ltb-false i n e) in u) (placed_here n (ranked w n))

  -- What is left out ----------------------------------------------------------

  found_in : (j i : ℕ) (js : List ℕ) → All (λ k. ahead w j k ≡ true) js → In i js → ahead w j i ≡ true
  found_in j i [] a x = elim x [ ]
  found_in j i (k ∷ js) (another h a) here = h
  found_in j i (k ∷ js) (another h a) (there p) = found_in j i js a p

  pub out_behind : (m i : ℕ) (js : List ℕ) → Ordered w js → In i js → Out i (take m js) → All (λ j. ahead w j i ≡ true) (take m js)
  out_behind zero i js o p u = nothing
  out_behind (suc m) i [] o p u = elim p [ ]
  out_behind (suc m) i (j ∷ js) (more a o) here (another n u) = absurd (n refl)
  out_behind (suc m) i (j ∷ js) (more a o) (there p) (another n u) = another (found_in j i js a p) (out_behind m i js o p u)

  -- what comes before has a share that is not smaller
  pub behind_smaller : (i : ℕ) (js : List ℕ) → All (λ j. ahead w j i ≡ true) js → All (λ j. larger w i j ≡ false) js
  unfolding larger
  behind_smaller i [] nothing = nothing
  behind_smaller i (j ∷ js) (another h a) = another (not_larger (ahead_is j i h)) (behind_smaller i js a)
    where
      not_larger : Ahead j i → ltb (trivia_of w j * over w i) (trivia_of w i * over w j) ≡ false
      not_larger (by_share l) = le-ltb (trivia_of w j * over w i) (trivia_of w i * over w j) (omega arith)
      not_larger (by_index l k) = le-ltb (trivia_of w j * over w i) (trivia_of w i * over w j) l
