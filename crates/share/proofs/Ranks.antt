-- The three largest, one text after another: of the texts in order the front alone is kept.
use mathlib.Core.Path.{◌≡◌, refl, ap, sym, subst, ◌∙◌}
use mathlib.Core.Bool.{Bool, true, false, not, cond, and-false, or-false}
use mathlib.Core.List.{List, [], ◌∷◌, ◌++◌}
use Prim.Native.Nat.{ℕ, zero, suc, ◌+◌, ◌-◌, ◌≤◌, ◌<◌}
use native.Mathlib.Omega.{arith}
use borrow.Author.Tests.{le-ltb}
use borrow.Rule.Slice.PartMut.{mid_of, put_mid}
use lib.ListN.{length, take, set}
use Rattle.std.specs.Prelude.{drop, IfSome, Option as Found, Some, None}
use Rattle.std.specs.List.{position, position_or_len}
use Rattle.std.proofs.lemmas.Grind.{common_steps}
use Rattle.std.proofs.lemmas.List.Sums.{prefix_len-le-length}
use Rattle.share.specs.Claims.{All, nothing as none, another as more}
use Rattle.share.specs.Shares.{texts, larger, ahead, placed, ranked}
use Rattle.share.specs.Steps.{Before, front, places, largest_of, goes_to, Inside, With}

-- Where a text is placed ------------------------------------------------------

-- a later text comes before another only with a larger share
later : (w : List ℕ) (i j : ℕ) → j < i → ahead w i j ≡ larger w i j
unfolding ahead
later w i j h = rw (le-ltb i j (omega arith), and-false (not (larger w j i))) (or-false (larger w i j))

placed_length : (w : List ℕ) (i : ℕ) (js : List ℕ) → length (placed w i js) ≡ suc (length js)
unfolding placed
placed_length w i [] = refl
placed_length w i (j ∷ js) = go (ahead w i j) (placed_length w i js)
  where
    go : (b : Bool) → length (placed w i js) ≡ suc (length js) → length (cond b (i ∷ j ∷ js) (j ∷ placed w i js)) ≡ suc (suc (length js))
    go true e = refl
    go false e = ap suc e

pub ranked_length : (w : List ℕ) (n : ℕ) → length (ranked w n) ≡ n
unfolding ranked
ranked_length w zero = refl
ranked_length w (suc n) = placed_length w n (ranked w n) ∙ ap suc (ranked_length w n)

-- Their indexes ---------------------------------------------------------------

next_before : {i : ℕ} (js : List ℕ) → Before i js → Before (suc i) js
next_before [] none = none
next_before (j ∷ js) (more h b) = more {j = j} (omega arith) (next_before js b)

placed_before : (w : List ℕ) (i : ℕ) (js : List ℕ) → Before i js → Before (suc i) (placed w i js)
unfolding placed
placed_before w i [] none = more {j = i} (omega arith) none
placed_before w i (j ∷ js) (more h b) = go (ahead w i j) (placed_before w i js b)
  where
    go : (x : Bool) → Before (suc i) (placed w i js) → Before (suc i) (cond x (i ∷ j ∷ js) (j ∷ placed w i js))
    go true c = more {j = i} (omega arith) (next_before (j ∷ js) (more h b))
    go false c = more {j = j} (omega arith) c

pub ranked_before : (w : List ℕ) (n : ℕ) → Before n (ranked w n)
unfolding ranked
ranked_before w zero = none
ranked_before w (suc n) = placed_before w n (ranked w n) (ranked_before w n)

pub take_all : {P : ℕ → Type 0} (n : ℕ) (js : List ℕ) → All P js → All P (take n js)
take_all zero js b = none
take_all (suc n) [] none = none
take_all (suc n) (j ∷ js) (more h b) = more h (take_all n js b)

-- One more among the largest --------------------------------------------------

-- x before the k-th of a list
abbrev put : {A : Type 0} → ℕ → A → List A → List A
put k x xs = take k xs ++ x ∷ drop k xs

take_places : (n : ℕ) (js : List ℕ) → take n (places (suc n) js) ≡ places n js
take_places zero js = refl
take_places (suc n) js = ap (λ (ps : List (Found ℕ)). front js ∷ ps) (take_places n (drop 1 js))

-- text i stands before the first place that it goes to
module _ (w : List ℕ) (i : ℕ) where
  abbrev place : List (Found ℕ) → ℕ
  place = position_or_len (goes_to w i)

  put_places : (n : ℕ) (js : List ℕ) → Before i js → places n (placed w i js) ≡ take n (put (place (places n js)) (Some i) (places n js))
  unfolding placed
  put_places zero js b = refl
  put_places (suc n) [] none = ap (λ (ps : List (Found ℕ)). Some i ∷ ps) (sym (take_places n []))
  put_places (suc n) (j ∷ js) (more h b) = rw (later w i j h) (go (larger w i j) (put_places n js b))
    where
      go : (x : Bool) → places n (placed w i js) ≡ take n (put (place (places n js)) (Some i) (places n js))
          → places (suc n) (cond x (i ∷ j ∷ js) (j ∷ placed w i js)) ≡ take (suc n) (put (cond (not x) (1 + place (places n js)) 0) (Some i) (Some j ∷ places n js))
      go true e = ap (λ (ps : List (Found ℕ)). Some i ∷ ps) (sym (take_places n (j ∷ js)))
      go false e =
          subst (λ (k : ℕ). places (suc n) (j ∷ placed w i js) ≡ take (suc n) (put k (Some i) (Some j ∷ places n js)))
          (let f : suc (place (places n js)) ≡ 1 + place (places n js) = omega arith in f) (ap (λ (ps : List (Found ℕ)). Some j ∷ ps) e)

-- what the code does with three places
rotated : (a b c x : Found ℕ) (k : ℕ) (r : List (Found ℕ)) → k < 3
    → (let m = mid_of k (3 - k) (a ∷ b ∷ c ∷ []) in r ≡ drop (length m - 1) m ++ take (length m - 1) m)
    → set (put_mid k (3 - k) (a ∷ b ∷ c ∷ []) r) k x ≡ take 3 (put k x (a ∷ b ∷ c ∷ []))
rotated a b c x zero r h e = rw e refl
rotated a b c x (suc zero) r h e = rw e refl
rotated a b c x (suc (suc zero)) r h e = rw e refl
rotated a b c x (suc (suc (suc k))) r h e = absurd (let f : ⊥ = omega arith in f)

module _ (w : List ℕ) (i : ℕ) where
  abbrev found : List (Found ℕ) → Found ℕ
  found = position (goes_to w i)

  some_place : (ps : List (Found ℕ)) (k : ℕ) → found ps ≡ Some k → (k < length ps) × (place w i ps ≡ k)
  some_place ps k e = (grind (arith, common_steps), grind (arith, common_steps))

  no_place : (ps : List (Found ℕ)) → found ps ≡ None → length ps ≤ place w i ps
  no_place ps e = grind (arith, common_steps)

  pub put_some : (ps r : List (Found ℕ)) (k : ℕ) → found ps ≡ Some k → (let m = mid_of k (3 - k) ps in r ≡ drop (length m - 1) m ++ take (length m - 1) m)
      → With w i ps (set (put_mid k (3 - k) ps r) k (Some i))
  put_some ps r k e h js q b =
      subst
      (λ (ps : List (Found ℕ)). found ps ≡ Some k → (let m = mid_of k (3 - k) ps in r ≡ drop (length m - 1) m ++ take (length m - 1) m)
      → set (put_mid k (3 - k) ps r) k (Some i) ≡ largest_of (placed w i js))
      (sym q) go e h
    where
      go : found (largest_of js) ≡ Some k
          → (let m = mid_of k (3 - k) (largest_of js) in r ≡ drop (length m - 1) m ++ take (length m - 1) m)
          → set (put_mid k (3 - k) (largest_of js) r) k (Some i) ≡ largest_of (placed w i js)
      go e h =
          let p = some_place (largest_of js) k e in
          rotated _ _ _ (Some i) k r p.0 h ∙ ap (λ (n : ℕ). take 3 (put n (Some i) (largest_of js))) (sym p.1) ∙ sym (put_places w i 3 js b)

  pub put_none : (ps : List (Found ℕ)) → found ps ≡ None → With w i ps ps
  put_none ps e js q b =
      subst (λ (ps : List (Found ℕ)). found ps ≡ None → ps ≡ largest_of (placed w i js)) (sym q) go e
    where
      go : found (largest_of js) ≡ None → largest_of js ≡ largest_of (placed w i js)
      go e =
          let p : place w i (largest_of js) ≡ 3 = omega (arith, no_place (largest_of js) e, prefix_len-le-length (λ x. not (goes_to w i x)) (largest_of js)) in
          ap (λ (n : ℕ). take 3 (put n (Some i) (largest_of js))) (sym p) ∙ sym (put_places w i 3 js b)

-- Text after text -------------------------------------------------------------

pub inside_places : (w : List ℕ) (i n : ℕ) (js : List ℕ) → i ≤ texts w → Before i js → Inside w (places n js)
inside_places w i zero js h b k d l = absurd (let f : ⊥ = omega arith in f)
inside_places w i (suc n) js h b zero d l = go js b
  where
    go : (js : List ℕ) → Before i js → IfSome (front js) (λ j. j < texts w)
    go [] none = tt
    go (j ∷ js) (more m _) = omega (arith, m, h)
inside_places w i (suc n) [] h none (suc k) d l = inside_places w i n [] h none k d (omega arith)
inside_places w i (suc n) (j ∷ js) h (more _ b) (suc k) d l = inside_places w i n js h b k d (omega arith)

module _ (w : List ℕ) where
  pub none_held : None ∷ None ∷ None ∷ [] ≡ largest_of (ranked w 0)
  unfolding ranked
  none_held = refl

  pub held_inside : (i n : ℕ) (ps : List (Found ℕ)) → i < n → n ≤ texts w → ps ≡ largest_of (ranked w i) → (i < texts w) × Inside w ps
  held_inside i n ps l h e = (omega (arith, h, l), subst (λ (ps : List (Found ℕ)). Inside w ps) (sym e) (inside_places w i 3 (ranked w i) (omega (arith, h, l)) (ranked_before w i)))

  pub held_next : (i : ℕ) (ps qs : List (Found ℕ)) → ps ≡ largest_of (ranked w i) → With w i ps qs → qs ≡ largest_of (ranked w (i + 1))
  unfolding ranked
  held_next i ps qs e f = f (ranked w i) e (ranked_before w i) ∙ ap (λ (k : ℕ). largest_of (ranked w k)) (let e : suc i ≡ i + 1 = omega arith in e)
