-- A table with the lines of its first rows: nothing but those words changes.
use mathlib.Core.Path.{◌≡◌, refl, ap, sym, subst, ◌∙◌}
use mathlib.Core.Bool.{Bool, true, false}
use mathlib.Core.List.{List}
use Prim.Native.Nat.{ℕ, zero, suc, ◌+◌, ◌/◌, min, ◌≤◌, ◌<◌}
use native.Mathlib.Omega.{arith}
use borrow.Author.Tests.{eqb-true, eqb-false, ltb-true, ltb-false, leb-true, leb-false}
use lib.Dec.{eqb, ltb, leb}
use lib.ListN.{length, get_or, set, length-set}
use lib.Seq.{get_or-set_same, get_or-set_other, set-get_or, set_out}
use Rattle.reading.specs.Table.{row_width, room, line}
use Rattle.line.specs.Lines.{low_at, line_at, lined, Numbered}

pub lined_length : (s t : List ℕ) (n : ℕ) → length (lined s t n) ≡ length t
unfolding lined
lined_length s t zero = refl
lined_length s t (suc n) = length-set (lined s t n) (line_at n) _ ∙ lined_length s t n

lined_low : (s t : List ℕ) (n k : ℕ) → get_or (lined s t n) (low_at k) 0 ≡ get_or t (low_at k) 0
unfolding lined
lined_low s t zero k = refl
lined_low s t (suc n) k = get_or-set_other (lined s t n) (line_at n) (low_at k) _ 0 (λ (e : low_at k ≡ line_at n). omega (arith, e)) ∙ lined_low s t n k

lined_line : (s t : List ℕ) (n k : ℕ) → k < n → k < room row_width t → get_or (lined s t n) (line_at k) 0 ≡ line s (get_or t (low_at k) 0)
unfolding lined
lined_line s t zero k i h = absurd (let z : ⊥ = omega arith in z)
lined_line s t (suc n) k i h = go (eqb k n) refl (λ j. lined_line s t n k j h)
  where
    go : (x : Bool) → eqb k n ≡ x → (k < n → get_or (lined s t n) (line_at k) 0 ≡ line s (get_or t (low_at k) 0))
        → get_or (set (lined s t n) (line_at n) (line s (get_or t (low_at n) 0))) (line_at k) 0 ≡ line s (get_or t (low_at k) 0)
    go true e g =
        subst (λ (k : ℕ). get_or (set (lined s t n) (line_at n) (line s (get_or t (low_at n) 0))) (line_at k) 0 ≡ line s (get_or t (low_at k) 0)) (sym (eqb-true _ _ e))
        (get_or-set_same (lined s t n) (line_at n) _ 0 (omega (arith, lined_length s t n, eqb-true k n e)))
    go false e g =
        let o : k ≡ n → ⊥ = eqb-false _ _ e in
        get_or-set_other (lined s t n) (line_at n) (line_at k) _ 0 (λ (q : line_at k ≡ line_at n). o (omega (arith, q))) ∙ g (let p : k < n = omega (arith, o) in p)

pub lined_none : (s t : List ℕ) → t ≡ lined s t 0
unfolding lined
lined_none s t = refl

pub numbered_so : {s u : List ℕ} (t : List ℕ) {n : ℕ} → u ≡ lined s t n → Numbered s u n
numbered_so {s} {u} t {n} e =
    subst (λ (w : List ℕ). Numbered s w n) (sym e)
    (record { each = λ k j h. lined_line s t n k j (omega (arith, ap (◌/ row_width) (lined_length s t n))) ∙ ap (line s) (sym (lined_low s t n k)) })

-- rows that have their lines stay as they are
pub numbered_same : {s : List ℕ} (u : List ℕ) (n : ℕ) → Numbered s u n → u ≡ lined s u n
unfolding lined
numbered_same {s} u zero h = refl
numbered_same {s} u (suc n) h = go (ltb n (room row_width u)) refl (numbered_same u n (record { each = λ k j i. h.each k (omega arith) i }))
  where
    go : (b : Bool) → ltb n (room row_width u) ≡ b → u ≡ lined s u n → u ≡ set (lined s u n) (line_at n) (line s (get_or u (low_at n) 0))
    go true i e =
        sym (set-get_or u (line_at n) 0) ∙ ap (set u (line_at n)) (h.each n (omega arith) (ltb-true _ _ i)) ∙ ap (λ (w : List ℕ). set w (line_at n) (line s (get_or u (low_at n) 0))) e
    go false i e =
        let o : room row_width u ≤ n = ltb-false _ _ i in
        e ∙ sym (set_out (lined s u n) (line_at n) _ (omega (arith, lined_length s u n)))

-- the lines of some rows, and then of more
pub lined_again : (s t : List ℕ) (n m : ℕ) → n ≤ m → lined s (lined s t n) m ≡ lined s t m
unfolding lined
lined_again s t n zero h = ap (lined s t) (let e : n ≡ 0 = omega arith in e)
lined_again s t n (suc m) h = go (leb n m) refl (lined_again s t n m)
  where
    go : (b : Bool) → leb n m ≡ b → (n ≤ m → lined s (lined s t n) m ≡ lined s t m)
        → set (lined s (lined s t n) m) (line_at m) (line s (get_or (lined s t n) (low_at m) 0)) ≡ set (lined s t m) (line_at m) (line s (get_or t (low_at m) 0))
    go true i g =
        ap (λ (w : List ℕ). set w (line_at m) (line s (get_or (lined s t n) (low_at m) 0))) (g (leb-true _ _ i))
        ∙ ap (λ (x : ℕ). set (lined s t m) (line_at m) (line s x)) (lined_low s t n m)
    go false i g =
        let o : m < n = leb-false _ _ i in
        let e : n ≡ suc m = omega arith in
        subst (λ (k : ℕ). lined s (lined s t n) k ≡ lined s t k) e (sym (numbered_same (lined s t n) n (numbered_so t refl)))

-- past the room there is nothing to fill in
pub lined_full : (s t : List ℕ) (n m : ℕ) → room row_width t ≤ n → n ≤ m → lined s t m ≡ lined s t n
unfolding lined
lined_full s t n zero h i = ap (lined s t) (let e : 0 ≡ n = omega arith in e)
lined_full s t n (suc m) h i = go (leb n m) refl (lined_full s t n m h)
  where
    go : (b : Bool) → leb n m ≡ b → (n ≤ m → lined s t m ≡ lined s t n) → set (lined s t m) (line_at m) (line s (get_or t (low_at m) 0)) ≡ lined s t n
    go true j g =
        let o : n ≤ m = leb-true _ _ j in
        set_out (lined s t m) (line_at m) _ (omega (arith, lined_length s t m)) ∙ g o
    go false j g =
        let o : m < n = leb-false _ _ j in
        ap (lined s t) (let e : suc m ≡ n = omega arith in e)

-- so many rows, or as many as there is room for
pub lined_reached : (s t : List ℕ) (n m : ℕ) → min m (room row_width t) ≤ n → n ≤ m → lined s t m ≡ lined s t n
lined_reached s t n m h i = go (leb m n) refl
  where
    go : (b : Bool) → leb m n ≡ b → lined s t m ≡ lined s t n
    go true e = ap (lined s t) (let q : m ≡ n = omega (arith, leb-true m n e) in q)
    go false e = lined_full s t n m (omega (arith, h, leb-false m n e)) i

-- one row more
pub lined_more : {u : List ℕ} (s t : List ℕ) (n : ℕ) {m x : ℕ} → u ≡ lined s t n → m ≡ n + 1 → x ≡ line s (get_or u (low_at n) 0) → set u (line_at n) x ≡ lined s t m
unfolding lined
lined_more {u} s t n {m} {x} e f h =
    ap (λ (w : List ℕ). set w (line_at n) x) e
    ∙ ap (set (lined s t n) (line_at n)) (h ∙ ap (λ (w : List ℕ). line s (get_or w (low_at n) 0)) e ∙ ap (line s) (lined_low s t n n))
    ∙ ap (lined s t) (let q : suc n ≡ m = omega arith in q)
