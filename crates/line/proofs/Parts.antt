-- A table in two parts, the second behind the rows so far.
use mathlib.Core.Path.{◌≡◌, refl, ap, sym, ◌∙◌}
use mathlib.Core.Bool.{Bool, true, false}
use mathlib.Core.List.{List, [], ◌∷◌, ◌++◌, append-nil}
use mathlib.Core.Logic.{inl, inr}
use Prim.Native.Nat.{ℕ, zero, suc, ◌+◌, ◌*◌, ◌-◌, ◌≤◌, ◌<◌}
use native.Mathlib.Omega.{arith}
use borrow.Author.Tests.{ltb-true, ltb-false}
use lib.Dec.{ltb}
use lib.ListN.{length, get_or, set, take, drop, length-append, get_or-append, drop_of_length-le}
use lib.Seq.{set-append_left, get_or-append-add, get_or-take, take_all, take-set-lt, drop-set-lt, length-take-le}
use Rattle.reading.specs.Table.{row_width, room, line}
use Rattle.table.specs.Words.{Holds}
use Rattle.line.specs.Lines.{low_at, line_at, lined, Cut}
use Rattle.line.proofs.Fills.{lined_length}

-- the rows so far have their lines in the first part
front : (s t v : List ℕ) (k n : ℕ) → n * row_width ≤ k → k ≤ length t → take k (lined s t n) ++ v ≡ lined s (take k t ++ v) n
unfolding lined
front s t v k zero h i = refl
front s t v k (suc n) h i =
    let o : line_at n < k = omega arith in
    let l : length (take k (lined s t n)) ≡ k = length-take-le k (lined s t n) (omega (arith, lined_length s t n)) in
    let x : get_or (take k t ++ v) (low_at n) 0 ≡ get_or t (low_at n) 0 =
    get_or-append (take k t) v 0 (low_at n) (omega (arith, length-take-le k t i)) ∙ get_or-take k t (low_at n) 0 (omega arith) in
    ap (◌++ v) (take-set-lt k (lined s t n) (line_at n) (line s (get_or t (low_at n) 0)) o)
    ∙ sym (set-append_left (take k (lined s t n)) v (line_at n) (line s (get_or t (low_at n) 0)) (omega arith))
    ∙ ap (λ (w : List ℕ). set w (line_at n) (line s (get_or t (low_at n) 0))) (front s t v k n (omega arith) i)
    ∙ ap (λ (y : ℕ). set (lined s (take k t ++ v) n) (line_at n) (line s y)) (sym x)

behind : (s t : List ℕ) (k n : ℕ) → n * row_width ≤ k → drop k (lined s t n) ≡ drop k t
unfolding lined
behind s t k zero h = refl
behind s t k (suc n) h = drop-set-lt k (lined s t n) (line_at n) _ (omega arith) ∙ behind s t k n (omega arith)

pub lined_front : (s t v : List ℕ) (k n : ℕ) → Cut k n t → length v ≡ length t - k → take k (lined s t n) ++ v ≡ lined s (take k t ++ v) n
lined_front s t v k n (i, inl e) h = front s t v k n (omega arith) i
lined_front s t v k n (i, inr (e, m)) h = go v (omega arith)
  where
    go : (v : List ℕ) → length v ≡ 0 → take k (lined s t n) ++ v ≡ lined s (take k t ++ v) n
    go [] o =
        append-nil (take k (lined s t n))
        ∙ take_all k (lined s t n) (omega (arith, lined_length s t n))
        ∙ ap (λ (w : List ℕ). lined s w n) (sym (append-nil (take k t) ∙ take_all k t (omega arith)))
    go (x ∷ v) o = absurd (let z : ⊥ = omega arith in z)

pub lined_behind : (s t : List ℕ) (k n : ℕ) → Cut k n t → drop k (lined s t n) ≡ drop k t
lined_behind s t k n (i, inl e) = behind s t k n (omega arith)
lined_behind s t k n (i, inr (e, m)) = drop_of_length-le (lined s t n) {i = k} (omega (arith, lined_length s t n)) ∙ sym (drop_of_length-le t {i = k} (omega arith))

-- what each part holds, the whole holds
pub holds_behind : (t v a b : List ℕ) (k n : ℕ) → Cut k n t → length a ≡ n * row_width → length v ≡ length t - k → Holds row_width t a → Holds row_width v b
    → Holds row_width (take k t ++ v) (a ++ b)
holds_behind t v a b k n (i, c) e f g h = record { word = λ j o l. go j o l (ltb j k) refl }
  where
    m : length (take k t) ≡ k
    m = length-take-le k t i

    whole : length (take k t ++ v) ≡ length t
    whole = omega (arith, length-append (take k t) v, m)

    few : k ≤ n * row_width
    few = elim c [ inl x ↦ omega (arith, x) | inr x ↦ omega (arith, x.0, x.1) ]

    late : (j : ℕ) → j < room row_width (take k t ++ v) * row_width → k ≤ j → k ≡ n * row_width
    late j l o = elim c [ inl x ↦ x | inr x ↦ absurd (let z : ⊥ = omega (arith, x.0, whole) in z) ]

    go : (j : ℕ) → j < length (a ++ b) → j < room row_width (take k t ++ v) * row_width → (x : Bool) → ltb j k ≡ x → get_or (take k t ++ v) j 0 ≡ get_or (a ++ b) j 0
    go j o l true q =
        let r : j < k = ltb-true _ _ q in
        get_or-append (take k t) v 0 j (omega (arith, m))
        ∙ get_or-take k t j 0 r
        ∙ g.word j (omega (arith, few)) (omega (arith, whole))
        ∙ sym (get_or-append a b 0 j (omega (arith, few)))
    go j o l false q =
        let r : k ≤ j = ltb-false _ _ q in
        let x : k ≡ n * row_width = late j l r in
        let y : j ≡ length (take k t) + (j - k) = omega (arith, m) in
        let z : length a + (j - k) ≡ j = omega (arith, x) in
        ap (λ (w : ℕ). get_or (take k t ++ v) w 0) y
        ∙ get_or-append-add (take k t) v (j - k) 0
        ∙ h.word (j - k) (omega (arith, length-append a b, x)) (omega (arith, whole, x))
        ∙ sym (get_or-append-add a b (j - k) 0)
        ∙ ap (λ (w : ℕ). get_or (a ++ b) w 0) z
