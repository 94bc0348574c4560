-- Blocks of bytes in which a test fails: no closing mark starts there, or no line ends.
use mathlib.Core.Path.{◌≡◌, refl, ap, sym, ◌∙◌}
use mathlib.Core.Bool.{Bool, true, false, not, ◌&&◌, ◌||◌, and-false}
use mathlib.Core.List.{List, [], ◌∷◌}
use mathlib.Core.Option.{Option, none, some}
use Prim.Native.Nat.{ℕ, zero, suc, ◌+◌, ◌≤◌, ◌<◌}
use native.Mathlib.Nat.{add-suc, add-zero}
use native.Mathlib.Numerals.{add-one}
use native.Mathlib.Omega.{arith}
use borrow.Author.Tests.{ltb-true, ltb-false}
use lib.Dec.{eqb, ltb}
use lib.ListN.{length, get_or, drop}
use lib.Seq.{get_or-drop}
use Rattle.reading.proofs.Bool.{neither}
use Rattle.reading.specs.Byte.{comment, plus, run}
use Rattle.cursor.proofs.Places.{run_go}
use Rattle.trivia.proofs.Marks.{left_step, left_on}
use Rattle.trivia.specs.Class.{in_line}
use Rattle.trivia.specs.Piece.{close_of, closed, closes_at, either_at, Clear, left, Unmarked}
use Rattle.std.specs.Prelude.{None}

-- Tests that no place of a part passes -----------------------------------------

pub clear_both : {f : ℕ → Bool} {a m z : ℕ} → Clear f a m → Clear f m z → Clear f a z
clear_both {f} {a} {m} {z} g h = record { plain = λ i p q. among i p q (ltb i m) refl }
  where
    among : (i : ℕ) → a ≤ i → i < z → (x : Bool) → ltb i m ≡ x → f i ≡ false
    among i p q true e = g.plain i p (ltb-true _ _ e)
    among i p q false e = h.plain i (ltb-false _ _ e) q

-- a place that does not pass, at the end
pub clear_more : {f : ℕ → Bool} {a m z : ℕ} → Clear f a m → z ≡ m + 1 → f m ≡ false → Clear f a z
clear_more {f} {a} {m} {z} g n e = clear_both g (record { plain = λ i h k. ap f (let z : i ≡ m = omega (arith, n, h, k) in z) ∙ e })

pub clear_found : {f : ℕ → Bool} {a m z : ℕ} (x : Bool) → (x ≡ false → Clear f a m) → z ≡ m + 1 → x || f m ≡ false → Clear f a z
clear_found {f} {a} {m} x g n e = let z = neither x (f m) e in clear_more (g z.0) n z.1

pub clear_to : {f : ℕ → Bool} {a m z : ℕ} → Clear f a m → z ≤ m → Clear f a z
clear_to g n = record { plain = λ i h k. g.plain i h (omega (arith, n, k)) }

-- Closing marks, and line ends -------------------------------------------------

-- no two bytes in a row are a closing mark, p the byte before
abbrev Plain : ℕ → List ℕ → Type 0
Plain p t = (i : ℕ) → eqb (get_or (p ∷ t) i 0) 42 && eqb (get_or t i 0) 47 ≡ false

behind : (b : ℕ) (t : List ℕ) → Plain b t → Plain 0 t
behind b t h zero = refl
behind b t h (suc i) = h (suc i)

-- the byte b opens a mark, or not
abbrev onward : ℕ → ℕ → List ℕ → Bool → Option ℕ
onward d b t y = elim y [ true ↦ plus 1 (comment (suc d) 0 t) | false ↦ plus 1 (comment d b t) ]

on : (d b : ℕ) (t : List ℕ) (y : Bool) → comment (suc d) 0 t ≡ none → comment d b t ≡ none → onward d b t y ≡ none
on d b t true e f = ap (plus 1) e
on d b t false e f = ap (plus 1) f

never : (t : List ℕ) (d p : ℕ) → Plain p t → comment d p t ≡ none
never [] d p h = refl
never (b ∷ t) d p h =
    ap (λ x. elim x [ true ↦ elim d [ zero ↦ some 1 | suc e ↦ plus 1 (comment e 0 t) ] | false ↦ onward d b t (eqb p 47 && eqb b 42) ]) (h 0)
    ∙ on d b t (eqb p 47 && eqb b 42) (never t (suc d) 0 (behind b t (λ i. h (suc i)))) (never t d b (λ i. h (suc i)))

past : (s : List ℕ) (i : ℕ) → length s ≤ i → get_or s i 0 ≡ 0
past [] i h = refl
past (x ∷ s) zero h = absurd (let z : ⊥ = omega (arith, h) in z)
past (x ∷ s) (suc i) h = past s i (omega (arith, h))

pub unmarked_open : (s : List ℕ) (at : ℕ) → Clear (closes_at s) at (length s) → None ≡ closed s at
unfolding closed
unmarked_open s at h = sym (ap (close_of at) (never (drop at s) 0 0 plain))
  where
    byte : (i : ℕ) → closes_at s (at + i) ≡ false
    byte i = among (ltb (at + i) (length s)) refl
      where
        among : (x : Bool) → ltb (at + i) (length s) ≡ x → closes_at s (at + i) ≡ false
        among true e = h.plain (at + i) (omega arith) (ltb-true _ _ e)
        among false e = ap (λ x. eqb x 42 && eqb (get_or s (at + i + 1) 0) 47) (past s (at + i) (ltb-false _ _ e))

    plain : Plain 0 (drop at s)
    plain zero = refl
    plain (suc i) =
        ap (λ x. eqb x 42 && eqb (get_or (drop at s) (suc i) 0) 47) (get_or-drop at s i 0)
        ∙ ap (λ x. eqb (get_or s (at + i) 0) 42 && eqb x 47) (get_or-drop at s (suc i) 0 ∙ ap (λ j. get_or s j 0) (add-suc at i ∙ sym (add-one (at + i))))
        ∙ byte i

-- a run goes on over places that do not end it
run_over : (f : ℕ → Bool) (s : List ℕ) (i n : ℕ) → i + n ≤ length s → ((j : ℕ) → i ≤ j → j < i + n → f (get_or s j 0) ≡ true)
    → i + run f (drop i s) ≡ (i + n) + run f (drop (i + n) s)
run_over f s i zero h g = ap (λ j. j + run f (drop j s)) (sym (add-zero i))
run_over f s i (suc n) h g =
    run_go f s i (omega (arith, h)) (g i (omega arith) (omega arith))
    ∙ run_over f s (i + 1) n (omega (arith, h)) (λ j a b. g j (omega (arith, a)) (omega (arith, b)))
    ∙ ap (λ j. j + run f (drop j s)) (let z : (i + 1) + n ≡ i + suc n = omega arith in z)

-- a line goes on over a block in which none ends
pub line_over : (s : List ℕ) (i : ℕ) → i + 16 ≤ length s → Clear (either_at 10 13 s) i (i + 16) → i + run in_line (drop i s) ≡ (i + 16) + run in_line (drop (i + 16) s)
line_over s i h g = run_over in_line s i 16 h (λ j a b. ap not (g.plain j a b))

-- where no star stands no mark starts: a slash before it is followed by none
stars_over : (s : List ℕ) (d i n : ℕ) → i + n < length s → Clear (either_at 42 42 s) i (i + n + 1) → left s d 0 i ≡ left s d 0 (i + n)
stars_over s d i zero h g = ap (left s d 0) (sym (add-zero i))
stars_over s d i (suc n) h g =
    left_step s d i (omega (arith, h))
    ∙ left_on s (get_or s i 0) (i + 1) (omega (arith, h)) d
    (ap (◌&& eqb (get_or s (i + 1) 0) 47) (star i (omega arith) (omega arith)))
    (ap (eqb (get_or s i 0) 47 &&◌) (star (i + 1) (omega arith) (omega arith)) ∙ and-false (eqb (get_or s i 0) 47))
    ∙ stars_over s d (i + 1) n (omega (arith, h)) (record { plain = λ j a b. g.plain j (omega (arith, a)) (omega (arith, b)) })
    ∙ ap (left s d 0) (let z : (i + 1) + n ≡ i + suc n = omega arith in z)
  where
    star : (j : ℕ) → i ≤ j → j < i + suc n + 1 → eqb (get_or s j 0) 42 ≡ false
    star j a b = (neither (eqb (get_or s j 0) 42) (eqb (get_or s j 0) 42) (g.plain j a b)).0

pub unmarked_more : {s : List ℕ} {a i : ℕ} → Unmarked s a i → i + 16 ≤ length s → Clear (either_at 42 42 s) i (i + 16) → Unmarked s a (i + 15)
unmarked_more {s} {a} {i} u h g =
    record { on = omega (arith, u.on); same = λ d. u.same d ∙ stars_over s d i 15 (omega (arith, h)) (clear_to g (omega arith)) }

pub unmarked_last : (s : List ℕ) {a m : ℕ} → Clear (closes_at s) a m → length s ≤ m + 1 → Clear (closes_at s) a (length s)
unmarked_last s {a} {m} f n = clear_to (clear_more f refl (ap (λ x. eqb (get_or s m 0) 42 && eqb x 47) (past s (m + 1) n) ∙ and-false (eqb (get_or s m 0) 42))) n

pub unmarked_none : (s : List ℕ) (i : ℕ) → Unmarked s i i
unmarked_none s i = record { on = omega arith; same = λ d. refl }
