-- Lines of places: from one place to the next, behind the text's end, and along a stretch.
use mathlib.Core.Path.{◌≡◌, refl, ap, sym, subst, ◌∙◌}
use mathlib.Core.Bool.{Bool, true, false, cond}
use mathlib.Core.List.{List, [], ◌∷◌}
use mathlib.Core.Logic.{◌⊎◌, inl, inr}
use Prim.Native.Nat.{ℕ, zero, suc, ◌+◌, ◌-◌, min, ◌≤◌, ◌<◌}
use native.Mathlib.Omega.{arith}
use borrow.Author.Tests.{eq-eqb, ne_eqb, eqb-true, eqb-false, leb-true, leb-false}
use lib.Dec.{eqb, leb}
use lib.ListN.{length, get_or, take, drop, length-take, get_or-eq_default}
use mir.Val.{bool_byte}
use Rattle.std.proofs.lemmas.List.{get_or-take, get_or-drop}
use Rattle.reading.specs.Table.{line_feeds, line}
use Rattle.line.specs.Lines.{Level}

-- from a place to the next ---------------------------------------------------

feeds_next : (s : List ℕ) (p : ℕ) → line_feeds (take (suc p) s) ≡ cond (eqb (get_or s p 0) 10) (suc (line_feeds (take p s))) (line_feeds (take p s))
feeds_next [] zero = refl
feeds_next [] (suc p) = refl
feeds_next (b ∷ s) zero = refl
feeds_next (b ∷ s) (suc p) = go (eqb b 10) (eqb (get_or s p 0) 10) (feeds_next s p)
  where
    go : (x y : Bool) → line_feeds (take (suc p) s) ≡ cond y (suc (line_feeds (take p s))) (line_feeds (take p s))
        → cond x (suc (line_feeds (take (suc p) s))) (line_feeds (take (suc p) s))
        ≡ cond y (suc (cond x (suc (line_feeds (take p s))) (line_feeds (take p s)))) (cond x (suc (line_feeds (take p s))) (line_feeds (take p s)))
    go true true h = ap suc h
    go true false h = ap suc h
    go false true h = h
    go false false h = h

line_next : (s : List ℕ) (p : ℕ) → line s (suc p) ≡ cond (eqb (get_or s p 0) 10) (suc (line s p)) (line s p)
unfolding line
line_next s p = go (eqb (get_or s p 0) 10) (feeds_next s p)
  where
    go : (y : Bool) → line_feeds (take (suc p) s) ≡ cond y (suc (line_feeds (take p s))) (line_feeds (take p s))
        → 1 + line_feeds (take (suc p) s) ≡ cond y (suc (1 + line_feeds (take p s))) (1 + line_feeds (take p s))
    go true h = omega (arith, h)
    go false h = omega (arith, h)

pub line_over : (s : List ℕ) (p : ℕ) → get_or s p 0 ≡ 10 → line s (p + 1) ≡ line s p + 1
line_over s p h = go (line_next s p ∙ ap (λ (x : Bool). cond x (suc (line s p)) (line s p)) (eq-eqb _ _ h))
  where
    go : line s (suc p) ≡ suc (line s p) → line s (p + 1) ≡ line s p + 1
    go e = ap (line s) (let o : p + 1 ≡ suc p = omega arith in o) ∙ e ∙ (let o : suc (line s p) ≡ line s p + 1 = omega arith in o)

pub line_on : (s : List ℕ) (p : ℕ) → (get_or s p 0 ≡ 10 → ⊥) → line s (p + 1) ≡ line s p
line_on s p h = ap (line s) (let o : p + 1 ≡ suc p = omega arith in o) ∙ line_next s p ∙ ap (λ (x : Bool). cond x (suc (line s p)) (line s p)) (ne_eqb _ _ h)

pub one_at_most : (b : Bool) (n : ℕ) → n ≡ bool_byte b → n ≤ 1
one_at_most true n e = omega (arith, e)
one_at_most false n e = omega (arith, e)

-- a byte more, and a line more if it is a line feed
pub line_more : (s : List ℕ) (p : ℕ) {b n : ℕ} → b ≡ get_or s p 0 → n ≡ bool_byte (eqb b 10) → line s p + n ≡ line s (p + 1)
line_more s p {b} {n} e h = go (eqb b 10) refl h
  where
    go : (x : Bool) → eqb b 10 ≡ x → n ≡ bool_byte x → line s p + n ≡ line s (p + 1)
    go true f h = omega (arith, h, line_over s p (sym e ∙ eqb-true _ _ f))
    go false f h = omega (arith, h, line_on s p (λ i. eqb-false _ _ f (e ∙ i)))

-- a byte of a part
pub part_at : (s : List ℕ) (a k i : ℕ) → i < length (take k (drop a s)) → get_or (take k (drop a s)) i 0 ≡ get_or s (a + i) 0
part_at s a k i h = get_or-take k (drop a s) i 0 (omega (arith, length-take k (drop a s))) ∙ get_or-drop a s i 0

pub line_start : (s : List ℕ) → line s 0 ≡ 1
unfolding line
line_start s = refl

-- behind the text's end all places are on its last line
past_end : (s : List ℕ) (p d : ℕ) → length s ≤ p → line s (p + d) ≡ line s p
past_end s p zero h = ap (line s) (let e : p + 0 ≡ p = omega arith in e)
past_end s p (suc d) h =
    ap (line s) (let e : p + suc d ≡ p + d + 1 = omega arith in e)
    ∙ line_on s (p + d) (λ e. zero_not (sym (get_or-eq_default s 0 (let o : length s ≤ p + d = omega arith in o)) ∙ e))
    ∙ past_end s p d h
  where
    zero_not : ◌≡◌ {A = ℕ} 0 10 → ⊥
    zero_not e = omega (arith, e)

pub line_end : (s : List ℕ) (p q : ℕ) → length s ≤ p → p ≤ q → line s q ≡ line s p
line_end s p q h i = ap (line s) (let e : q ≡ p + (q - p) = omega arith in e) ∙ past_end s p (q - p) h

-- a text has no more lines than bytes, and one
feeds_bound : (s : List ℕ) → line_feeds s ≤ length s
feeds_bound [] = omega arith
feeds_bound (b ∷ s) = go (eqb b 10) (feeds_bound s)
  where
    go : (x : Bool) → line_feeds s ≤ length s → cond x (suc (line_feeds s)) (line_feeds s) ≤ suc (length s)
    go true h = omega (arith, h)
    go false h = omega (arith, h)

pub line_bound : (s : List ℕ) (p : ℕ) → line s p ≤ length s + 1
unfolding line
line_bound s p = omega (arith, feeds_bound (take p s), length-take p s)

-- places on one line ---------------------------------------------------------

pub level_none : (s : List ℕ) (a z : ℕ) → z ≤ a → Level s a z
level_none s a z h = record { same = λ p i j. ap (line s) (let e : p ≡ a = omega arith in e) }

level_both : {s : List ℕ} {a m z : ℕ} → a ≤ m → Level s a m → Level s m z → Level s a z
level_both {s} {a} {m} {z} h f g = record { same = λ p i j. go p i j (leb p m) refl }
  where
    go : (p : ℕ) → a ≤ p → p ≤ z → (x : Bool) → leb p m ≡ x → line s p ≡ line s a
    go p i j true e = f.same p i (leb-true _ _ e)
    go p i j false e = g.same p (let o : m < p = leb-false _ _ e in omega arith) j ∙ f.same m h (omega arith)

-- over one byte that is no line feed
level_one : (s : List ℕ) (a : ℕ) → (get_or s a 0 ≡ 10 → ⊥) → Level s a (a + 1)
level_one s a n = record { same = λ p i j. go p i j (leb p a) refl }
  where
    go : (p : ℕ) → a ≤ p → p ≤ a + 1 → (x : Bool) → leb p a ≡ x → line s p ≡ line s a
    go p i j true e = (level_none s a a (omega arith)).same p i (leb-true _ _ e)
    go p i j false e = ap (line s) (let o : a < p = leb-false _ _ e in let q : p ≡ a + 1 = omega arith in q) ∙ line_on s a n

-- j bytes have been looked at; as far as they and the first line feed among them go, all is one line
abbrev pub Clear : List ℕ → ℕ → ℕ → ℕ → Type 0
Clear s a j first = (m : ℕ) → m ≤ j → m ≤ first → Level s a (a + m)

pub clear_none : (s : List ℕ) (a first : ℕ) → Clear s a 0 first
clear_none s a first m i j = level_none s a (a + m) (omega arith)

-- one byte more: a line feed, or not
pub clear_more : {s : List ℕ} {a j first : ℕ} (k : ℕ) → Clear s a j first → (k ≡ j) ⊎ (get_or s (a + j) 0 ≡ 10 → ⊥) → (x : ℕ) → x ≤ first → x ≤ k → Clear s a (j + 1) x
clear_more {s} {a} {j} {first} k l (inl e) x g h m i n = l m (omega arith) (omega arith)
clear_more {s} {a} {j} {first} k l (inr e) x g h m i n = go (leb m j) refl
  where
    go : (b : Bool) → leb m j ≡ b → Level s a (a + m)
    go true o = l m (leb-true _ _ o) (omega arith)
    go false o =
        let p : j < m = leb-false _ _ o in
        subst (Level s a) (let q : a + j + 1 ≡ a + m = omega arith in q) (level_both (omega arith) (l j (omega arith) (omega arith)) (level_one s (a + j) e))

-- counting has come to the place, or to the text's end before it
pub line_reached : (s : List ℕ) (i to : ℕ) → min (length s) to ≤ i → i ≤ to → line s to ≡ line s i
line_reached s i to h k = go (leb (length s) i) refl
  where
    go : (x : Bool) → leb (length s) i ≡ x → line s to ≡ line s i
    go true e = line_end s i to (leb-true _ _ e) k
    go false e = ap (line s) (let o : to ≡ i = omega (arith, h, leb-false (length s) i e) in o)
