-- Loops in general. A loop reads rounds until one misses. Its invariant is a continuation: whatever the rest of it answers from here on, with the
-- rows so far, the whole of it answers from its start. It begins with the identity, each round adds one law, and the end applies it.
use mathlib.Core.Path.{◌≡◌, refl, ap, ap₂, sym, subst, ◌∙◌}
use mathlib.Core.Bool.{Bool, false, ◌||◌, or_assoc, or-false}
use mathlib.Core.List.{List, [], ◌∷◌, ◌++◌}
use Prim.Native.Nat.{ℕ, ◌+◌, ◌*◌, ◌≤◌, ◌<◌, max}
use native.Mathlib.Omega.{arith}
use borrow.Author.Tests.{lt-ltb}
use lib.Dec.{T, ltb}
use lib.ListN.{length, drop, length-append, length-drop}
use Rattle.reading.specs.Grammar.{Rows, Input, Parser}
use Rattle.reading.specs.Summary.{Summary, fits, fails, more, thenˢ, withˢ, gateˢ, last_roundˢ, next_roundˢ, roundsˢ, scan}
use Rattle.reading.proofs.Tests.{quiet}
use Rattle.cursor.specs.Text.{here, cursor}
use Rattle.cursor.specs.Agree.{full, peak_of, Agrees, Reading, Ready}
use Rattle.cursor.specs.declared.Cursor.{Cursor}
use Rattle.cursor.specs.Read.{Read}
use Rattle.cursor.proofs.Agree.{Found, found, found_here, lost, deep, agrees_deep, agrees_is, agrees_more, peak_more, Lies, agrees_found, kept, agrees_kept}
use Rattle.cursor.proofs.Laws.{lies}
use Rattle.cursor.specs.declared.Stop.TheVariants.{Miss, Deep}
use Rattle.std.specs.Prelude.{Ok, Err}

-- Summaries ------------------------------------------------------------------

more_none : {A : Type 0} (o : Summary A) → more false 0 o ≡ o
more_none (fits a q b k) = ap (fits a q b) (let z : max 0 k ≡ k = omega arith in z)
more_none (fails b k) = ap (fails b) (let z : max 0 k ≡ k = omega arith in z)

more_more : {A : Type 0} (b c : Bool) (k j : ℕ) (o : Summary A) → more b k (more c j o) ≡ more (b || c) (max k j) o
more_more b c k j (fits a q d i) = ap₂ (fits a q) (sym (or_assoc b c d)) (let z : max k (max j i) ≡ max (max k j) i = omega arith in z)
more_more b c k j (fails d i) = ap₂ fails (sym (or_assoc b c d)) (let z : max k (max j i) ≡ max (max k j) i = omega arith in z)

then_more : {A B : Type 0} (b : Bool) (k : ℕ) (o : Summary A) (f : A → Input → Summary B) → thenˢ (more b k o) f ≡ more b k (thenˢ o f)
then_more b k (fits a q c j) f = sym (more_more b c k j (f a q))
then_more b k (fails c j) f = refl

-- a value changed on the way is one changed at the end
pub with_is : {A B : Type 0} (f : A → B) (o : Summary A) → withˢ f o ≡ thenˢ o λ a q. fits (f a) q false 0
with_is f (fits a q b k) = ap₂ (fits (f a) q) (sym (or-false b)) (let z : k ≡ max k 0 = omega arith in z)
with_is f (fails b k) = refl

-- one round and the others, then what follows
then_round : {A B : Type 0} (v : A) (o : Summary (List A)) (f g : List A → Input → Summary B) → ((vs : List A) (q : Input) → f (v ∷ vs) q ≡ g vs q)
    → thenˢ (thenˢ o λ vs q. fits (v ∷ vs) q false 0) f ≡ thenˢ o g
then_round v (fits vs q b k) f g h =
    then_more b k (fits (v ∷ vs) q false 0) f ∙ ap (more b k) (more_none (f (v ∷ vs) q) ∙ h vs q)
then_round v (fails b k) f g h = refl

-- What is left of a loop -----------------------------------------------------

pub record Loop : Type 1 where
  -- what a round reads
  pub round : Parser
  -- what is made at the end of the rows so far and the rounds to come, for a text and a level
  pub end : List ℕ → ℕ → Rows → List Rows → Input → Summary Rows
  -- the rows so far and those of a round
  pub grow : Rows → Rows → Rows
  pub joins : (s : List ℕ) (l : ℕ) (acc v : Rows) (vs : List Rows) (q : Input) → end s l acc (v ∷ vs) q ≡ end s l (grow acc v) vs q
  -- what is known of the rows so far
  pub Keeps : Rows → Type 0

-- from the place i on, after the rows acc
unfoldable pub left_of : Loop → List ℕ → ℕ → List ℕ → Rows → ℕ → Summary Rows
left_of L s l f acc i = thenˢ (roundsˢ (scan (full s) L.round) f l (here s i)) (L.end s l acc)

module _ (L : Loop) (s : List ℕ) (l : ℕ) where
  -- a round reads some bytes
  left_go : (x : ℕ) (f : List ℕ) (acc v : Rows) (i j : ℕ) (b : Bool) (k : ℕ) → scan (full s) L.round l (here s i) ≡ fits v (here s j) b k → i < j
      → left_of L s l (x ∷ f) acc i ≡ more b k (left_of L s l f (L.grow acc v) j)
  unfolding left_of
  left_go x f acc v i j b k e h =
      let r = roundsˢ (scan (full s) L.round) f l (here s j) in
      let tail : Summary (List Rows) = thenˢ r λ vs q. fits (v ∷ vs) q false 0 in
      ap (λ z. thenˢ (next_roundˢ (here s i) z λ q. roundsˢ (scan (full s) L.round) f l q) (L.end s l acc)) e
      ∙ ap (λ y. thenˢ (more b k (gateˢ y λ t. tail)) (L.end s l acc)) (lt-ltb i j h)
      ∙ then_more b k tail (L.end s l acc)
      ∙ ap (more b k) (then_round v r (L.end s l acc) (L.end s l (L.grow acc v)) (L.joins s l acc v))

  -- a round misses
  pub left_stop : (f : List ℕ) (acc : Rows) (i : ℕ) (b : Bool) (k : ℕ) → scan (full s) L.round l (here s i) ≡ fails b k
      → left_of L s l f acc i ≡ more b k (L.end s l acc [] (here s i))
  unfolding left_of
  left_stop [] acc i b k e = ap (λ z. thenˢ (last_roundˢ (here s i) z) (L.end s l acc)) e
  left_stop (x ∷ f) acc i b k e = ap (λ z. thenˢ (next_roundˢ (here s i) z λ q. roundsˢ (scan (full s) L.round) f l q) (L.end s l acc)) e

  -- where a round went, the loop went
  left_peak : (f : List ℕ) (acc : Rows) (i : ℕ) → peak_of (scan (full s) L.round l (here s i)) ≤ peak_of (left_of L s l f acc i)
  unfolding left_of peak_of
  left_peak [] acc i = last (scan (full s) L.round l (here s i))
    where
      last : (z : Summary Rows) → peak_of z ≤ peak_of (thenˢ (last_roundˢ (here s i) z) (L.end s l acc))
      last (fits v q b k) = omega arith
      last (fails b k) = peak_more b k (L.end s l acc [] (here s i))
  left_peak (x ∷ f) acc i = next (scan (full s) L.round l (here s i))
    where
      next : (z : Summary Rows) → peak_of z ≤ peak_of (thenˢ (next_roundˢ (here s i) z λ q. roundsˢ (scan (full s) L.round) f l q) (L.end s l acc))
      next (fits v q b k) =
          let tail = gateˢ (ltb i q.at) λ t. thenˢ (roundsˢ (scan (full s) L.round) f l q) λ vs r. fits (v ∷ vs) r false 0 in
          omega (arith, ap peak_of (then_more b k tail (L.end s l acc)), peak_more b k (thenˢ tail (L.end s l acc)))
      next (fails b k) = peak_more b k (L.end s l acc [] (here s i))

-- The invariant --------------------------------------------------------------

-- A loop that began at at₀, with acc₀ behind `base` older rows, stands at `at`.
pub record Going (L : Loop) (s : List ℕ) (l lim base at₀ : ℕ) (met₀ : Bool) (t₀ : List ℕ) (acc₀ : Rows) (at count : ℕ) (met : Bool) (t : List ℕ) : Type 0 where
  pub acc : Rows
  pub fuel : List ℕ
  pub rows : count ≡ base + length acc
  pub keeps : L.Keeps acc
  pub long : length s ≤ length fuel + at
  pub back : (t' : List ℕ) (r : Read) → Agrees (left_of L s l fuel acc at) lim met base acc t t' r
      → Agrees (left_of L s l (drop at₀ s) acc₀ at₀) lim met₀ base acc₀ t₀ t' r

pub going_start : (L : Loop) (s : List ℕ) (l lim base at count : ℕ) (met : Bool) (t : List ℕ) (acc : Rows)
    → count ≡ base + length acc → L.Keeps acc → Going L s l lim base at met t acc at count met t
going_start L s l lim base at count met t acc e h =
    record { acc = acc; fuel = drop at s; rows = e; keeps = h; long = omega (arith, length-drop at s); back = λ t' r a. a }

-- the rows v of a round join those so far; the table may be changed for it
pub record Joined (L : Loop) (base : ℕ) (acc v : Rows) (t₁ : List ℕ) (count : ℕ) (t₂ : List ℕ) : Type 0 where
  pub rows : count ≡ base + length (L.grow acc v)
  pub keeps : L.Keeps (L.grow acc v)
  pub back : {o : Summary Rows} {lim : ℕ} {met : Bool} {t' : List ℕ} {r : Read}
      → Agrees o lim met base (L.grow acc v) t₂ t' r → Agrees o lim met base (acc ++ v) t₁ t' r

module _ {L : Loop} {s : List ℕ} {l lim base at₀ : ℕ} {met₀ : Bool} {t₀ : List ℕ} {acc₀ : Rows} {at count : ℕ} {met : Bool} {t : List ℕ}
    (g : Going L s l lim base at₀ met₀ t₀ acc₀ at count met t) {t₁ : List ℕ} {r₁ : Read} (a : Reading L.round s l lim at met count t t₁ r₁) where
  -- a round was read
  pub going_more : T (quiet L.round) → (d : Cursor) → r₁ ≡ Ok d → at < d.at.0 → d.at.0 ≤ length s → (n : ℕ) (t₂ : List ℕ)
      → ((v : Rows) (b : Bool) (k : ℕ) → scan (full s) L.round l (here s at) ≡ fits v (here s d.at.0) b k
      → d.count.0 ≡ base + length (g.acc ++ v) → Joined L base g.acc v t₁ n t₂)
      → Going L s l lim base at₀ met₀ t₀ acc₀ d.at.0 n d.met t₂
  going_more u d e h i n t₂ join = go g.fuel g.long g.back
    where
      p : Lies s (scan (full s) L.round l (here s at))
      p = lies s L.round u l at

      x : Found (scan (full s) L.round l (here s at)) lim met count d
      x = found lim met count (scan (full s) L.round l (here s at)) d (sym e ∙ a.agrees.answer)

      j : Joined L base g.acc x.v t₁ n t₂
      j = join x.v x.b x.k (found_here s p x) (omega (arith, x.count, g.rows, length-append g.acc x.v))

      go : (f : List ℕ) → length s ≤ length f + at
          → ((t' : List ℕ) (r : Read) → Agrees (left_of L s l f g.acc at) lim met base g.acc t t' r
          → Agrees (left_of L s l (drop at₀ s) acc₀ at₀) lim met₀ base acc₀ t₀ t' r)
          → Going L s l lim base at₀ met₀ t₀ acc₀ d.at.0 n d.met t₂
      go [] w back = absurd (let z : ⊥ = omega arith in z)
      go (y ∷ f) w back =
          let rest = left_of L s l f (L.grow g.acc x.v) d.at.0 in
          let same = left_go L s l y f g.acc x.v at d.at.0 x.b x.k (found_here s p x) h in
          record {
            acc = L.grow g.acc x.v;
            fuel = f;
            rows = j.rows;
            keeps = j.keeps;
            long = omega arith;
            back = λ t' r c. back t' r
                (agrees_is (same ∙ sym (ap (λ z. thenˢ z λ _ _. rest) (found_here s p x)))
                (agrees_found s g.acc (λ _ _. rest) g.rows p a.agrees x (j.back c)));
          }

  -- a round missed: the end goes on with the table that it left
  pub going_stop : (x : Bool) → r₁ ≡ Err (Miss x) → {t' : List ℕ} {r : Read}
      → Agrees (L.end s l g.acc [] (here s at)) lim x base g.acc t₁ t' r
      → Agrees (left_of L s l (drop at₀ s) acc₀ at₀) lim met₀ base acc₀ t₀ t' r
  going_stop x e {t'} {r} c =
      let y = lost lim met count (scan (full s) L.round l (here s at)) x (sym e ∙ a.agrees.answer) in
      let o = L.end s l g.acc [] (here s at) in
      g.back t' r
      (agrees_is (left_stop L s l g.fuel g.acc at y.b y.k y.is)
      (agrees_kept g.acc (kept g.acc x g.rows a.agrees e)
      (agrees_more o y.b y.k y.low (subst (λ (m : Bool). Agrees o lim m base g.acc t₁ t' r) y.noted c))))

  -- a round went too deep
  pub going_deep : r₁ ≡ Err Deep → Agrees (left_of L s l (drop at₀ s) acc₀ at₀) lim met₀ base acc₀ t₀ t₁ (Err Deep)
  going_deep e =
      let y = deep lim met count (scan (full s) L.round l (here s at)) (sym e ∙ a.agrees.answer) in
      g.back t₁ (Err Deep) (agrees_deep lim met base (left_of L s l g.fuel g.acc at) (omega (arith, y, left_peak L s l g.fuel g.acc at)))

-- Places and rows ------------------------------------------------------------

-- a loop goes on, its bytes pay for its rows, and the table keeps its length
pub record Progress (s : List ℕ) (at₀ count₀ : ℕ) (t₀ : List ℕ) (at count : ℕ) (t : List ℕ) : Type 0 where
  pub within : at ≤ length s
  pub onward : at₀ ≤ at
  pub rows : count + 4 * at₀ ≤ 4 * at + count₀
  pub size : length t ≡ length t₀

pub progress_none : (s : List ℕ) (at count : ℕ) (t : List ℕ) → at ≤ length s → Progress s at count t at count t
progress_none s at count t h = record { within = h; onward = omega arith; rows = omega arith; size = refl }

module _ {s : List ℕ} {at₀ count₀ : ℕ} {t₀ : List ℕ} {at count : ℕ} {t : List ℕ} (p : Progress s at₀ count₀ t₀ at count t) where
  pub progress_on : {at' count' : ℕ} {t' : List ℕ} → at ≤ at' → at' ≤ length s → count' + 4 * at ≤ 4 * at' + count → length t' ≡ length t
      → Progress s at₀ count₀ t₀ at' count' t'
  progress_on h i k e =
      record { within = i; onward = omega (arith, p.onward); rows = omega (arith, p.rows); size = e ∙ p.size }

  -- so the next reader may be called where the loop stands
  pub progress_ready : {met₀ met : Bool} {k : ℕ} → Ready k s (cursor at₀ count₀ met₀) → Ready k s (cursor at count met)
  progress_ready h = record { small = h.small; within = p.within; few = omega (arith, h.few, p.rows) }
