-- Common divisors: what the definition's greatest one is, and why a fraction in lowest terms is the only one of its value.
use mathlib.Core.Path.{◌≡◌, refl, ap, sym, subst, ◌∙◌}
use mathlib.Core.Bool.{Bool, true, false, ◌&&◌, ◌||◌, cond, true≢false}
use Prim.Native.Nat.{ℕ, zero, suc, ◌+◌, ◌*◌, ◌-◌, ◌/◌, ◌%◌, ◌≤◌, ◌<◌, ◌∣◌}
use native.Mathlib.Omega.{arith}
use native.Mathlib.Nat.{mod-lt, dvd_refl, dvd-zero, one-dvd, dvd-mod_iff, le_of_dvd, dvd_antisymm, pos_of_dvd_of_pos, eq-one_of_dvd-one, mod-eq-zero_of_dvd, dvd_of_mod-eq-zero, mul-div_cancel', mul-dvd-mul_left, dvd_of_mul-dvd-mul_left, eq_of_mul-eq-mul_right, mul_assoc, mul_comm, mul-one, add-mul, mul-sub, div-add-mod}
use borrow.Author.Tests.{eq-eqb, eqb-true}
use lib.Dec.{eqb}
use Rattle.share.specs.Claims.{Lowest}
use Rattle.share.specs.Shares.{divides, greatest, gcd, share}

-- The greatest ----------------------------------------------------------------

-- a common divisor that all others divide
pub record Gcd (a b g : ℕ) : Type 0 where
  pub left : g ∣ a
  pub right : g ∣ b
  pub all : (d : ℕ) → d ∣ a → d ∣ b → d ∣ g

-- x and y have the common divisors that a and b have
pub record Common (a b x y : ℕ) : Type 0 where
  pub left : (d : ℕ) → d ∣ x → d ∣ y → d ∣ a
  pub right : (d : ℕ) → d ∣ x → d ∣ y → d ∣ b
  pub fst : (d : ℕ) → d ∣ a → d ∣ b → d ∣ x
  pub snd : (d : ℕ) → d ∣ a → d ∣ b → d ∣ y

common_same : (a b : ℕ) → Common a b a b
common_same a b = record { left = λ d h k. h; right = λ d h k. k; fst = λ d h k. h; snd = λ d h k. k }

pub common_step : {a b x y : ℕ} → Common a b x y → Common a b y (x % y)
common_step u =
    record {
      left = λ d h k. u.left d ((dvd-mod_iff d h).0 k) h;
      right = λ d h k. u.right d ((dvd-mod_iff d h).0 k) h;
      fst = u.snd;
      snd = λ d h k. (dvd-mod_iff d (u.snd d h k)).1 (u.fst d h k);
    }

pub common_end : {a b x y : ℕ} → y ≡ 0 → Common a b x y → Gcd a b x
common_end {a} {b} {x} {y} e u =
    let z : x ∣ y = subst (λ (k : ℕ). x ∣ k) (sym e) (dvd-zero x) in
    record { left = u.left x (dvd_refl x) z; right = u.right x (dvd_refl x) z; all = u.fst }

euclid : (n x y : ℕ) → y ≤ n → (g : ℕ) × Gcd x y g
euclid zero x y h = (x, common_end (omega arith) (common_same x y))
euclid (suc n) x y h = go y h (λ r l. euclid n y r l)
  where
    go : (y : ℕ) → y ≤ suc n → ((r : ℕ) → r ≤ n → (g : ℕ) × Gcd y r g) → (g : ℕ) × Gcd x y g
    go zero h f = (x, common_end refl (common_same x zero))
    go (suc y) h f =
        let u = f (x % suc y) (omega (arith, mod-lt x {m = suc y} (omega arith))) in (
          u.0,
          record {
            left = (dvd-mod_iff u.0 u.1.left).0 u.1.right;
            right = u.1.left;
            all = λ d k l. u.1.all d l ((dvd-mod_iff d l).1 k);
          },
        )

-- the definition's test is divisibility
divides_true : (d n : ℕ) → d ∣ n → divides d n ≡ true
divides_true d n h = eq-eqb (n % d) 0 (mod-eq-zero_of_dvd d h)

divides_dvd : (d n : ℕ) → divides d n ≡ true → d ∣ n
divides_dvd d n h = dvd_of_mod-eq-zero d (eqb-true (n % d) 0 h)

not_divided : {g k a : ℕ} → g ∣ a → g ≤ suc k → divides (suc k) a ≡ false → g ≤ k
not_divided {g} {k} {a} h l q =
    let p : (g ≡ suc k → ⊥) = λ e. true≢false (sym (divides_true (suc k) a (subst (λ (d : ℕ). d ∣ a) e h)) ∙ q) in
    omega (arith, p)

-- the definition finds it from any number on that is not below it
greatest_from : (k a b g : ℕ) → 0 < g → g ≤ k → Gcd a b g → greatest k a b ≡ g
unfolding greatest
greatest_from zero a b g p h u = absurd (let z : ⊥ = omega arith in z)
greatest_from (suc k) a b g p h u = go (divides (suc k) a) refl (divides (suc k) b) refl (λ l. greatest_from k a b g p l u)
  where
    go : (x : Bool) → divides (suc k) a ≡ x → (y : Bool) → divides (suc k) b ≡ y → (g ≤ k → greatest k a b ≡ g) → cond (x && y) (suc k) (greatest k a b) ≡ g
    go true q true r f = omega (arith, le_of_dvd p (u.all (suc k) (divides_dvd (suc k) a q) (divides_dvd (suc k) b r)))
    go true q false r f = f (not_divided u.right h r)
    go false q y r f = f (not_divided u.left h q)

pub gcd_is : (a b g : ℕ) → 0 < a → Gcd a b g → gcd a b ≡ g
gcd_is a b g p u = greatest_from a a b g (pos_of_dvd_of_pos u.left p) (le_of_dvd p u.left) u

pub gcd_positive : {a b g : ℕ} → 0 < a → Gcd a b g → 0 < g
gcd_positive p u = pos_of_dvd_of_pos u.left p

-- the definition's is such a one
pub gcd_known : (a b : ℕ) → 0 < a → Gcd a b (gcd a b)
gcd_known a b p =
    let u = euclid b a b (omega arith) in
    subst (λ (g : ℕ). Gcd a b g) (sym (gcd_is a b u.0 p u.1)) u.1

-- Lowest terms ----------------------------------------------------------------

-- divided by it, two numbers have no common divisor but 1
pub reduced_lowest : (a b g : ℕ) → 0 < g → Gcd a b g → Lowest (a / g) (b / g)
reduced_lowest a b g p u d h k =
    let l : g * d ∣ a = subst (λ (n : ℕ). g * d ∣ n) (mul-div_cancel' g u.left) (mul-dvd-mul_left d g h) in
    let r : g * d ∣ b = subst (λ (n : ℕ). g * d ∣ n) (mul-div_cancel' g u.right) (mul-dvd-mul_left d g k) in
    let e : g * d ∣ g * 1 = subst (λ (n : ℕ). g * d ∣ n) (sym (mul-one g)) (u.all (g * d) l r) in
    eq-one_of_dvd-one (dvd_of_mul-dvd-mul_left d p e)

none_but_one : (q x : ℕ) → Lowest 0 q → q ∣ x
none_but_one q x c = subst (λ (d : ℕ). d ∣ x) (sym (c q (dvd-zero q) (dvd_refl q))) (one-dvd x)

rest_of : (p q x m : ℕ) → p * x ≡ q * m → q % p * m ≡ p * (x - q / p * m)
rest_of p q x m e =
    let u : p * (q / p) * m + q % p * m ≡ q * m = sym (add-mul (p * (q / p)) (q % p) m) ∙ ap (λ (k : ℕ). k * m) (div-add-mod q p) in
    omega (arith, u, e, mul-sub p x (q / p * m), mul_assoc p (q / p) m)

-- Gauss's lemma: q divides p x, and has no common divisor with p, so it divides x
gauss : (n p q x m : ℕ) → p ≤ n → Lowest p q → p * x ≡ q * m → q ∣ x
gauss zero p q x m h c e = none_but_one q x (subst (λ (k : ℕ). Lowest k q) (omega arith) c)
gauss (suc n) p q x m h c e = go p h c e (λ p r y l d f. gauss n r p m y l d f)
  where
    go : (p : ℕ) → p ≤ suc n → Lowest p q → p * x ≡ q * m → ((p r y : ℕ) → r ≤ n → Lowest r p → r * m ≡ p * y → p ∣ m) → q ∣ x
    go zero h c e f = none_but_one q x c
    go (suc p) h c e f =
        let l : suc p ∣ m =
        f (suc p) (q % suc p) (x - q / suc p * m) (omega (arith, mod-lt q {m = suc p} (omega arith))) (λ d i j. c d j ((dvd-mod_iff d j).0 i))
        (rest_of (suc p) q x m e)
        in
        let i : suc p * q ∣ suc p * x = subst (λ (k : ℕ). suc p * q ∣ k) (sym e) (subst (λ (k : ℕ). k ∣ q * m) (mul_comm q (suc p)) (mul-dvd-mul_left (suc p) q l)) in
        dvd_of_mul-dvd-mul_left q (omega arith) i

-- two fractions in lowest terms of one value are one
pub lowest_one : (p q x y : ℕ) → 0 < q → Lowest p q → Lowest x y → p * y ≡ x * q → (x ≡ p) × (y ≡ q)
lowest_one p q x y h c d e =
    let i : q ∣ y = gauss p p q y x (omega arith) c (e ∙ mul_comm x q) in
    let j : y ∣ q = gauss x x y q p (omega arith) d (sym e ∙ mul_comm p y) in
    let u : y ≡ q = dvd_antisymm j i in
    (sym (eq_of_mul-eq-mul_right q h p x (ap (λ (k : ℕ). p * k) (sym u) ∙ e)), u)

-- The call's fraction ---------------------------------------------------------

abbrev pub none_of : ℕ → ℕ → Bool
none_of a b = eqb a 0 || eqb b 0

pub share_none : (a b : ℕ) → none_of a b ≡ true → record { numerator = 0; denominator = 1 } ≡ share a b
unfolding share
share_none a b e = rw e

pub share_some : (a b g : ℕ) → none_of a b ≡ false → g ≡ gcd a b → record { numerator = a / g; denominator = b / g } ≡ share a b
unfolding share
share_some a b g e h = rw (e, h)

pub some_left : (a b : ℕ) → none_of a b ≡ false → 0 < a
some_left zero b e = absurd (true≢false e)
some_left (suc a) b e = omega arith
