-- The table of classes: what its bits say. The array of class.rt is this table: both are computed once.
use mathlib.Core.Path.{◌≡◌, refl, ap, ap₂, ◌∙◌, sym}
use mathlib.Core.Bool.{Bool, beq, true, false, not, ◌||◌}
use mathlib.Core.List.{List, [], ◌∷◌}
use Prim.Native.Nat.{ℕ, zero, suc, ◌+◌, ◌*◌, ◌/◌, ◌%◌, ◌^◌, ◌<◌}
use native.Mathlib.Nat.{add-zero, add-suc, suc-add, zero-add, zero-div, div-div-eq-div-mul, pow-succ', le_of_suc-le-suc, not-suc-le-zero}
use native.Mathlib.Omega.{arith}
use lib.Dec.{eqb}
use lib.ListN.{get_or}
use lib.Bits.{bit_or}
use Rattle.std.proofs.lemmas.Nat.{or_mod}
use Rattle.trivia.specs.declared.class.TheConstants.{CLASSES}
use Rattle.trivia.specs.Class.{classes, member, among, one_if, mask, bit, masks_from, table}

low : (x : Bool) (n : ℕ) → bit (one_if x + 2 * n) 0 ≡ x
low true n = ap (λ m. eqb m 1) (let z : (1 + 2 * n) / 1 % 2 ≡ 1 = omega arith in z)
low false n = ap (λ m. eqb m 1) (let z : (0 + 2 * n) / 1 % 2 ≡ 0 = omega arith in z)

half : (x : Bool) (n : ℕ) → (one_if x + 2 * n) / 2 ≡ n
half true n = omega arith
half false n = omega arith

bit_mask : (fs : List (ℕ → Bool)) (c b : ℕ) → bit (mask fs b) c ≡ get_or fs c (λ b. false) b
bit_mask [] c b = ap (λ n. eqb (n % 2) 1) (zero-div (2 ^ c))
bit_mask (f ∷ fs) zero b = low (f b) (mask fs b)
bit_mask (f ∷ fs) (suc c) b =
    ap (λ n. eqb (n % 2) 1) (ap (mask (f ∷ fs) b /◌) (pow-succ' 2 c) ∙ sym (div-div-eq-div-mul (mask (f ∷ fs) b) 2 (2 ^ c)) ∙ ap (◌/ 2 ^ c) (half (f b) (mask fs b)))
    ∙ bit_mask fs c b

mask_at : (n a b : ℕ) → b < n → get_or (masks_from n a) b 0 ≡ mask classes (a + b)
mask_at zero a b h = absurd (not-suc-le-zero h)
mask_at (suc n) a zero h = ap (mask classes) (sym (add-zero a))
mask_at (suc n) a (suc b) h = mask_at n (suc a) b (le_of_suc-le-suc h) ∙ ap (mask classes) (suc-add a b ∙ sym (add-suc a b))

-- the rule of the table, for every byte and class
pub rule : (b c : ℕ) → b < 256 → bit (get_or table b 0) c ≡ member c b
unfolding table
rule b c h = ap (λ x. bit x c) (mask_at 256 0 b h ∙ ap (mask classes) (zero-add b)) ∙ bit_mask classes c b

-- the array, entry by entry
array : CLASSES ≡ table
unfolding table
array = refl

pub bit_is : (b n c : ℕ) → b < 256 → n ≡ c → bit (get_or CLASSES b 0) n ≡ member c b
bit_is b n c h e = ap (λ t. bit (get_or t b 0) n) array ∙ ap (bit (get_or table b 0)) e ∙ rule b c h

-- one of two bits
one_of : (p q : ℕ) → p < 2 → q < 2 → eqb (bit_or p q) 1 ≡ eqb p 1 || eqb q 1
one_of zero zero f g = refl
one_of zero (suc zero) f g = refl
one_of (suc zero) zero f g = refl
one_of (suc zero) (suc zero) f g = refl
one_of (suc (suc p)) q f g = absurd (not-suc-le-zero (le_of_suc-le-suc (le_of_suc-le-suc f)))
one_of p (suc (suc q)) f g = absurd (not-suc-le-zero (le_of_suc-le-suc (le_of_suc-le-suc g)))

pub either_is : (b n m c d : ℕ) → b < 256 → n ≡ c → m ≡ d → eqb (bit_or (get_or CLASSES b 0 / 2 ^ n) (get_or CLASSES b 0 / 2 ^ m) % 2) 1 ≡ member c b || member d b
either_is b n m c d h e f =
    let x : ℕ = get_or CLASSES b 0 / 2 ^ n in
    let y : ℕ = get_or CLASSES b 0 / 2 ^ m in
    ap (λ z. eqb z 1) (or_mod x y 1) ∙ one_of (x % 2) (y % 2) (omega arith) (omega arith) ∙ ap₂ ◌||◌ (bit_is b n c h e) (bit_is b m d h f)

-- the bit is what is asked for
beq_true : (x : Bool) → beq x true ≡ x
beq_true true = refl
beq_true false = refl

beq_false : (x : Bool) → beq x false ≡ not x
beq_false true = refl
beq_false false = refl

pub among_is : (c b : ℕ) (x inside : Bool) → x ≡ member c b → beq x inside ≡ among c inside b
among_is c b x true e = beq_true x ∙ e
among_is c b x false e = beq_false x ∙ ap not e
