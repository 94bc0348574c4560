-- A register suffix. An attempt `p q`, then an attempt `p r`, is `p` once and then `q` or `r`.
use mathlib.Core.Bool.{Bool, true, false, ◌||◌, or_self}
use mathlib.Core.List.{List, [], ◌++◌}
use mathlib.Core.Path.{◌≡◌, refl, ap, ap₂}
use Prim.Native.Nat.{ℕ, max}
use native.Mathlib.Omega.{arith}
use Rattle.reading.specs.Grammar.{Rows, Input, Rule, Parser, ◌▸◌, ◌or◌}
use Rattle.reading.specs.Kind.{registerᵏ}
use Rattle.reading.specs.Rules.{word, char, ws, opt, optional_suffix}
use Rattle.reading.specs.Summary.{Summary, fits, fails, more, thenˢ, elseˢ, withˢ, Scan, scan}
use Rattle.cursor.proofs.Laws.{ready_on, reading_is, reads_leaf, seq_out, seq_got, or_miss, or_first, opt_miss, opt_first}
use Rattle.cursor.specs.Agree.{full, Leafs, Ready}
use Rattle.cursor.specs.Text.{here, cursor}
use Rattle.cursor.specs.declared.Cursor.{Cursor}
use Rattle.cursor.specs.Read.{Read}
use Rattle.lexis.specs.Suffix.{register, suffix}
use Rattle.lexis.proofs.Solids.{char_solid}
use Rattle.cursor.specs.declared.Stop.TheVariants.{Miss}
use Rattle.std.specs.Prelude.{Ok, Err, IsErr}

or_twice : (a b c : Bool) → (a || b) || (a || c) ≡ a || (b || c)
or_twice true b c = refl
or_twice false b c = refl

max_twice : (i j k : ℕ) → max (max i j) (max i k) ≡ max i (max j k)
max_twice i j k = omega arith

-- the first was read, to q, and then the others
both : (a : Rows) (b : Bool) (k : ℕ) (x y : Summary Rows)
    → elseˢ (more b k (withˢ (a ++◌) x)) (λ _. more b k (withˢ (a ++◌) y)) ≡ more b k (withˢ (a ++◌) (elseˢ x λ _. y))
both a b k (fits v q c i) y = refl
both a b k (fails c i) (fits v q d j) = ap₂ (fits (a ++ v) q) (or_twice b c d) (max_twice k i j)
both a b k (fails c i) (fails d j) = ap₂ fails (or_twice b c d) (max_twice k i j)

shared : (o : Summary Rows) (f g : Input → Summary Rows)
    → elseˢ (thenˢ o λ a q. withˢ (a ++◌) (f q)) (λ _. thenˢ o λ a q. withˢ (a ++◌) (g q)) ≡ thenˢ o λ a q. withˢ (a ++◌) (elseˢ (f q) λ _. g q)
shared (fits a q b k) f g = both a b k (f q) (g q)
shared (fails b k) f g = ap₂ fails (or_self b) (let z : max k k ≡ k = omega arith in z)

factored : (p q r : Parser) (τ : Rule → Scan Rows) (l : ℕ) (i : Input) → scan τ ((p ▸ q) or (p ▸ r)) l i ≡ scan τ (p ▸ (q or r)) l i
factored p q r τ l i = shared (scan τ p l i) (λ j. scan τ q l j) (λ j. scan τ r l j)

-- the rule is a suffix, or nothing
optional_is : (τ : Rule → Scan Rows) (l : ℕ) (i : Input) → scan τ optional_suffix l i ≡ scan τ (opt suffix) l i
unfolding optional_suffix suffix register
optional_is τ l i = ap (λ o. elseˢ o λ _. fits [] i false 0) (factored (char ",") (ws registerᵏ 1 (word "x")) (ws registerᵏ 2 (word "y")) τ l i)

module _ {s : List ℕ} {c : Cursor} {t t' : List ℕ} {r : Read} (a : Leafs suffix s c t t' r) where
  pub optional_first : ((m : Bool) → r ≡ Err (Miss m) → ⊥) → Leafs optional_suffix s c t t' r
  optional_first h = record { reading = λ l lim. reading_is (optional_is (full s) l (here s c.at.0)) (opt_first (a.reading l lim) h) }

  pub optional_none : (m : Bool) → r ≡ Err (Miss m) → Leafs optional_suffix s c t t' (Ok (cursor c.at.0 c.count.0 m))
  optional_none m e = record { reading = λ l lim. reading_is (optional_is (full s) l (here s c.at.0)) (opt_miss (a.reading l lim) m e) }

-- the comma, and a register
module _ {s : List ℕ} {c : Cursor} {t t₁ : List ℕ} {r₁ : Read} (a : Leafs (char ",") s c t t₁ r₁) where
  pub suffix_out : IsErr r₁ → Leafs suffix s c t t₁ r₁
  unfolding suffix
  suffix_out h = record { reading = λ l lim. seq_out (a.reading l lim) register h }

  module _ (d : Cursor) (e : r₁ ≡ Ok d) where
    pub comma_ready : {n : ℕ} → Ready n s c → Ready n s d
    comma_ready h = ready_on (char_solid false 44) d h (reads_leaf 0 a) e

    pub suffix_in : {t' : List ℕ} {r : Read} → Leafs register s d t₁ t' r → Leafs suffix s c t t' r
    unfolding suffix
    suffix_in b = record { reading = λ l lim. seq_got (a.reading l lim) register (char_solid false 44).quieted d e (b.reading l lim) }

-- one register, or the other
module _ {s : List ℕ} {c : Cursor} {t t₁ : List ℕ} {r₁ : Read} (a : Leafs (ws registerᵏ 1 (word "x")) s c t t₁ r₁) where
  pub register_first : ((m : Bool) → r₁ ≡ Err (Miss m) → ⊥) → Leafs register s c t t₁ r₁
  unfolding register
  register_first h = record { reading = λ l lim. or_first (a.reading l lim) (ws registerᵏ 2 (word "y")) h }

  pub register_second : (m : Bool) → r₁ ≡ Err (Miss m) → {t' : List ℕ} {r : Read}
      → Leafs (ws registerᵏ 2 (word "y")) s (cursor c.at.0 c.count.0 m) t₁ t' r → Leafs register s c t t' r
  unfolding register
  register_second m e b = record { reading = λ l lim. or_miss (a.reading l lim) (ws registerᵏ 2 (word "y")) m e (b.reading l lim) }
