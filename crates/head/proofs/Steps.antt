-- Laws for readers that go on with a callee's answer: one part behind another, or one attempt after another.
use mathlib.Core.Path.{◌≡◌, refl, ap, sym, subst, ◌∙◌}
use mathlib.Core.Bool.{Bool}
use mathlib.Core.List.{List}
use Prim.Native.Nat.{ℕ}
use lib.Dec.{T}
use Rattle.reading.specs.Grammar.{Parser, ◌▸◌, ◌or◌, never}
use Rattle.reading.specs.Rules.{opt}
use Rattle.reading.proofs.Tests.{quiet}
use Rattle.cursor.specs.Agree.{Reads, Leafs}
use Rattle.cursor.specs.Text.{cursor}
use Rattle.cursor.specs.declared.Cursor.{Cursor}
use Rattle.cursor.specs.Read.{Read}
use Rattle.cursor.proofs.Agree.{got_miss, miss_deep}
use Rattle.cursor.proofs.Laws.{reads_leaf, opt_miss, opt_first, never_got, never_miss, never_deep}
use Rattle.head.specs.Parts.{Flat, optional, tried}
use Rattle.cursor.specs.declared.Stop.{Stop}
use Rattle.cursor.specs.declared.Stop.TheVariants.{Miss, Deep}
use Rattle.std.specs.Prelude.{Ok, Err}
use Rattle.std.specs.Result.{IsErrAnd}
use Rattle.cursor.proofs.Exits.{passed}
use Rattle.expression.proofs.Steps.{then_out, then_got, else_first, else_miss}

-- Answers ------------------------------------------------------------------

-- an answer that is known, and a leaf's
pub reads_as : {g : Parser} {s : List ℕ} {c : Cursor} {left : ℕ} {t t' : List ℕ} {r r' : Read} → r' ≡ r → Reads g s c left t t' r → Reads g s c left t t' r'
reads_as {g} {s} {c} {left} {t} {t'} e a = subst (λ (x : Read). Reads g s c left t t' x) (sym e) a

pub flat_leaf : {g : Parser} {s : List ℕ} {c : Cursor} {t t' : List ℕ} {r : Read} → Leafs g s c t t' r → Flat g s c t t' r
flat_leaf a = record { reads = λ left. reads_leaf left a }

-- Parts and attempts ---------------------------------------------------------

module _ {m : Parser} {s : List ℕ} {c : Cursor} {left : ℕ} {t t₁ : List ℕ} {r₁ : Read} (a : Reads m s c left t t₁ r₁) where
  -- opt(m) and opt(not(m))
  pub reads_optional : {r : Read} → r ≡ optional c r₁ → Reads (opt m) s c left t t₁ r
  unfolding optional
  reads_optional {r} e = go r₁ refl
    where
      go : (x : Read) → r₁ ≡ x → Reads (opt m) s c left t t₁ r
      go (Ok d) q = reads_as (e ∙ ap (optional c) q ∙ sym q) (record { reading = λ l. opt_first (a.reading l) λ x z. got_miss d x (sym q ∙ z) })
      go (Err (Miss x)) q = reads_as (e ∙ ap (optional c) q) (record { reading = λ l. opt_miss (a.reading l) x q })
      go (Err Deep) q = reads_as (e ∙ ap (optional c) q ∙ sym q) (record { reading = λ l. opt_first (a.reading l) λ x z. miss_deep x (sym z ∙ q) })

  pub reads_tried : T (quiet m) → {r : Read} → r ≡ tried c r₁ → Reads (opt (never m)) s c left t t₁ r
  unfolding tried
  reads_tried u {r} e = go r₁ refl
    where
      go : (x : Read) → r₁ ≡ x → Reads (opt (never m)) s c left t t₁ r
      go (Ok d) q = reads_as (e ∙ ap (tried c) q) (record { reading = λ l. opt_miss (never_got (a.reading l) u d q) d.met refl })
      go (Err (Miss x)) q =
          reads_as (e ∙ ap (tried c) q)
          (record { reading = λ l. opt_first (never_miss (a.reading l) x q) λ y z. got_miss (cursor c.at.0 c.count.0 x) y z })
      go (Err Deep) q = reads_as (e ∙ ap (tried c) q) (record { reading = λ l. opt_first (never_deep (a.reading l) q) λ x z. miss_deep x (sym z) })

-- what `?` hands on from the first part
pub seq_passed : {m n : Parser} {s : List ℕ} {c : Cursor} {left : ℕ} {t t₁ : List ℕ} {e : Stop Bool} {r : Read}
    → Reads m s c left t t₁ (Err e) → IsErrAnd r (λ y. y ≡ e) → Reads (m ▸ n) s c left t t₁ r
seq_passed a p = reads_as (passed p) (then_out a refl)

-- The same for readers that are told no limit
module _ {m n : Parser} {s : List ℕ} {c : Cursor} {t t₁ : List ℕ} where
  pub flat_passed : {e : Stop Bool} {r : Read} → Flat m s c t t₁ (Err e) → IsErrAnd r (λ y. y ≡ e) → Flat (m ▸ n) s c t t₁ r
  flat_passed a p = record { reads = λ left. seq_passed (a.reads left) p }

  pub flat_on : {d : Cursor} → Flat m s c t t₁ (Ok d) → T (quiet m) → {t' : List ℕ} {r : Read} → Flat n s d t₁ t' r → Flat (m ▸ n) s c t t' r
  flat_on a u b = record { reads = λ left. then_got (a.reads left) u refl (b.reads left) }

  pub flat_first : {r : Read} → Flat m s c t t₁ r → ((x : Bool) → r ≡ Err (Miss x) → ⊥) → Flat (m or n) s c t t₁ r
  flat_first a h = record { reads = λ left. else_first (a.reads left) h }

  pub flat_or : {r : Read} → Flat m s c t t₁ r → {z : Stop Bool} {x : Bool} → r ≡ Err z → z ≡ Miss x
      → {t' : List ℕ} {r' : Read} → Flat n s (cursor c.at.0 c.count.0 x) t₁ t' r' → Flat (m or n) s c t t' r'
  flat_or a e q b = record { reads = λ left. else_miss (a.reads left) e q (b.reads left) }

pub flat_optional : {m : Parser} {s : List ℕ} {c : Cursor} {t t₁ : List ℕ} {r₁ r : Read} → Flat m s c t t₁ r₁ → r ≡ optional c r₁ → Flat (opt m) s c t t₁ r
flat_optional a e = record { reads = λ left. reads_optional (a.reads left) e }
