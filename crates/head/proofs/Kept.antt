-- The lemmas that docs/PORT.md names and nothing cites now.
use mathlib.Core.Path.{◌≡◌, refl}
use mathlib.Core.Bool.{Bool}
use mathlib.Core.List.{List}
use Prim.Native.Nat.{ℕ}
use native.Mathlib.Omega.{arith}
use Rattle.reading.specs.Grammar.{Parser, over, ◌▸◌, ◌or◌}
use Rattle.cursor.specs.Agree.{Reads, Ready}
use Rattle.cursor.specs.Text.{cursor}
use Rattle.cursor.specs.declared.Cursor.{Cursor}
use Rattle.cursor.specs.Read.{Read}
use Rattle.cursor.proofs.Laws.{seq_out, or_first, over_out}
use Rattle.cursor.specs.declared.Stop.TheVariants.{Miss, Deep}
use Rattle.head.specs.Parts.{optional}
use Rattle.std.specs.Prelude.{Ok, Err, IsErr}

-- what reads behind fewer rows reads behind more
pub more_ready : {s : List ℕ} {c : Cursor} → Ready 0 s c → Ready 4 s c
more_ready h = record { small = h.small; within = h.within; few = omega (arith, h.few) }

-- a second attempt, after what was met in the first
pub again_ready : {s : List ℕ} {c : Cursor} {n : ℕ} → Ready n s c → (m : Bool) → Ready n s (cursor c.at.0 c.count.0 m)
again_ready h m = record { small = h.small; within = h.within; few = h.few }

-- a first part that was not read is the answer, and a first attempt that did not miss
module _ {m : Parser} {s : List ℕ} {c : Cursor} {left : ℕ} {t t₁ : List ℕ} {r₁ : Read} (a : Reads m s c left t t₁ r₁) where
  pub seq_stop : (n : Parser) → IsErr r₁ → Reads (m ▸ n) s c left t t₁ r₁
  seq_stop n h = record { reading = λ l. seq_out (a.reading l) n h }

  pub or_stop : (n : Parser) → ((m : Bool) → r₁ ≡ Err (Miss m) → ⊥) → Reads (m or n) s c left t t₁ r₁
  or_stop n h = record { reading = λ l. or_first (a.reading l) n h }

module _ (kind : ℕ) {m : Parser} (n : Parser) {s : List ℕ} {c : Cursor} {left : ℕ} {t t₁ : List ℕ} {r₁ : Read} (a : Reads m s c left t t₁ r₁) where
  pub over_stop : IsErr r₁ → Reads (over kind 0 m n) s c left t t₁ r₁
  over_stop h = record { reading = λ l. over_out kind 0 n (a.reading l) h }

-- what `optional` answers
pub optional_kept : (c : Cursor) (f : Read) → ((m : Bool) → f ≡ Err (Miss m) → ⊥) → f ≡ optional c f
unfolding optional
optional_kept c (Ok d) h = refl
optional_kept c (Err (Miss m)) h = absurd (h m refl)
optional_kept c (Err Deep) h = refl
