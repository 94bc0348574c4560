-- Stretches of places that have their line.
use mathlib.Core.Path.{◌≡◌, ap, sym, subst, ◌∙◌}
use mathlib.Core.List.{List}
use Prim.Native.Nat.{ℕ, ◌+◌, ◌≤◌}
use native.Mathlib.Omega.{arith}
use Rattle.reading.specs.Table.{line}
use Rattle.line.specs.Lines.{Level}
use Rattle.line.specs.Marks.{On}
use Rattle.line.specs.declared.Stretch.{Stretch}
use Rattle.line.proofs.Lines.{line_start}

pub start_on : {s : List ℕ} {to : ℕ} → Level s 0 to → On s (record { from = 0; to = to; line = 1 })
start_on {s} l = record { ordered = omega arith; line = λ p i j. l.same p i j ∙ line_start s }

-- line feeds are counted from a place of the stretch before
pub ahead_on : {s : List ℕ} {x : Stretch} {at to : ℕ} (n k : ℕ) → On s x → (x.from ≤ k) × (k ≤ x.to) → line s k + n ≡ line s at → at ≤ to → Level s at to
    → On s (record { from = at; to = to; line = x.line + n })
ahead_on {s} {x} {at} {to} n k o b e h l =
    record { ordered = h; line = λ p i j. l.same p i j ∙ sym e ∙ ap (◌+ n) (o.line k b.0 b.1) }

-- a stretch that is another one reaches as far
pub reaches_as : {x y : Stretch} {at : ℕ} → y ≡ x → at ≤ x.to → at ≤ y.to
reaches_as {x} {y} {at} e h = subst (λ (z : Stretch). at ≤ z.to) (sym e) h
