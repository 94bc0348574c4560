-- Demand 3 (crate parser, specs/Demand) of `vireopatch_read`, in the numbers that a caller in C holds: any two calls that meet the contract,
-- which is the equation with `exported`.
use mathlib.Core.Bool.{Bool}
use mathlib.Core.List.{List}
use mathlib.Core.Path.{◌≡◌}
use Prim.Native.Nat.{ℕ}
use Rattle.reading.specs.Outcome.{Call, outcome}
use Rattle.parser.specs.Demand.{Demand3}
use Rattle.parser.proofs.Demand.{shown_room}
use Rattle.vireopatch.specs.Seen.{seen, exported}

pub vireopatch_read_room : {a b : Call} {r₁ r₂ : ℕ} {t₁ e₁ q₁ t₂ e₂ q₂ : List ℕ} {nt₁ ne₁ nq₁ nt₂ ne₂ nq₂ n₁ n₂ : ℕ} {f₁ f₂ : Bool} {g₁ g₂ : ℕ}
    → seen r₁ t₁ e₁ q₁ nt₁ ne₁ nq₁ n₁ f₁ g₁ ≡ exported (outcome a)
    → seen r₂ t₂ e₂ q₂ nt₂ ne₂ nq₂ n₂ f₂ g₂ ≡ exported (outcome b)
    → Demand3 a (seen r₁ t₁ e₁ q₁ nt₁ ne₁ nq₁ n₁ f₁ g₁) b (seen r₂ t₂ e₂ q₂ nt₂ ne₂ nq₂ n₂ f₂ g₂)
vireopatch_read_room x y = shown_room x y
