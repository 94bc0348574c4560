-- The lemmas that docs/PORT.md names and nothing cites now.
use mathlib.Core.Bool.{Bool, true}
use mathlib.Core.List.{List, [], ◌∷◌}
use mathlib.Core.Path.{◌≡◌}
use Prim.Native.Nat.{ℕ, ◌+◌, ◌≤◌}
use native.Mathlib.Omega.{arith}
use lib.Dec.{T}
use lib.ListN.{length, drop}
use Rattle.reading.proofs.Cost.{slim}
use Rattle.reading.proofs.Tests.{quiet}
use Rattle.reading.specs.Byte.{begins}
use Rattle.reading.specs.Grammar.{Parser}
use Rattle.reading.specs.Kind.{pathᵏ}
use Rattle.reading.specs.Rules.{located', identifier_path, all_rules}
use Rattle.cursor.proofs.Laws.{moved}
use Rattle.cursor.specs.Agree.{Leafs, Ready}
use Rattle.cursor.specs.Text.{cursor, skip}
use Rattle.cursor.specs.declared.Cursor.{Cursor}
use Rattle.cursor.specs.declared.Skip.{Skip}
use Rattle.cursor.specs.Read.{Read}
use Rattle.literal.proofs.Numbers.{byte_in}
use Rattle.std.specs.Prelude.{Ok}

-- a second attempt may begin where the first one did
pub ready_again : {n : ℕ} {s : List ℕ} {c : Cursor} (met : Bool) → Ready n s c → Ready n s (cursor c.at.0 c.count.0 met)
ready_again met h = record { small = h.small; within = h.within; few = h.few }

-- `Placed` as it was when the lemma was named; that of crate lexis allows for more rows
pub record Placed (s : List ℕ) (c : Cursor) (k : Skip) : Type 0 where
  pub ready : Ready 8 s c
  pub on : c.at.0 ≤ k.at.0
  pub within : k.at.0 ≤ length s

abbrev inner : Parser
inner = located' pathᵏ 0 identifier_path

inner_quiet : T (quiet inner)
unfolding all_rules
inner_quiet = tt

inner_slim : T (slim inner)
unfolding all_rules
inner_slim = tt

-- behind an opening brace
module _ {s : List ℕ} {c : Cursor} (h : Ready 12 s c) (e : begins (123 ∷ []) (drop c.at.0 s) ≡ true) where
  -- the path may be read
  pub inner_placed : Placed s (cursor (c.at.0 + 1) c.count.0 c.met) (skip (c.at.0 + 1) c.met)
  inner_placed =
      let n = byte_in 123 s c.at.0 h.within e in
      record { ready = record { small = h.small; within = n; few = omega (arith, h.few) }; on = omega arith; within = n }

  -- and ends in the text
  pub inner_in : {t t₁ : List ℕ} {r₁ : Read} → Leafs inner s (cursor (c.at.0 + 1) c.count.0 c.met) t t₁ r₁ → (d : Cursor) → r₁ ≡ Ok d → d.at.0 ≤ length s
  inner_in a d p = (moved inner inner_quiet inner_slim d (byte_in 123 s c.at.0 h.within e) (a.reading 0 0) p).within
