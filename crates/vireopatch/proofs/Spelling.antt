-- Document 02, F-6 (crate number, specs/Spelling), of `vireopatch_value`, in the numbers that a caller in C holds: any call that meets the
-- contract. Of a type that is none no text is a number, as before.
use mathlib.Core.Path.{◌≡◌, ap, ◌∙◌}
use mathlib.Core.List.{List}
use mathlib.Core.Option.{Option, none, some}
use Prim.Native.Nat.{ℕ}
use Rattle.reading.specs.Number.{Base}
use Rattle.number.specs.Spelling.{Amended}
use Rattle.number.proofs.Spelling.{amended}
use Rattle.vireopatch.specs.Seen.{base_numbered, value_in, seen_value, exported_value}

module _ (ty : ℕ) (t : List ℕ) (c v : ℕ) (m : seen_value c v ≡ exported_value (value_in (base_numbered ty) t)) where
  pub vireopatch_value_amended : {x : Base} → base_numbered ty ≡ some x → Amended exported_value x t (seen_value c v)
  unfolding value_in
  vireopatch_value_amended {x} e = amended exported_value x t (seen_value c v) (m ∙ ap (λ (o : Option Base). exported_value (value_in o t)) e)

  pub vireopatch_value_unknown : base_numbered ty ≡ none → seen_value c v ≡ seen_value 10 0
  unfolding value_in exported_value
  vireopatch_value_unknown e = m ∙ ap (λ (o : Option Base). exported_value (value_in o t)) e
