-- What stands in a factor and has no level: a name, `*`, a string.
use mathlib.Core.Path.{◌≡◌, refl, ap, sym, ◌∙◌}
use mathlib.Core.Bool.{Bool}
use mathlib.Core.List.{List}
use Prim.Native.Nat.{ℕ}
use lib.Dec.{T}
use Rattle.reading.specs.Kind.{nameᵏ, pathᵏ}
use Rattle.reading.specs.Rules.{all_rules, ws, mws, opt, identifier_name, identifier_path, mname, path, modifier, interpolated_string}
use Rattle.reading.proofs.Tests.{quiet}
use Rattle.cursor.specs.Text.{cursor}
use Rattle.cursor.specs.Agree.{Leafs}
use Rattle.cursor.specs.declared.Cursor.{Cursor}
use Rattle.cursor.specs.Read.{Read}
use Rattle.cursor.proofs.Agree.{got_miss}
use Rattle.cursor.proofs.Laws.{Solid, seq_got, opt_miss, opt_first}
use Rattle.expression.specs.Path.{modified_path}
use Rattle.cursor.specs.declared.Stop.{Stop}
use Rattle.cursor.specs.declared.Stop.TheVariants.{Miss}
use Rattle.std.specs.Prelude.{Ok, Err}

pub modifier_solid : Solid modifier
unfolding all_rules
modifier_solid = record { quieted = tt; slimmed = tt; rooting = tt; paying = tt }

pub path_solid : Solid modified_path
unfolding all_rules modified_path
path_solid = record { quieted = tt; slimmed = tt; rooting = tt; paying = tt }

pub string_solid : Solid interpolated_string
unfolding all_rules
string_solid = record { quieted = tt; slimmed = tt; rooting = tt; paying = tt }

opt_modifier_quiet : T (quiet (opt modifier))
unfolding all_rules
opt_modifier_quiet = tt

-- the name of a call
pub mname_is : {s : List ℕ} {c : Cursor} {t t' : List ℕ} {r : Read} → Leafs (mws nameᵏ 0 identifier_name) s c t t' r → Leafs mname s c t t' r
unfolding mname
mname_is a = a

-- a path, perhaps with `<` or `>` in front
module _ {s : List ℕ} {c : Cursor} {t t₁ : List ℕ} {r₁ : Read} (a : Leafs modifier s c t t₁ r₁) where
  pub modified_got : {d : Cursor} → r₁ ≡ Ok d → {t₂ : List ℕ} {r₂ : Read} → Leafs (ws pathᵏ 0 identifier_path) s d t₁ t₂ r₂ → Leafs modified_path s c t t₂ r₂
  unfolding modified_path path
  modified_got {d} e b =
      record { reading = λ l lim. seq_got (opt_first (a.reading l lim) λ x q. got_miss d x (sym e ∙ q)) path opt_modifier_quiet d e (b.reading l lim) }

  pub modified_miss : {z : Stop Bool} {x : Bool} → r₁ ≡ Err z → z ≡ Miss x → {t₂ : List ℕ} {r₂ : Read} → Leafs (ws pathᵏ 0 identifier_path) s (cursor c.at.0 c.count.0 x) t₁ t₂ r₂
      → Leafs modified_path s c t t₂ r₂
  unfolding modified_path path
  modified_miss {x = x} e q b = record { reading = λ l lim. seq_got (opt_miss (a.reading l lim) x (e ∙ ap Err q)) path opt_modifier_quiet _ refl (b.reading l lim) }
