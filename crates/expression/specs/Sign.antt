-- The signs of a factor.
use Rattle.std.specs.Prelude.{List, ◌≡◌, ℕ, ◌+◌, ◌≤◌, Ok, Err}
use Rattle.reading.specs.Kind.{factorᵏ}
use Rattle.reading.specs.Grammar.{Parser, ◌▸◌, node}
use Rattle.reading.specs.Rules.{opt, flags, trivia, expression_factor_inner}
use Rattle.cursor.specs.Agree.{Reading, Leafs, Ready}
use Rattle.cursor.specs.declared.Cursor.{Cursor}
use Rattle.cursor.specs.declared.Skip.{Skip}
use Rattle.lexis.specs.Spaced.{spaced}
use Rattle.cursor.specs.declared.Stop.TheVariants.{Miss}

-- a factor by its second alternative
unfoldable pub signs : Parser
signs = opt (spaced 33) ▸ opt (spaced 45) ▸ expression_factor_inner

unfoldable pub signed_factor : Parser
signed_factor = node factorᵏ flags trivia signs

-- the first alternative does not fit at k, and what it met was met before
pub record Missed (s : List ℕ) (k : Skip) (left : ℕ) : Type 0 where
  pub again : (l n : ℕ) (t : List ℕ) → Reading expression_factor_inner s l (l + left) k.at.0 k.met n t t (Err (Miss k.met))

-- a sign and its row, or nothing
pub record Maybe (b : ℕ) (s : List ℕ) (c : Cursor) (t t' : List ℕ) (d : Cursor) : Type 0 where
  pub leafs : Leafs (opt (spaced b)) s c t t' (Ok d)
  pub grown : c.count.0 ≤ d.count.0
  pub one : d.count.0 ≤ c.count.0 + 1
  pub none : d.count.0 ≡ c.count.0 → d.at.0 ≡ c.at.0
  pub ready : {n : ℕ} → Ready n s c → Ready n s d
