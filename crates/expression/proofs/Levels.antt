-- What holds at both levels of operators.
use mathlib.Core.Path.{◌≡◌}
use mathlib.Core.Bool.{Bool}
use mathlib.Core.List.{List}
use Prim.Native.Nat.{ℕ, ◌+◌, ◌≤◌}
use Rattle.reading.specs.Grammar.{◌▸◌}
use Rattle.reading.specs.Rules.{trivia}
use Rattle.reading.proofs.Cost.{cost}
use Rattle.cursor.specs.Text.{Skips}
use Rattle.cursor.specs.Agree.{Reads}
use Rattle.cursor.specs.declared.Cursor.{Cursor}
use Rattle.cursor.specs.declared.Skip.{Skip}
use Rattle.cursor.specs.Read.{Read}
use Rattle.cursor.proofs.Laws.{Solid}
use Rattle.cursor.proofs.Loops.{ChainLeft}
use Rattle.expression.specs.Level.{operator_of, part_of, chain_of}
use Rattle.expression.specs.declared.Level.{Level}
use Rattle.expression.specs.declared.Level.TheVariants.{Terms, Factors}
use Rattle.expression.proofs.Facts.{factor_solid, term_solid, term_operator_solid, expression_operator_solid, term_chain, expression_chain, term_pair, expression_pair}
use Rattle.expression.proofs.Terms.{term_out, term_got, expression_out, expression_got}
use Rattle.std.specs.Prelude.{Ok, IsErr}

pub part_solid : (v : Level) → Solid (part_of v)
unfolding part_of
part_solid Terms = term_solid
part_solid Factors = factor_solid

pub operator_solid : (v : Level) → Solid (operator_of v)
unfolding operator_of
operator_solid Terms = expression_operator_solid
operator_solid Factors = term_operator_solid

pub next_solid : (v : Level) → Solid (operator_of v ▸ part_of v)
unfolding operator_of part_of
next_solid Terms = expression_chain
next_solid Factors = term_chain

-- the bytes of an operator and a part pay for one row more
pub next_pays : (v : Level) → (cost (operator_of v ▸ part_of v)).debt + 1 ≤ (cost (operator_of v ▸ part_of v)).gain
unfolding operator_of part_of
next_pays Terms = expression_pair
next_pays Factors = term_pair

module _ {s : List ℕ} {c : Cursor} {left : ℕ} {t t₁ : List ℕ} {r₁ : Read} where
  pub level_out : (v : Level) → Reads (part_of v) s c left t t₁ r₁ → IsErr r₁ → Reads (chain_of v) s c left t t₁ r₁
  unfolding part_of chain_of
  level_out Terms a h = expression_out a h
  level_out Factors a h = term_out a h

  pub level_got : (v : Level) {met : Bool} {k : Skip} → Skips trivia s c.at.0 met k → (d : Cursor) → r₁ ≡ Ok d → {t' : List ℕ} {r : Read}
      → Reads (part_of v) s c left t t₁ r₁
      → ChainLeft (operator_of v) (part_of v) s c.count.0 k.at.0 left d.at.0 d.count.0 d.met t₁ t' r → Reads (chain_of v) s c left t t' r
  unfolding operator_of part_of chain_of
  level_got Terms x d e a f = expression_got x d e a f
  level_got Factors x d e a f = term_got x d e a f

-- how deep in the calls a part stands, for the measure of the cycle
abbrev pub part_rank : Level → ℕ
part_rank Terms = 9
part_rank Factors = 5
