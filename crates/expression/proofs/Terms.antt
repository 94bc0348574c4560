-- Terms and expressions: the first part, and the loop over the others. A folded row begins where the first part's trivia ends.
use mathlib.Core.Path.{◌≡◌}
use mathlib.Core.Bool.{Bool}
use mathlib.Core.List.{List}
use Prim.Native.Nat.{ℕ}
use Rattle.reading.specs.Kind.{factorᵏ}
use Rattle.reading.specs.Rules.{trivia, flags, factor_body, expression_factor, term_operator, expression_term, expression_operator, expression}
use Rattle.reading.specs.Summary.{scan}
use Rattle.reading.proofs.Summaries.{Yields}
use Rattle.cursor.specs.Text.{here, Skips}
use Rattle.cursor.specs.Agree.{full, Reads}
use Rattle.cursor.specs.declared.Cursor.{Cursor}
use Rattle.cursor.specs.declared.Skip.{Skip}
use Rattle.cursor.specs.Read.{Read}
use Rattle.cursor.proofs.Lows.{Low, low_node, low_chain}
use Rattle.cursor.proofs.Loops.{ChainLeft, chain_out, chain_got}
use Rattle.expression.proofs.Facts.{factor_solid, term_solid}
use Rattle.std.specs.Prelude.{Ok, IsErr}

module _ {s : List ℕ} {i : ℕ} {met : Bool} {k : Skip} (skips : Skips trivia s i met k) (l : ℕ) where
  low_factor : Yields (Low k.at.0) (scan (full s) expression_factor l (here s i))
  unfolding expression_factor
  low_factor = low_node factorᵏ skips l flags factor_body

  low_term : Yields (Low k.at.0) (scan (full s) expression_term l (here s i))
  unfolding expression_term
  low_term = low_chain term_operator expression_factor s l i low_factor

  -- and so does an expression: for a row that has no place of its own and begins with one
  pub low_expression : Yields (Low k.at.0) (scan (full s) expression l (here s i))
  unfolding expression
  low_expression = low_chain expression_operator expression_term s l i low_term

module _ {s : List ℕ} {c : Cursor} {left : ℕ} {t t₁ : List ℕ} {r₁ : Read} where
  pub term_out : Reads expression_factor s c left t t₁ r₁ → IsErr r₁ → Reads expression_term s c left t t₁ r₁
  unfolding expression_term
  term_out a h = chain_out term_operator expression_factor a h

  pub expression_out : Reads expression_term s c left t t₁ r₁ → IsErr r₁ → Reads expression s c left t t₁ r₁
  unfolding expression
  expression_out a h = chain_out expression_operator expression_term a h

  module _ {met : Bool} {k : Skip} (skips : Skips trivia s c.at.0 met k) (d : Cursor) (e : r₁ ≡ Ok d) {t' : List ℕ} {r : Read} where
    pub term_got : Reads expression_factor s c left t t₁ r₁
        → ChainLeft term_operator expression_factor s c.count.0 k.at.0 left d.at.0 d.count.0 d.met t₁ t' r
        → Reads expression_term s c left t t' r
    unfolding expression_term
    term_got a f = chain_got term_operator expression_factor a factor_solid.quieted k.at.0 (low_factor skips) d e f

    pub expression_got : Reads expression_term s c left t t₁ r₁
        → ChainLeft expression_operator expression_term s c.count.0 k.at.0 left d.at.0 d.count.0 d.met t₁ t' r
        → Reads expression s c left t t' r
    unfolding expression
    expression_got a f = chain_got expression_operator expression_term a term_solid.quieted k.at.0 (low_term skips) d e f
