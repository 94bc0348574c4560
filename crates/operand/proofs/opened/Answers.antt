-- `(`, too deep or not, and an expression.
use mathlib.Core.Path.{refl}
use mathlib.Core.Bool.{false}
use Rattle.cursor.proofs.Exits.{passed}
use Rattle.lexis.proofs.Solids.{char_solid}
use Rattle.expression.proofs.Facts.{trivia_quiet}
use Rattle.expression.proofs.Steps.{leaf_ready, reads_told, inside_out, inside_none, inside_on}
use Rattle.operand.proofs.opened.Goals as goal

pub returns-in_err-d : goal.returns-in_err-d
returns-in_err-d c = rw (passed c.from_residual.ensures.1) (inside_out c.in_err-d.ensures refl)

pub returns-then-left-eq0 : goal.returns-then-left-eq0
returns-then-left-eq0 c = inside_none c.in_ok-d.ensures trivia_quiet refl c.if-left-eq0.true

pub new-requires : goal.new-requires
new-requires c = leaf_ready (char_solid false 40) c.args.p.ready c.in_ok-d.ensures

pub returns : goal.returns
returns c = inside_on c.in_ok-d.ensures trivia_quiet refl c.if-left-eq0.false (reads_told c.new.ensures.text c.new.ensures.start c.expression.ensures)
