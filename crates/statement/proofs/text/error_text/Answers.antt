use Rattle.trivia.specs.Class.{bit_of}
use mathlib.Core.Path.{refl}
use native.Mathlib.Omega.{arith}
use Rattle.cursor.proofs.Exits.{passed}
use Rattle.state.proofs.Bounds.{fit_errors}
use Rattle.lexis.proofs.Marks.{told}
use Rattle.expression.proofs.Steps.{skips_told}
use Rattle.statement.proofs.Lifts.{fit_lifts, fit_ready}
use Rattle.statement.proofs.Parts.{text_tells, error_out, error_fit, error_got}
use Rattle.statement.proofs.text.error_text.Goals as goal

pub lifted-requires : goal.lifted-requires
lifted-requires c = fit_lifts c.requires

pub returns-in_err-d : goal.returns-in_err-d
returns-in_err-d c = rw (passed c.from_residual.ensures.1) (error_out (bit_of c.args.class) c.requires (text_tells c.requires c.in_err-d.ensures _ (told c.new-p.ensures.text c.new-p.ensures.start c.run-read.ensures)) refl)

pub report-y-requires : goal.report-y-requires
report-y-requires c =
    let k = skips_told c.new-p.ensures.text c.new-p.ensures.start c.new-p.result.skips in
    let f = error_fit (bit_of c.args.class) c.requires (text_tells c.requires c.in_ok-d.ensures _ (told c.new-p.ensures.text c.new-p.ensures.start c.run-read.ensures)) refl in
    omega (arith, c.requires.small, k.within, f.within, fit_errors f)

pub returns : goal.returns
returns c =
    error_got (bit_of c.args.class) c.requires (text_tells c.requires c.in_ok-d.ensures _ (told c.new-p.ensures.text c.new-p.ensures.start c.run-read.ensures)) (skips_told c.new-p.ensures.text c.new-p.ensures.start c.new-p.result.skips)
    refl c.report-y.ensures

pub new-p-requires : goal.new-p-requires
new-p-requires c = fit_ready c.requires
