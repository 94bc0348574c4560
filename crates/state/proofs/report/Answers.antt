-- A report that meets the flag is lost, and any other is kept.
use Rattle.state.proofs.Reports.{report_lost, report_kept}
use mathlib.Core.Path.{sym}
use Rattle.state.proofs.report.Goals as goal

pub returns-then-st : goal.returns-then-st
returns-then-st g c = report_lost _ _ _ c.if-st.true

pub returns : goal.returns
returns g c =
    let args = c.args in
    report_kept _ args.st _ c.if-st.false
    (rw (sym c.number.ensures) c.push_error.ensures)
