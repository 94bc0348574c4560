-- The laws of a note, at each return: no open comment was met, or one is reported.
use mathlib.Core.Path.{ap}
use mathlib.Core.Bool.{not}
use borrow.Author.Tests.{not-false}
use Rattle.state.proofs.Reports.{note_none, note_report}
use Rattle.state.proofs.note.Goals as goal

pub returns-then-not-met : goal.returns-then-not-met
returns-then-not-met c = note_none _ _ _ _ (ap not c.if-not-met.true)

pub returns : goal.returns
returns c = note_report (not-false _ (ap not c.if-not-met.false)) c.report-reported.ensures
