use Rattle.statement.proofs.Lifts.{fit_lifts}
use Rattle.statement.proofs.Quiets.{tells_expected, tried, tried_room}
use Rattle.statement.proofs.Tests.{missing_calm}
use Rattle.statement.proofs.expected.values.Goals as goal

pub lifted-done-requires : goal.lifted-done-requires
lifted-done-requires c = fit_lifts c.requires.fit

pub expected-requires-clause-room : goal.expected-requires-clause-room
expected-requires-clause-room c = tried_room missing_calm.1 c.requires.fit c.lifted-done.ensures c.expression_arg_list-read.ensures

pub returns : goal.returns
returns c = tells_expected (tried missing_calm.1 c.requires.fit c.lifted-done.ensures c.expression_arg_list-read.ensures) 3 c.expected.ensures
