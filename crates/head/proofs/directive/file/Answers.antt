use mathlib.Core.Bool.{true}
use Rattle.reading.specs.Rules.{file}
use Rattle.cursor.proofs.Laws.{reads_leaf}
use Rattle.head.proofs.Wholes.{over_passed}
use Rattle.head.specs.Heads.{word_of, directive_of}
use Rattle.head.proofs.Tests.{string_owing}
use Rattle.head.proofs.Statements.{directive_begun, rest_ready, rest_closable, rest_whole}
use lib.Dec.{lit≤}
use Rattle.head.proofs.directive.file.Goals as goal

pub returns-in_err-d : goal.returns-in_err-d
unfolding file directive_of word_of
returns-in_err-d c = record { reads = λ left. over_passed (c.in_err-d.ensures.reads left) c.from_residual.ensures.1 }

pub string-g-requires : goal.string-g-requires
string-g-requires c = rest_ready (directive_begun c.args.p.ready c.args.p.skips _ (lit≤ tt) c.in_ok-d.ensures)

pub whole-requires : goal.whole-requires
whole-requires c = rest_closable (directive_begun c.args.p.ready c.args.p.skips _ (lit≤ tt) c.in_ok-d.ensures) (string_owing true) (lit≤ tt) (reads_leaf 0 c.string-g.ensures)

pub returns : goal.returns
unfolding file directive_of word_of
returns c =
    let b = directive_begun c.args.p.ready c.args.p.skips _ (lit≤ tt) c.in_ok-d.ensures in
    record { reads = λ left. rest_whole b (string_owing true) (lit≤ tt) (reads_leaf left c.string-g.ensures) c.whole.ensures }
