use Rattle.head.proofs.Wholes.{over_passed}
use Rattle.head.proofs.Tests.{tail_owing}
use Rattle.head.proofs.Statements.{directive_begun, rest_ready, rest_closable, rest_whole}
use lib.Dec.{lit≤}
use Rattle.head.proofs.directive.worded.Goals as goal

pub returns-in_err-d : goal.returns-in_err-d
returns-in_err-d g c = over_passed (c.in_err-d.ensures.reads _) c.from_residual.ensures.1

pub tail-g-requires : goal.tail-g-requires
tail-g-requires g c =
    let h = directive_begun c.args.p.ready c.args.p.skips _ c.requires.1.0 c.in_ok-d.ensures in
    c.requires.1.1.0 _ _ (rest_ready h)

pub whole-requires : goal.whole-requires
whole-requires g c =
    let h = directive_begun c.args.p.ready c.args.p.skips _ c.requires.1.0 c.in_ok-d.ensures in
    let b = c.requires.1.1.1 _ _ _ _ (rest_ready h) c.tail-g.ensures in
    rest_closable h (tail_owing g.behind) (lit≤ tt) b

pub returns : goal.returns
returns g c =
    let h = directive_begun c.args.p.ready c.args.p.skips _ c.requires.1.0 c.in_ok-d.ensures in
    let b = c.requires.1.1.1 _ _ _ _ (rest_ready h) c.tail-g.ensures in
    rest_whole h (tail_owing g.behind) (lit≤ tt) b c.whole.ensures
