use Rattle.std.proofs.Common.{rules}
use Rattle.parser.proofs.Ends.{long_meets, high_meets, scope_meets, level_meets, does_so, meets_lent, meets_back}
use Rattle.parser.proofs.read.Goals as goal

pub returns-then-text-gt-MAX_TEXT : goal.returns-then-text-gt-MAX_TEXT
returns-then-text-gt-MAX_TEXT c = long_meets _ _ _ _ _ _ _ c.if-text-gt-MAX_TEXT.true

pub returns-in-Some : goal.returns-in-Some
returns-in-Some c = high_meets _ _ _ _ _ _ _ _ c.if-text-gt-MAX_TEXT.false c.in-Some.ensures

pub returns-then-scope-gt-MAX_SCOPE : goal.returns-then-scope-gt-MAX_SCOPE
returns-then-scope-gt-MAX_SCOPE c =
    scope_meets _ _ _ _ _ _ _ c.if-text-gt-MAX_TEXT.false c.in_default.ensures c.if-scope-gt-MAX_SCOPE.true

pub returns-then-level-gt-MAX_LEVEL : goal.returns-then-level-gt-MAX_LEVEL
returns-then-level-gt-MAX_LEVEL c =
    level_meets _ _ _ _ _ _ _ c.if-text-gt-MAX_TEXT.false c.in_default.ensures c.if-scope-gt-MAX_SCOPE.false
    c.if-level-gt-MAX_LEVEL.true

pub settle-requires : goal.settle-requires
settle-requires c =
    does_so _ _ _ _ _ _ _ _ _ _ c.if-text-gt-MAX_TEXT.false c.in_default.ensures
    c.if-scope-gt-MAX_SCOPE.false c.if-level-gt-MAX_LEVEL.false c.source_file-done.ensures.does

pub returns : goal.returns
returns c =
    meets_back (meets_lent _ _ _ _ _ _ _ _ _ _ _ _ _ _ c.source_file-done.ensures.same.rows_length c.source_file-done.ensures.same.errors_length c.source_file-done.ensures.same.requests_length
    c.if-text-gt-MAX_TEXT.false c.in_default.ensures c.if-scope-gt-MAX_SCOPE.false
    c.if-level-gt-MAX_LEVEL.false c.settle.ensures.meets) _ _ _ (search rules) (search rules) (search rules)
