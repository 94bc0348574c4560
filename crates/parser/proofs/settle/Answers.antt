use Rattle.std.proofs.Common.{rules}
use mathlib.Core.Path.{ap}
use Rattle.std.specs.Prelude.{is_err}
use Rattle.parser.proofs.Ends.{deep_meets, rows_meet, errors_meet, requests_meet, read_meets}
use Rattle.parser.proofs.settle.Goals as goal

pub returns-in_default : goal.returns-in_default
returns-in_default c = record { same = search rules; meets = deep_meets c.requires (ap is_err c.in_default.is) c.clear.ensures.1 }

pub returns-then-tables-n : goal.returns-then-tables-n
returns-then-tables-n c = record { same = search rules; meets = rows_meet c.requires c.in-Ok.c c.in-Ok.st c.in-Ok.is c.clear-then-tables-n.ensures.1 c.if-tables-n.true }

pub returns-then-tables-e : goal.returns-then-tables-e
returns-then-tables-e c = record { same = search rules; meets = errors_meet c.requires c.in-Ok.c c.in-Ok.st c.in-Ok.is c.clear-then-tables-e.ensures.1 c.if-tables-n.false c.if-tables-e.true }

pub returns-then-tables-q : goal.returns-then-tables-q
returns-then-tables-q c = record {
  same = search rules;
  meets =
      requests_meet c.requires c.in-Ok.c c.in-Ok.st c.in-Ok.is c.clear-then-tables-q.ensures.1 c.if-tables-n.false c.if-tables-e.false c.if-tables-q.true;
}

pub returns : goal.returns
returns c = record {
  same = search rules;
  meets =
      read_meets c.requires c.in-Ok.c c.in-Ok.st c.in-Ok.is c.if-tables-n.false c.if-tables-e.false c.if-tables-q.false c.zero.ensures
      c.zero-2.ensures c.zero-3.ensures;
}
