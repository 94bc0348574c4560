-- The answer is that of the definition, so what is shown of it is what it exports.
use borrow.Author.Rules.{rules}
use mathlib.Core.Path.{◌≡◌, ap, ◌∙◌}
use Rattle.std.specs.Prelude.{count_by}
use Rattle.std.specs.Option.{is_some}
use Rattle.vireopatch.proofs.Shown.{shares_shown}
use Rattle.vireopatch.proofs.vireopatch_shares.Goals as goal
use Rattle.vireopatch.specs.Seen.{exported_shares}

pub returns : goal.returns
returns c =
    let n : c.count.result ≡ count_by is_some c.unwrap_or.result.largest = search rules in
    rw (n, c.unwrap_or-2.ensures, c.unwrap_or-3.ensures, c.unwrap_or-4.ensures, c.code_of.ensures, c.given_of.ensures, c.unwrap_or.ensures)
    (shares_shown c.shares-answer.result ∙ ap exported_shares c.shares-answer.ensures.told)
