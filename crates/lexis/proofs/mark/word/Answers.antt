-- The word stands there, and has a row; or it does not.
use mathlib.Core.Path.{refl, sym, ◌∙◌}
use native.Mathlib.Omega.{arith}
use Rattle.lexis.proofs.Ends.{word_at, word_no, end_in}
use Rattle.lexis.proofs.Marks.{placed, row_fits, behind_found, behind_none}
use Rattle.lexis.proofs.mark.word.Goals as goal

pub row-requires : goal.row-requires
row-requires g c =
    let found = word_at c.args.word.now _ _ (sym c.begins.ensures ∙ c.if-begins.true) (record { 0 = _ }) refl in
    row_fits (placed c.args.p.ready (omega arith) c.args.p.skips) _ _ (end_in tt tt c.args.p.skips.within found).within c.requires

pub returns-then-begins : goal.returns-then-begins
returns-then-begins g c =
    behind_found c.args.p.skips _ c.args.detail tt (word_at c.args.word.now _ _ (sym c.begins.ensures ∙ c.if-begins.true) _ refl) c.row.ensures

pub returns : goal.returns
returns g c =
    behind_none c.args.p.skips _ c.args.detail c.miss.ensures (word_no c.args.word.now _ _ (sym c.begins.ensures ∙ c.if-begins.false))
