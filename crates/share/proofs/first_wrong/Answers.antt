-- What `find` says of the numbers of the range, with what the closure answers at each.
use mathlib.Core.Path.{◌≡◌}
use mathlib.Core.Bool.{true, false}
use borrow.Author.Rules.{rules}
use Rattle.std.proofs.lemmas.Iterator.{first_from_Range}
use Rattle.share.specs.Shares.{trivia_of, length_of, wrong}
use Rattle.share.proofs.Pool.{found_first}
use Rattle.share.proofs.first_wrong.Goals as goal

pub returns : goal.returns
returns c =
    let w = c.args.words.now in
    rw (← c.count.ensures)
    (found_first w _ _
    (first_from_Range _ _ _ _ (λ i. wrong (trivia_of w i) (length_of w i) ≡ true) (λ i. wrong (trivia_of w i) (length_of w i) ≡ false) c.find.ensures.ran
    (λ x q k. search rules)
    (λ x q k. (search rules, search rules))))
