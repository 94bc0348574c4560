-- Document 02, F-14 (crate share, specs/Claims), of `vireopatch_shares` and `vireopatch_text_words`, in the numbers that a caller in C holds: any
-- call that meets its contract.
use mathlib.Core.Path.{◌≡◌, refl, ap, sym, subst, ◌∙◌}
use mathlib.Core.List.{List}
use Prim.Native.Nat.{ℕ}
use borrow.Author.Tests.{ne_eqb}
use native.Mathlib.Omega.{arith}
use Rattle.reading.specs.Table.{Answer, answered, refused}
use Rattle.share.specs.Claims.{Refused, too_many, wrong_text, Claimed, NoWords, no_subtree, no_room, wrong_words, Taken}
use Rattle.share.specs.Shares.{Shares, shares}
use Rattle.share.specs.Words.{Text, Told, text_words}
use Rattle.share.proofs.Claims.{claimed}
use Rattle.share.proofs.Words.{words_taken}
use Rattle.vireopatch.specs.Seen.{SeenShares, exported_shares, answer_seen, SeenWords, exported_words, text_seen}

-- a refusal's number is not 0, so its numbers are taken for it
shares_known : {w : List ℕ} {k g : ℕ} → Refused w k g → k ≡ 0 → ⊥
shares_known (too_many h) e = omega (arith, e)
shares_known (wrong_text h i j l) e = omega (arith, e)

shares_again : (w : List ℕ) (a : Answer Shares) → Claimed w a → answer_seen (exported_shares a) ≡ a
unfolding exported_shares
shares_again w (answered s) c = refl
shares_again w (refused k g) c = rw (ne_eqb k 0 (shares_known c))

pub vireopatch_shares_claims : (w : List ℕ) (x : SeenShares) → x ≡ exported_shares (shares w) → Claimed w (answer_seen x)
vireopatch_shares_claims w x m = subst (λ (a : Answer Shares). Claimed w a) (sym (ap answer_seen m ∙ shares_again w (shares w) (claimed w))) (claimed w)

words_known : {count : ℕ} {roots : List ℕ} {k g : ℕ} → NoWords count roots k g → k ≡ 0 → ⊥
words_known no_subtree e = omega (arith, e)
words_known (no_room h i) e = omega (arith, e)
words_known wrong_words e = omega (arith, e)

words_again : (count : ℕ) (roots : List ℕ) (o : Told) → Taken count roots o.answer → text_seen (exported_words o) ≡ o.answer
unfolding exported_words
words_again count roots o = go o.answer o.table
  where
    go : (a : Answer Text) (t : List ℕ) → Taken count roots a → text_seen (exported_words (record { answer = a; table = t })) ≡ a
    go (answered x) t c = refl
    go (refused k g) t c = rw (ne_eqb k 0 (words_known c))

pub vireopatch_text_words_taken : (text rows roots : List ℕ) (count : ℕ) (x : SeenWords) → x ≡ exported_words (text_words text rows count roots)
    → Taken count roots (text_seen x)
vireopatch_text_words_taken text rows roots count x m =
    let c = words_taken text rows roots count in
    subst (λ (a : Answer Text). Taken count roots a) (sym (ap text_seen m ∙ words_again count roots (text_words text rows count roots) c)) c
