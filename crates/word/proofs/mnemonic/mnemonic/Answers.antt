-- `word::mnemonic::mnemonic` meets its contract.
-- Assumes nothing.
use mathlib.Core.Path.{◌≡◌, ap, sym, ◌∙◌}
use mathlib.Core.Bool.{Bool}
use mathlib.Core.List.{List}
use Prim.Native.Nat.{ℕ, ◌+◌, ◌≤◌, ◌<◌}
use native.Mathlib.Omega.{arith}
use lib.ListN.{length, get_or, drop}
use Rattle.cursor.specs.Word.{first_word}
use Rattle.reading.specs.Byte.{lower}
use Rattle.word.specs.Hash.{detail_of, pack}
use Rattle.word.specs.Words.{picked_of, mnemonic_list}
use Rattle.word.proofs.Hashes.{word_of, no_detail, a_detail, no_mnemonic, mnemonic_is}
use Rattle.word.proofs.mnemonic.mnemonic.Goals as goal

-- the word is the one of the detail that `detail` gave
read : (b : Bool) (s : List ℕ) (i x y z d : ℕ) → i + 3 ≤ length s
    → x ≡ lower (get_or s i 0) → y ≡ lower (get_or s (i + 1) 0) → z ≡ lower (get_or s (i + 2) 0)
    → x < 256 → y < 256 → z < 256 → d ≡ detail_of (mnemonic_list b) (pack x y z)
    → first_word (mnemonic_list b) (drop i s) ≡ word_of d
read b s i x y z d h p q r hx hy hz e = mnemonic_is b s i x y z h p q r hx hy hz ∙ ap word_of (sym e)

pub returns-then-s-i-lt3 : goal.returns-then-s-i-lt3
unfolding picked_of
returns-then-s-i-lt3 c =
    let a = c.args in
    ap picked_of (sym (no_mnemonic a.implied a.s.now a.at.0 c.if-s-i-lt3.true))

pub returns-then-d-eq0 : goal.returns-then-d-eq0
unfolding picked_of
returns-then-d-eq0 c =
    let a = c.args in
    ap picked_of
    (sym
    (read a.implied a.s.now a.at.0 c.lower-a.result c.lower-b.result c.lower-c.result c.detail-d.result
    (omega arith) c.lower-a.ensures c.lower-b.ensures c.lower-c.ensures (omega arith) (omega arith) (omega arith) c.detail-d.ensures
    ∙ no_detail c.detail-d.result c.if-d-eq0.true))

pub returns : goal.returns
unfolding picked_of
returns c =
    let a = c.args in
    ap picked_of
    (sym
    (read a.implied a.s.now a.at.0 c.lower-a.result c.lower-b.result c.lower-c.result c.detail-d.result
    (omega arith) c.lower-a.ensures c.lower-b.ensures c.lower-c.ensures (omega arith) (omega arith) (omega arith) c.detail-d.ensures
    ∙ a_detail c.detail-d.result (omega arith)))
