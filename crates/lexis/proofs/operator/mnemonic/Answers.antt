-- The first word of the list, behind what the caller skipped.
use native.Mathlib.Omega.{arith}
use Rattle.word.proofs.Facts.{mnemonics_slight}
use Rattle.word.specs.Words.{mnemonic_list}
use Rattle.lexis.proofs.Marks.{placed}
use Rattle.lexis.proofs.Words.{picked_fits}
use Rattle.lexis.proofs.operator.mnemonic.Goals as goal

pub picked-requires : goal.picked-requires
picked-requires g c =
    let f = picked_fits (mnemonic_list c.args.implied) (mnemonics_slight c.args.implied) (placed c.args.p.ready (omega arith) c.args.p.skips)
    c.mnemonic-word.ensures in
    record { count_bound = f.0; fitting = f.1 }

pub returns : goal.returns
returns g c = (c.picked.ensures.picks _ (mnemonic_list c.args.implied) c.mnemonic-word.ensures).leafs _ c.args.p.skips
