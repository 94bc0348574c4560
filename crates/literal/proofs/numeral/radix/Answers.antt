use mathlib.Core.Path.{refl, sym}
use Rattle.trivia.specs.Class.{bit_of}
use Rattle.lexis.proofs.Marks.{told}
use Rattle.literal.proofs.Numbers.{radix_leafs}
use Rattle.literal.proofs.numeral.radix.Goals as goal

pub returns : goal.returns
returns c =
    rw (sym c.number.ensures) (radix_leafs c.args.p.skips c.args.mark _ (bit_of c.args.class) c.requires c.in_ok-d.ensures refl
    (told c.new.ensures.text c.new.ensures.start c.run.ensures))
