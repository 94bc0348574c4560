-- The marked texts of document 01, and those of request F-1, computed.
use mathlib.Core.Path.{refl}
use Rattle.reading.specs.Rules.{all_rules}
use Rattle.reading.specs.Reading.{written}
use Rattle.reading.specs.Table.{line}
use Rattle.reading.specs.Case.{Hold}
use Rattle.reading.specs.Texts.{texts, line_texts}

-- each reads as document 01 says
pub texts_read : Hold texts
unfolding all_rules written line
texts_read = refl

-- and these as request F-1 does
pub line_texts_read : Hold line_texts
unfolding all_rules written line
line_texts_read = refl
